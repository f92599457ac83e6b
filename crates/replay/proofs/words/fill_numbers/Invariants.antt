-- `words::fill_numbers` meets its contract.
use Rattle.std.proofs.Common.{length}
use Rattle.replay.proofs.Filling.{Numbers}
use Rattle.replay.proofs.words.fill_numbers.Given as goal

abbrev pub invariant-loop-kept : goal.invariant-loop-kept
invariant-loop-kept g l = Numbers g.T.Number.low_of l.text l.initial.next (length l.initial.words) l.words l.next l.kept-index
