-- `Record::numbers` meets its contract.
use Rattle.std.proofs.Common.{◌≡◌, take}
use Rattle.replay.specs.Record.{with_sizes}
use Rattle.replay.proofs.record.Record.numbers.Given as goal

abbrev pub invariant-loop-n : goal.invariant-loop-n
invariant-loop-n g l = l.seen ≡ with_sizes g.T.Number.size_of l.text l.initial.seen (take l.n-index l.ns)
