-- `input::judge` meets its contract.
use Rattle.std.proofs.Common.{length}
use Rattle.circuit_text.proofs.Judging.{Judging}
use Rattle.circuit_text.proofs.input.judge.Given as goal

abbrev pub invariant-loop-piece : goal.invariant-loop-piece
invariant-loop-piece l = Judging l.text (length l.yielded) l.seen
