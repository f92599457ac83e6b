-- `Repeats::write_row` meets its contract: c products are written.
use Prim.Native.Nat.{ℕ}
use Rattle.algebra.proofs.Blocks.{Writing}
use Rattle.exact.specs.Exact.{number_of, list_of}
use Rattle.repeats.specs.Inner.Repeats.{times}
use Rattle.repeats.proofs.Repeats.write_row.Given as goal

abbrev pub invariant-loop-c : goal.invariant-loop-c
invariant-loop-c l = Writing 4 l.initial.res l.to l.self.w (λ (i : ℕ). list_of (times (number_of l.x) l.self.work.now l.self.k i)) l.res l.c
