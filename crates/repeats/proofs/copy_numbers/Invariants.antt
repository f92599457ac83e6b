-- `copy_numbers` meets its contract: c numbers are written.
use Prim.Native.Nat.{ℕ, ◌+◌, ◌*◌}
use Rattle.algebra.proofs.Blocks.{Writing}
use Rattle.exact.specs.Exact.{list_of}
use Rattle.share.specs.Share.{number_in}
use Rattle.repeats.proofs.copy_numbers.Given as goal

abbrev pub invariant-loop-c : goal.invariant-loop-c
invariant-loop-c l = Writing 4 l.initial.s l.to l.n (λ (k : ℕ). list_of (number_in l.initial.s (l.from + k * 4))) l.s l.c
