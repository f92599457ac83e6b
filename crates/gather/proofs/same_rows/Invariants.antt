-- `same_rows` meets its contract: each row is the same, or one that differs decides.
use mathlib.Core.Path.{◌≡◌}
use mathlib.Core.Bool.{true}
use Prim.Native.Nat.{◌*◌}
use Rattle.gather.specs.Words.{same_words}
use Rattle.gather.proofs.same_rows.Given as goal

abbrev pub invariant-loop-r : goal.invariant-loop-r
invariant-loop-r l = same_words l.s 0 l.t 0 (l.r * 64) ≡ true
