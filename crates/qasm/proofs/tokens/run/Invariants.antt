-- The bytes before byte i pass the test.
use Rattle.std.proofs.Common.{◌≡◌, Bool, ℕ, ◌<◌, true}
use lib.ListN.{get_or}
use Rattle.qasm.proofs.tokens.run.Given as goal

abbrev pub invariant-loop-i : goal.invariant-loop-i
invariant-loop-i g l = (p : ℕ → Bool) → ((b : ℕ) (r : Bool) → b < 256 → goal.F-post g l.test b r → r ≡ p b) → (k : ℕ) → k < l.i → p (get_or l.text k 0) ≡ true
