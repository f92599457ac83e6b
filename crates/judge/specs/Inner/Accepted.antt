-- What is known of a call once its questions are answered.
use Rattle.std.specs.Prelude.{◌≡◌, true, List, ℕ, ℤ}
use Rattle.circuit.specs.declared.limits.Limits.{Limits}
use Rattle.judge.specs.Call.{accepts}

-- some limits accept it: n qubits, m bits, the initial store σ, the gates' words ws, the result r and the work buffer w
pub record Accepted (n m : ℕ) (σ : List ℕ) (ws : List ℕ) (r w : List ℤ) : Type 0 where
  pub limits : Limits
  pub yes : accepts n m σ limits ws r w ≡ true
