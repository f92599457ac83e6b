-- What is known of a call once its questions are answered.
use Rattle.std.specs.Prelude.{◌≡◌, true, List, ℕ, ◌^◌, ℤ}
use Rattle.algebra.specs.Lists.{total}
use Rattle.circuit.specs.declared.limits.Limits.{Limits}
use Rattle.pauli_nodes.specs.Operations.{splits}
use Rattle.pauli_words.specs.Words.{operations_of}
use Rattle.pauli.specs.Call.{accepts}

-- some limits accept it
pub record Accepted (n m : ℕ) (σ ns os : List ℕ) (r w : List ℤ) : Type 0 where
  pub limits : Limits
  pub yes : accepts n m σ limits ns os r w ≡ true

-- a program of an accepted call, to be run with d rows and so many branches
pub record Runnable (n : ℕ) (σ ns os : List ℕ) (w : List ℤ) (d banks : ℕ) : Type 0 where
  pub bits : ℕ
  pub result : List ℤ
  pub accepted : Accepted n bits σ ns os result w
  pub dim : d ≡ 2 ^ n
  pub count : banks ≡ 2 ^ total splits (operations_of os)
