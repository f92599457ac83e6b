-- What the profile means: its circuits are judged as circuit_channel judges them, and no entry of their blocks has a √2 part.
use Rattle.std.specs.Prelude.{◌≡◌, true, ◌&&◌, List, ℕ, ℤ}
use Rattle.algebra.specs.Lists.{every}
use Rattle.gate.specs.Gate.{gates_of}
use Rattle.kraus.specs.Branch.{Store, branches}
use Rattle.kraus.specs.Blocks.{survivors, block}
use Rattle.circuit.specs.declared.limits.Limits.{Limits}
use Rattle.judge.specs.Call.{verdict_of, accepts, result_after, work_after}
use Rattle.plain.specs.Profile.{in_profile, Plain}
use Rattle.plain.specs.Call.{plain_verdict_of, plain_accepts, plain_result, plain_work}

-- n qubits, m classical bits, the initial store σ, the limits l, the gates' words ws, the result r and the work buffer w
module _ (n m : ℕ) (σ : List ℕ) (l : Limits) (ws : List ℕ) (r w : List ℤ) where
  pub record PlainCall : Type 0 where
    -- accepted is what circuit_channel accepts with every gate in the profile, and nothing else
    pub acceptance : plain_accepts n m σ l ws r w ≡ every in_profile (gates_of ws) && accepts n m σ l ws r w
    -- a circuit whose gates are all in the profile gets the verdict and the words of the full judge
    pub verdict : every in_profile (gates_of ws) ≡ true → plain_verdict_of n m σ l ws r w ≡ verdict_of n m σ l ws r w
    pub result : every in_profile (gates_of ws) ≡ true → plain_result n m σ l ws r w ≡ result_after n m σ l ws r w
    pub work : every in_profile (gates_of ws) ≡ true → plain_work n m σ l ws r w ≡ work_after n m σ l ws r w
    -- accepted: no entry of a block has a √2 part
    pub blocks : plain_accepts n m σ l ws r w ≡ true → (τ : Store) (i j : ℕ) → Plain (block (survivors (branches n σ (gates_of ws))) τ i j)

abbrev pub PlainCalls : Type 0
PlainCalls = (n m : ℕ) (σ : List ℕ) (l : Limits) (ws : List ℕ) (r w : List ℤ) → PlainCall n m σ l ws r w
