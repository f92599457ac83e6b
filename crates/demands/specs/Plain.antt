-- The plain-gate profile: an accepted circuit of it has the full judge's channel, and no entry of a block, as read back from the words, has a √2 part.
use Rattle.std.specs.Prelude.{◌≡◌, true, List, ℕ, ◌+◌, ◌*◌, ◌^◌, ◌<◌, ℤ}
use Rattle.algebra.specs.Lists.{All}
use Rattle.gate.specs.Gate.{gates_of}
use Rattle.kraus.specs.Branch.{branches}
use Rattle.kraus.specs.Blocks.{survivors}
use Rattle.circuit.specs.declared.limits.Limits.{Limits}
use Rattle.channel.specs.Layout.{Block, side, read_back}
use Rattle.judge.specs.Call.{accepts, result_after, work_after}
use Rattle.plain.specs.Profile.{Plain}
use Rattle.plain.specs.Call.{plain_accepts, plain_result, plain_work}
use Rattle.demands.specs.Demands.{IsChannel}

-- n qubits, m classical bits, the initial store σ, the limits l, the gates' words ws, the result r and the work buffer w
module _ (n m : ℕ) (σ : List ℕ) (l : Limits) (ws : List ℕ) (r w : List ℤ) where
  pub record PlainDelivers : Type 0 where
    pub full : accepts n m σ l ws r w ≡ true
    pub result : plain_result n m σ l ws r w ≡ result_after n m σ l ws r w
    pub work : plain_work n m σ l ws r w ≡ work_after n m σ l ws r w
    pub channel : IsChannel n m (survivors (branches n σ (gates_of ws))) (plain_result n m σ l ws r w)
    pub entries : All (λ (a : Block). (i j : ℕ) → i < side (2 ^ n) → j < side (2 ^ n) → Plain (a.entry (i * side (2 ^ n) + j))) (read_back (plain_result n m σ l ws r w))

-- whatever the buffers held
abbrev pub PlainChannels : Type 0
PlainChannels = (n m : ℕ) (σ : List ℕ) (l : Limits) (ws : List ℕ) (r w : List ℤ) → plain_accepts n m σ l ws r w ≡ true → PlainDelivers n m σ l ws r w
