-- Layers that fire together: any order inside a layer gives the same channel.
use Rattle.std.specs.Prelude.{◌≡◌, ◌≢◌, Bool, true, false, List, [], ◌∷◌, ℕ, ◌%◌, ◌<◌, length, get_or, ℤ}
use Rattle.algebra.specs.Schedule.{Schedule}
use Rattle.verdict.specs.Questions.{decided_by}
use Rattle.gate.specs.Gate.{Gate, gate, gate_size, gates_of, elem}
use Rattle.circuit.specs.declared.limits.Limits.{Limits}
use Rattle.circuit.specs.Layers.{layer_of, layered_questions}
use Rattle.judge.specs.Layered.{layered_verdict_of, layered_accepts, layered_result}
use Rattle.demands.specs.Demands.{SameChannel}

-- vs has the gates of ws in another order, by a table from new places to old ones that moves no gate out of its layer. A list that fails question 2 has only itself.
pub data Refired (ends ws vs table : List ℕ) : Type 0 where
  itself : length ws % gate_size ≢ 0 → vs ≡ ws → Refired ends ws vs table
  moved : length ws % gate_size ≡ 0 → length vs % gate_size ≡ 0 → Schedule (λ (g h : Gate). false) (gate 0 0 0 0 0) (gates_of ws) (gates_of vs) table
      → ((i : ℕ) → i < length table → layer_of ends (get_or table i 0) ≡ layer_of ends i) → Refired ends ws vs table

-- the questions that name a gate: 4 to 6, and 12
abbrev pub of_one_gate : ℕ → Bool
of_one_gate k = elem k (4 ∷ 5 ∷ 6 ∷ 12 ∷ [])

-- a layered circuit with the buffers r and w, and a reordering of it with the buffers s and x: a question that names a gate decides for both or for neither; any other refusal is the same
module _ (n m : ℕ) (σ : List ℕ) (l : Limits) (ws vs ends : List ℕ) (r w s x : List ℤ) where
  pub record FiredAlike : Type 0 where
    pub acceptance : layered_accepts n m σ l vs ends s x ≡ layered_accepts n m σ l ws ends r w
    pub gates : of_one_gate (decided_by (layered_questions n m σ l vs ends (length s) (length x))) ≡ of_one_gate (decided_by (layered_questions n m σ l ws ends (length r) (length w)))
    pub refusal : of_one_gate (decided_by (layered_questions n m σ l ws ends (length r) (length w))) ≡ false → layered_verdict_of n m σ l vs ends s x ≡ layered_verdict_of n m σ l ws ends r w
    pub channels : layered_accepts n m σ l ws ends r w ≡ true → SameChannel (layered_result n m σ l ws ends r w) (layered_result n m σ l vs ends s x)

-- for every layered circuit, sound or faulty, and every reordering inside its layers, whatever buffers of the same lengths held
abbrev pub Layers : Type 0
Layers = (n m : ℕ) (σ : List ℕ) (l : Limits) (ws vs ends table : List ℕ) → Refired ends ws vs table
    → (r w s x : List ℤ) → length s ≡ length r → length x ≡ length w → FiredAlike n m σ l ws vs ends r w s x
