-- The first gate that clashes, as the loops find it.
use Rattle.std.specs.Prelude.{Bool, false, cond, ◌&&◌, ◌||◌, List, ℕ, zero, suc, ◌+◌, ◌-◌, ◌*◌, eqb, Ok, Err}
use Rattle.verdict.specs.Questions.{Verdict}
use Rattle.verdict.specs.declared.Refusal.TheVariants.{ClashAt}
use Rattle.gate.specs.Gate.{gate_size, gate_at, share}
use Rattle.circuit.specs.Layers.{layer_of}

-- p holds at one of the n numbers from `from` on
abbrev pub any_from : ℕ → ℕ → (ℕ → Bool) → Bool
any_from from zero p = false
any_from from (suc n) p = p (from + n) || any_from from n p

-- a refusal that names the first of the n numbers from i on at which p holds; acceptance where it holds at none
abbrev pub first_clash : ℕ → ℕ → (ℕ → Bool) → Verdict
first_clash i zero p = Ok tt
first_clash i (suc n) p = cond (p i) (Err (ClashAt i)) (first_clash (suc i) n p)

-- gates i and j of a list of words share
abbrev pub sharing : List ℕ → ℕ → ℕ → Bool
sharing ws i j = share (gate_at ws (i * gate_size)) (gate_at ws (j * gate_size))

-- gate i shares with one of those before it, from gate `start` on
abbrev pub shares_from : List ℕ → ℕ → ℕ → Bool
shares_from ws start i = any_from start (i - start) (sharing ws i)

-- gate i shares with an earlier one of its layer
abbrev pub clashes_at : List ℕ → List ℕ → ℕ → Bool
clashes_at ws ends i = any_from 0 i (λ (j : ℕ). eqb (layer_of ends i) (layer_of ends j) && sharing ws i j)
