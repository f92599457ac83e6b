-- The gates of a list of words, from gate i on.
use mathlib.Core.Path.{◌≡◌, refl, sym, ap, ◌∙◌}
use mathlib.Core.List.{List, [], ◌∷◌}
use Prim.Native.Nat.{ℕ, zero, suc, ◌+◌, ◌-◌, ◌*◌, ◌≤◌, ◌<◌}
use native.Mathlib.Nat.{not-suc-le-zero, le_of_suc-le-suc, add-zero}
use native.Mathlib.Numerals.{add-one}
use native.Mathlib.Omega.{arith}
use lib.ListN.{length, get_or}
use Rattle.gate.specs.Gate.{Gate, gate_size, gate_at, gates_from}

pub gates-more : (ws : List ℕ) (n i : ℕ) → i < n → gates_from ws i (n - i) ≡ gate_at ws (i * gate_size) ∷ gates_from ws (i + 1) (n - (i + 1))
gates-more ws n i l = let e : n - i ≡ suc (n - (i + 1)) = omega arith in rw (e, add-one i)

pub gates-none : (ws : List ℕ) (n i : ℕ) → n ≤ i → gates_from ws i (n - i) ≡ []
gates-none ws n i l = let e : n - i ≡ 0 = omega arith in rw e

pub gates-length : (ws : List ℕ) (i n : ℕ) → length (gates_from ws i n) ≡ n
gates-length ws i zero = refl
gates-length ws i (suc n) = ap suc (gates-length ws (suc i) n)

-- gate k from the i-th on
pub gates-at : (ws : List ℕ) (i n k : ℕ) (z : Gate) → k < n → get_or (gates_from ws i n) k z ≡ gate_at ws ((i + k) * gate_size)
gates-at ws i zero k z h = absurd (not-suc-le-zero h)
gates-at ws i (suc n) zero z h = ap (λ (j : ℕ). gate_at ws (j * gate_size)) (sym (add-zero i))
gates-at ws i (suc n) (suc k) z h = gates-at ws (suc i) n k z (le_of_suc-le-suc h) ∙ ap (λ (j : ℕ). gate_at ws (j * gate_size)) (place i k)
  where
    place : (i k : ℕ) → suc i + k ≡ i + suc k
    place i k = omega arith
