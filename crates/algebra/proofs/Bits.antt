-- Numbers of lists of bits: how large they are, by their low and high parts, and with one bit written.
use mathlib.Core.Path.{◌≡◌, refl, sym, ap, ◌∙◌}
use mathlib.Core.List.{List, [], ◌∷◌}
use Prim.Native.Nat.{ℕ, zero, suc, ◌+◌, ◌*◌, ◌-◌, ◌/◌, ◌%◌, ◌^◌, ◌<◌, ◌≤◌}
use native.Mathlib.Nat.{pow-succ', mul_assoc, mul_comm, le_of_suc-le-suc, not-suc-le-zero, add-mul-div_left, div-eq_of_lt, zero-add, mul-le-mul, le_refl}
use native.Mathlib.Omega.{arith}
use lib.Pow.{pow_pos}
use lib.ListN.{length, get_or, set, take, drop}
use Rattle.algebra.specs.Lists.{All}
use Rattle.algebra.specs.Words.{from_bits}

-- each is 0 or 1
abbrev Bits : List ℕ → Type 0
Bits = All (λ (b : ℕ). b < 2)

pub bits-take : (k : ℕ) (σ : List ℕ) → Bits σ → Bits (take k σ)
bits-take zero σ h = tt
bits-take (suc k) [] h = tt
bits-take (suc k) (b ∷ σ) h = (h.0, bits-take k σ h.1)

pub bits-drop : (k : ℕ) (σ : List ℕ) → Bits σ → Bits (drop k σ)
bits-drop zero σ h = h
bits-drop (suc k) [] h = tt
bits-drop (suc k) (b ∷ σ) h = bits-drop k σ h.1

pub bits_below : (σ : List ℕ) → Bits σ → from_bits σ < 2 ^ length σ
bits_below [] h = omega arith
bits_below (b ∷ σ) h = omega (arith, h.0, bits_below σ h.1, pow-succ' 2 (length σ))

pub take_below : (k : ℕ) (σ : List ℕ) → Bits σ → from_bits (take k σ) < 2 ^ k
take_below zero σ h = omega arith
take_below (suc k) [] h = pow_pos (suc k)
take_below (suc k) (b ∷ σ) h = omega (arith, h.0, take_below k σ h.1, pow-succ' 2 k)

twice : (k x : ℕ) → 2 ^ suc k * x ≡ 2 * (2 ^ k * x)
twice k x = ap (λ (p : ℕ). p * x) (pow-succ' 2 k) ∙ mul_assoc 2 (2 ^ k) x

-- the low k bits and the others
pub bits_parts : (k : ℕ) (σ : List ℕ) → from_bits σ ≡ from_bits (take k σ) + 2 ^ k * from_bits (drop k σ)
bits_parts zero σ = omega arith
bits_parts (suc k) [] = omega arith
bits_parts (suc k) (b ∷ σ) = omega (arith, bits_parts k σ, twice k (from_bits (drop k σ)))

high_part : (k : ℕ) (σ : List ℕ) → Bits σ → from_bits σ / 2 ^ k ≡ from_bits (drop k σ)
high_part k σ h =
    ap (λ (x : ℕ). x / 2 ^ k) (bits_parts k σ) ∙ add-mul-div_left (from_bits (take k σ)) (from_bits (drop k σ)) (pow_pos k)
    ∙ ap (λ (x : ℕ). x + from_bits (drop k σ)) (div-eq_of_lt (take_below k σ h)) ∙ zero-add (from_bits (drop k σ))

first : (k : ℕ) (σ : List ℕ) → Bits σ → from_bits (drop k σ) % 2 ≡ get_or σ k 0
first zero [] h = refl
first zero (b ∷ σ) h = omega (arith, h.0)
first (suc k) [] h = refl
first (suc k) (b ∷ σ) h = first k σ h.1

-- bit k, and the number with bit k written
bit_at : (k : ℕ) (σ : List ℕ) → Bits σ → from_bits σ / 2 ^ k % 2 ≡ get_or σ k 0
bit_at k σ h = ap (λ (x : ℕ). x % 2) (high_part k σ h) ∙ first k σ h

written : (σ : List ℕ) (k v : ℕ) → k < length σ → from_bits (set σ k v) + get_or σ k 0 * 2 ^ k ≡ from_bits σ + v * 2 ^ k
written [] k v h = absurd (not-suc-le-zero h)
written (b ∷ σ) zero v h = omega arith
written (b ∷ σ) (suc k) v h = omega (
  arith,
  written σ k v (le_of_suc-le-suc h),
  mul_comm (get_or σ k 0) (2 ^ suc k),
  twice k (get_or σ k 0),
  mul_comm (2 ^ k) (get_or σ k 0),
  mul_comm v (2 ^ suc k),
  twice k v,
  mul_comm (2 ^ k) v,
)

old_in : (σ : List ℕ) (k : ℕ) → get_or σ k 0 * 2 ^ k ≤ from_bits σ
old_in [] k = omega arith
old_in (b ∷ σ) zero = omega arith
old_in (b ∷ σ) (suc k) = omega (arith, old_in σ k, mul_comm (get_or σ k 0) (2 ^ suc k), twice k (get_or σ k 0), mul_comm (2 ^ k) (get_or σ k 0))

pub bits-set : (σ : List ℕ) (k v : ℕ) → Bits σ → k < length σ → from_bits (set σ k v) ≡ from_bits σ - from_bits σ / 2 ^ k % 2 * 2 ^ k + v * 2 ^ k
bits-set σ k v b h =
    let e : from_bits (set σ k v) ≡ from_bits σ - get_or σ k 0 * 2 ^ k + v * 2 ^ k = omega (arith, written σ k v h, old_in σ k) in
    e ∙ ap (λ (x : ℕ). from_bits σ - x * 2 ^ k + v * 2 ^ k) (sym (bit_at k σ b))

pub bit-weight : (b p : ℕ) → b ≤ 1 → b * p ≤ p
bit-weight b p h = omega (arith, mul-le-mul h (le_refl p))
