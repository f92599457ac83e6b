-- Laws of bits and binary digits.
use mathlib.Core.Path.{◌≡◌, refl, sym, ap, ◌∙◌}
use mathlib.Core.List.{List, [], ◌∷◌, map}
use Prim.Native.Nat.{ℕ, zero, suc, ◌+◌, ◌*◌, ◌-◌, ◌/◌, ◌%◌, ◌^◌, ◌<◌, ◌≤◌}
use native.Mathlib.Nat.{one-mul, lt_of_lt_of_le, div-eq_of_lt, mod-eq_of_lt}
use native.Mathlib.Omega.{arith}
use lib.Dec.{lit<}
use lib.Pow.{shl_exact, pow_mono}
use Rattle.store.specs.Store.{bits}
use Rattle.answers.specs.States.{store_bits, binary}

-- ---- the bits of a store
abbrev pub bit_bytes : ℕ → ℕ → List ℕ
bit_bytes m s = map (λ (b : ℕ). 48 + b) (bits m s)

pub bits_none : (m s : ℕ) → m ≡ 0 → 45 ∷ [] ≡ store_bits m s
unfolding store_bits
bits_none m s e = ap (λ (k : ℕ). store_bits k s) (sym e)

pub bits-some : (m s : ℕ) → (m ≡ 0 → ⊥) → bit_bytes m s ≡ store_bits m s
unfolding store_bits
bits-some zero s e = absurd (e refl)
bits-some (suc m) s e = refl

pub bits-more : (m s : ℕ) → 0 < m → bit_bytes m s ≡ (48 + s % 2) ∷ bit_bytes (m - 1) (s / 2)
bits-more m s h = let e : m ≡ suc (m - 1) = omega arith in ap (λ (k : ℕ). bit_bytes k s) e

pub bits-end : (m s : ℕ) → m ≤ 0 → bit_bytes m s ≡ []
bits-end m s h = let e : m ≡ 0 = omega arith in ap (λ (k : ℕ). bit_bytes k s) e

-- ---- binary digits
pub binary-more : (n x : ℕ) → 0 < n → binary n x ≡ (48 + x / 2 ^ (n - 1) % 2) ∷ binary (n - 1) x
unfolding binary
binary-more n x h = let e : n ≡ suc (n - 1) = omega arith in ap (λ (k : ℕ). binary k x) e

pub binary-end : (n x : ℕ) → n ≤ 0 → binary n x ≡ []
unfolding binary
binary-end n x h = let e : n ≡ 0 = omega arith in ap (λ (k : ℕ). binary k x) e

-- a word, by a power of two
pub power : (k : ℕ) → k < 64 → 1 * 2 ^ k % 2 ^ 64 ≡ 2 ^ k
power k h = shl_exact {a = 1} 1 k 64 (lit< tt) (omega arith) ∙ one-mul (2 ^ k)

module _ (x k : ℕ) (h : x < 2 ^ 64) (g : 64 ≤ k) where
  less : x < 2 ^ k
  less = lt_of_lt_of_le h (pow_mono g)

  pub high_none : 0 ≡ x / 2 ^ k
  high_none = sym (div-eq_of_lt less)

  pub low-all : x ≡ x % 2 ^ k
  low-all = sym (mod-eq_of_lt less)
