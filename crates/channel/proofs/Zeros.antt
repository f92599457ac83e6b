-- The shared form by one shift of a whole block: as far as the trailing zeros that all its numerators share.
use mathlib.Core.Path.{◌≡◌, sym, ap, ◌∙◌, subst}
use mathlib.Core.Bool.{Bool, true, false, not}
use Prim.Native.Nat.{ℕ, ◌/◌, ◌-◌, ◌%◌, ◌^◌, min, ◌≤◌, ◌<◌}
use native.Mathlib.Decide.{dec_lt}
use native.Mathlib.Omega.{arith}
use lib.Dec.{eqb}
use lib.Count.{count_trailing_zeros}
use borrow.Author.Tests.{eq-eqb, ne_eqb}
use Rattle.algebra.specs.Dyadic.{frac}
use Rattle.algebra.proofs.Tests.{all-at, or_right}
use Rattle.algebra.proofs.Signed.{zeros-low, zeros-top, masked}
use Rattle.exact.specs.Exact.{Number, number_halves, lowest}
use Rattle.exact.proofs.Zeros.{shifted, lowest_shift}
use Rattle.channel.specs.Shared.{all_halves, is_shared, shared}
use Rattle.channel.specs.Forms.{Alike}
use Rattle.channel.proofs.Shared.{shared-zero, shared_of}

-- each of n numbers shifted by t: all are even before each step of the shift, and after it t is e or one is odd
pub by_shift : (n e t : ℕ) (z : ℕ → Number) → t ≤ e → ((j : ℕ) → j < t → (all_halves n).even (λ (k : ℕ). shifted (z k) j) ≡ true)
    → (t < e → (all_halves n).even (λ (k : ℕ). shifted (z k) t) ≡ false)
    → Alike n (frac (λ (k : ℕ). shifted (z k) t) (e - t)) (shared n (λ (k : ℕ). lowest (z k) e))
by_shift n e t z h ev od =
    shared_of n (frac (λ (k : ℕ). shifted (z k) t) (e - t)) (λ (k : ℕ). lowest (z k) e) (test (dec_lt t e))
    (λ k l. sym (lowest_shift (z k) e t h (λ j p. all-at n (λ (k : ℕ). number_halves.even (shifted (z k) j)) (ev j p) k l)))
  where
    test : Dec (t < e) → is_shared n (frac (λ (k : ℕ). shifted (z k) t) (e - t)) ≡ true
    test (yes l) = or_right (eqb (e - t) 0) _ (ap not (od l))
    test (no l) = shared-zero n (frac (λ (k : ℕ). shifted (z k) t) (e - t)) (omega arith)

-- p holds below the lesser of t and e, and not at it, unless it is e
pub record Least (e t : ℕ) (p : ℕ → Bool) : Type 0 where
  pub below : (j : ℕ) → j < min t e → p j ≡ true
  pub at : min t e < e → p (min t e) ≡ false

-- by the count t of the zeros that end u, whose digits tell where p holds
pub zeros_least : (e t u : ℕ) (p : ℕ → Bool) → ((j : ℕ) → j < 63 → eqb (u / 2 ^ j % 2) 0 ≡ p j) → e ≤ 63 → t ≡ count_trailing_zeros 64 (u % 2 ^ 63) → Least e t p
zeros_least e t u p digits small count = record { below = below; at = at }
  where
    digit : (j : ℕ) → j < 63 → eqb (u % 2 ^ 63 / 2 ^ j % 2) 0 ≡ p j
    digit j h = ap (λ (k : ℕ). eqb k 0) (masked u j h) ∙ digits j h

    below : (j : ℕ) → j < min t e → p j ≡ true
    below j h = sym (digit j (omega arith)) ∙ eq-eqb _ 0 (zeros-low 64 (u % 2 ^ 63) j (omega arith))

    at : min t e < e → p (min t e) ≡ false
    at h =
        let q : t ≡ min t e = omega arith in
        subst (λ (s : ℕ). p s ≡ false) q (sym (digit t (omega arith)) ∙ ne_eqb _ 0 top)
      where
        top : u % 2 ^ 63 / 2 ^ t % 2 ≡ 0 → ⊥
        top q = zeros-top 64 (u % 2 ^ 63) (omega arith) (subst (λ (k : ℕ). u % 2 ^ 63 / 2 ^ k % 2 ≡ 0) count q)

-- the digits of u tell where all are even
pub by-zeros : (n e t u : ℕ) (z : ℕ → Number) → ((j : ℕ) → j < 63 → eqb (u / 2 ^ j % 2) 0 ≡ (all_halves n).even (λ (k : ℕ). shifted (z k) j)) → e ≤ 63 → t ≡ count_trailing_zeros 64 (u % 2 ^ 63)
    → Alike n (frac (λ (k : ℕ). shifted (z k) (min t e)) (e - min t e)) (shared n (λ (k : ℕ). lowest (z k) e))
by-zeros n e t u z digits small count =
    let least = zeros_least e t u (λ (j : ℕ). (all_halves n).even (λ (k : ℕ). shifted (z k) j)) digits small count in
    by_shift n e (min t e) z (omega arith) least.below least.at
