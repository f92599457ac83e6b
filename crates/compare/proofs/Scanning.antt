-- The scan of two blocks for their first unequal entry, step by step.
use mathlib.Core.Path.{◌≡◌, refl, sym, ap, ◌∙◌}
use mathlib.Core.Bool.{Bool, true, false, cond}
use Prim.Native.Nat.{ℕ, zero, suc, ◌+◌, ◌*◌, ◌-◌, ◌/◌, ◌%◌, ◌<◌}
use native.Mathlib.Nat.{add-zero}
use native.Mathlib.Numerals.{add-one}
use native.Mathlib.Omega.{arith}
use lib.Arith.{digits_div, digits_mod}
use Rattle.std.specs.Prelude.{Some, None}
use Rattle.exact.specs.Exact.{equal}
use Rattle.compare.specs.Compare.{Both, entry, scan}

module _ (b : Both) (w m k : ℕ) (h : k < m) where
  step : scan b w (m - k) k ≡ cond (equal (b.left k) (b.right k)) (scan b w (m - (k + 1)) (suc k)) (Some (entry b.store (k / w) (k % w) (b.left k) (b.right k)))
  unfolding scan
  step = let e : m - k ≡ suc (m - (k + 1)) = omega arith in ap (λ (n : ℕ). scan b w n k) e

  pub agrees : equal (b.left k) (b.right k) ≡ true → scan b w (m - k) k ≡ scan b w (m - (k + 1)) (k + 1)
  agrees e =
      step ∙ ap (λ (t : Bool). cond t (scan b w (m - (k + 1)) (suc k)) (Some (entry b.store (k / w) (k % w) (b.left k) (b.right k)))) e
      ∙ ap (scan b w (m - (k + 1))) (sym (add-one k))

  pub differs : (row col : ℕ) → k ≡ row * w + col → col < w → equal (b.left k) (b.right k) ≡ false → scan b w (m - k) k ≡ Some (entry b.store row col (b.left k) (b.right k))
  differs row col p q e =
      step ∙ ap (λ (t : Bool). cond t (scan b w (m - (k + 1)) (suc k)) (Some (entry b.store (k / w) (k % w) (b.left k) (b.right k)))) e
      ∙ (λ i. Some (entry b.store ((ap (λ (n : ℕ). n / w) p ∙ digits_div row q) i) ((ap (λ (n : ℕ). n % w) p ∙ digits_mod row q) i) (b.left k) (b.right k)))

pub done : (b : Both) (w m k : ℕ) → k ≡ m → scan b w (m - k) k ≡ None
unfolding scan
done b w m k e = let z : m - k ≡ 0 = omega arith in ap (λ (n : ℕ). scan b w n k) z

-- n entries that are equal, from k on
pub all-agree : (b : Both) (w n k : ℕ) → ((i : ℕ) → i < n → equal (b.left (k + i)) (b.right (k + i)) ≡ true) → scan b w n k ≡ None
unfolding scan
all-agree b w zero k h = refl
all-agree b w (suc n) k h =
    ap (λ (t : Bool). cond t (scan b w n (suc k)) (Some (entry b.store (k / w) (k % w) (b.left k) (b.right k))))
    (ap (λ (j : ℕ). equal (b.left j) (b.right j)) (sym (add-zero k)) ∙ h 0 (omega arith))
    ∙ all-agree b w n (suc k) (λ i l. let e : suc k + i ≡ k + suc i = omega arith in ap (λ (j : ℕ). equal (b.left j) (b.right j)) e ∙ h (suc i) (omega arith))
