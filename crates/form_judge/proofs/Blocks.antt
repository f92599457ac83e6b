-- The test that another form restores a block, row by row.
use mathlib.Core.Path.{◌≡◌, refl, sym, ap, ◌∙◌, subst}
use mathlib.Core.Bool.{Bool, true, false, not, ◌&&◌, ◌||◌}
use Prim.Native.Nat.{ℕ, zero, suc, ◌+◌, ◌*◌, ◌-◌, ◌/◌, ◌%◌, ◌^◌, ◌<◌, ◌≤◌}
use native.Mathlib.Nat.{div-add-mod', mod-lt, div-lt_iff_lt-mul}
use native.Mathlib.Decide.{dec_lt}
use native.Mathlib.Omega.{arith}
use lib.IntN.{ℤ, pos, negsuc, neg_ℤ, nat_abs}
use borrow.Author.Tests.{eqb-true, eq-eqb}
use mir.Syntax.{w64}
use mir.Val.{of_z}
use Rattle.algebra.specs.Dyadic.{frac}
use Rattle.algebra.specs.Lists.{all_below}
use Rattle.algebra.specs.Quadratic.{conjugate}
use Rattle.algebra.specs.Words.{eqℤ}
use Rattle.algebra.proofs.Signed.{eqℤ-true, eqℤ-refl}
use Rattle.algebra.proofs.Tests.{and_split, test_same, all-at, all-by}
use Rattle.exact.specs.Exact.{Number, root2, conj, max_numerator}
use Rattle.exact.specs.Inner.Sizes.{Within}
use Rattle.exact.proofs.Equal.{equal-true, equal_of}
use Rattle.exact.proofs.Exact.{conj-conj}
use Rattle.channel.specs.Layout.{form}
use Rattle.channel.proofs.Restore.{cell_below}
use Rattle.channel.specs.Forms.{is_conjugate, has_root, restores}
use Rattle.form_judge.specs.Inner.Judging.{opposite, mirrors, mirrored, rational, row_fits}

-- ---- numbers in range
-- no sum of two leaves a word
opposite-is : (x y : ℤ) → nat_abs x ≤ max_numerator → nat_abs y ≤ max_numerator → opposite x y ≡ eqℤ x (neg_ℤ y)
opposite-is x y h k = test_same _ _ (λ e. ap (eqℤ x) (there x y h k (eqb-true _ 0 e)) ∙ eqℤ-refl x) (λ e. eq-eqb _ 0 (ap (λ (z : ℤ). (of_z w64 z + of_z w64 y) % 2 ^ 64) (eqℤ-true x (neg_ℤ y) e) ∙ none y k))
  where
    there : (x y : ℤ) → nat_abs x ≤ max_numerator → nat_abs y ≤ max_numerator → (of_z w64 x + of_z w64 y) % 2 ^ 64 ≡ 0 → neg_ℤ y ≡ x
    there (pos a) (pos zero) h k e = let q : 0 ≡ a = omega arith in ap pos q
    there (pos a) (pos (suc b)) h k e = absurd (omega arith)
    there (pos a) (negsuc b) h k e = let q : suc b ≡ a = omega arith in ap pos q
    there (negsuc a) (pos zero) h k e = absurd (omega arith)
    there (negsuc a) (pos (suc b)) h k e = let q : b ≡ a = omega arith in ap negsuc q
    there (negsuc a) (negsuc b) h k e = absurd (omega arith)

    none : (y : ℤ) → nat_abs y ≤ max_numerator → (of_z w64 (neg_ℤ y) + of_z w64 y) % 2 ^ 64 ≡ 0
    none (pos zero) k = refl
    none (pos (suc b)) k = omega arith
    none (negsuc b) k = omega arith

mirrors-is : (x y : Number) → Within max_numerator x → Within max_numerator y → mirrors x y ≡ is_conjugate x y
mirrors-is x y f g =
    (λ i. ((eqℤ x.re.re y.re.re && eqℤ x.re.im y.re.im) && opposite-is x.im.re y.im.re f.w2 g.w2 i) && opposite-is x.im.im y.im.im f.w3 g.w3 i) ∙ grouped (eqℤ x.re.re y.re.re && eqℤ x.re.im y.re.im) _ _
  where
    grouped : (a b c : Bool) → ((a && b) && c) ≡ ((a && (b && c)) && true)
    grouped true true true = refl
    grouped true true false = refl
    grouped true false c = refl
    grouped false b c = refl

-- ---- what a form restores, row by row
module _ (w : ℕ) (half plain : Bool) (z : ℕ → Number) (range : (r c : ℕ) → r < w → c < w → Within max_numerator (z (r * w + c))) where
  abbrev conjugates : ℕ → ℕ → Bool
  conjugates r c = is_conjugate (z (r * w + c)) (z (c * w + r))

  abbrev whole : ℕ → Bool
  whole k = not (has_root (z k))

  abbrev rows : Bool
  rows = all_below w (row_fits half plain w z)

  close : (r c : ℕ) → r < w → c < w → mirrors (z (r * w + c)) (z (c * w + r)) ≡ conjugates r c
  close r c p q = mirrors-is _ _ (range r c p q) (range c r q p)

  turned : (r c : ℕ) → conjugates r c ≡ true → conjugates c r ≡ true
  turned r c t =
      equal_of (frac (z (c * w + r)) 0) (frac (conjugate root2 (z (r * w + c))) 0)
      (sym (ap conj (equal-true (frac (z (r * w + c)) 0) (frac (conjugate root2 (z (c * w + r))) 0) t) ∙ conj-conj (frac (z (c * w + r)) 0)))

  pub restores-rows : rows ≡ restores (form w half plain) z
  restores-rows = test_same rows (restores (form w half plain) z) to back
    where
      to : rows ≡ true → restores (form w half plain) z ≡ true
      to t = λ i. first half (λ r p. (each r p).0) i && second plain (λ r p. (each r p).1) i
        where
          each : (r : ℕ) → r < w → ((not half || mirrored w z r) ≡ true) × ((not plain || rational w z r) ≡ true)
          each r p = and_split (not half || mirrored w z r) _ (all-at w (row_fits half plain w z) t r p)

          first : (b : Bool) → ((r : ℕ) → r < w → (not b || mirrored w z r) ≡ true) → (not b || all_below w (λ (r : ℕ). all_below w (conjugates r))) ≡ true
          first true h = all-by w (λ (r : ℕ). all_below w (conjugates r)) (λ r p. all-by w (conjugates r) (λ c q. by r c p q (dec_lt c r)))
            where
              -- from the diagonal on
              right : (r c : ℕ) → r < w → c < w → r ≤ c → conjugates r c ≡ true
              right r c p q u =
                  let e : r + (c - r) ≡ c = omega arith in
                  sym (close r c p q) ∙ ap (λ (k : ℕ). mirrors (z (r * w + k)) (z (k * w + r))) (sym e) ∙ all-at (w - r) (λ (j : ℕ). mirrors (z (r * w + (r + j))) (z ((r + j) * w + r))) (h r p) (c - r) (omega arith)

              by : (r c : ℕ) → r < w → c < w → Dec (c < r) → conjugates r c ≡ true
              by r c p q (yes u) = turned c r (right c r q p (omega arith))
              by r c p q (no u) = right r c p q (omega arith)
          first false h = refl

          second : (b : Bool) → ((r : ℕ) → r < w → (not b || rational w z r) ≡ true) → (not b || all_below (w * w) whole) ≡ true
          second true h = all-by (w * w) whole (λ k l. subst (λ (j : ℕ). whole j ≡ true) (div-add-mod' k w) (all-at w (λ (c : ℕ). whole (k / w * w + c)) (h (k / w) ((div-lt_iff_lt-mul (some w k l)).1 l)) (k % w) (mod-lt k (some w k l))))
            where
              some : (w k : ℕ) → k < w * w → 0 < w
              some zero k u = omega arith
              some (suc w) k u = omega arith
          second false h = refl

      back : restores (form w half plain) z ≡ true → rows ≡ true
      back t = all-by w (row_fits half plain w z) (λ r p. λ i. first half r p u.0 i && second plain r p u.1 i)
        where
          u : ((not half || all_below w (λ (r : ℕ). all_below w (conjugates r))) ≡ true) × ((not plain || all_below (w * w) whole) ≡ true)
          u = and_split (not half || all_below w (λ (r : ℕ). all_below w (conjugates r))) _ t

          first : (b : Bool) (r : ℕ) → r < w → (not b || all_below w (λ (r : ℕ). all_below w (conjugates r))) ≡ true → (not b || mirrored w z r) ≡ true
          first true r p h =
              let row = all-at w (λ (r : ℕ). all_below w (conjugates r)) h r p in
              all-by (w - r) (λ (j : ℕ). mirrors (z (r * w + (r + j))) (z ((r + j) * w + r)))
              (λ j q. let l : r + j < w = omega arith in close r (r + j) p l ∙ all-at w (conjugates r) row (r + j) l)
          first false r p h = refl

          second : (b : Bool) (r : ℕ) → r < w → (not b || all_below (w * w) whole) ≡ true → (not b || rational w z r) ≡ true
          second true r p h = all-by w (λ (c : ℕ). whole (r * w + c)) (λ c q. all-at (w * w) whole h (r * w + c) (cell_below (form w half plain) r c p q))
          second false r p h = refl
