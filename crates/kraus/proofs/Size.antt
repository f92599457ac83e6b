-- Sizes of numbers whose squares add up to 1: of entries, of sums over branches, and of effects.
use mathlib.Core.Path.{◌≡◌, refl, sym, ap, ap₂, ◌∙◌, subst}
use mathlib.Core.List.{List, [], ◌∷◌}
use Prim.Native.Nat.{ℕ, zero, suc, ◌+◌, ◌*◌, ◌-◌, ◌^◌, ◌≤◌, ◌<◌}
use native.Mathlib.Nat as N
use native.Mathlib.Omega.{arith}
use lib.Pow.{pow-add, pow_pos}
use lib.IntN.{ℤ, pos, nat_abs, ◌+ℤ◌}
use Rattle.algebra.specs.Dyadic.{Frac, frac, low, power}
use Rattle.algebra.specs.Sum.{sum, list_sum}
use Rattle.algebra.specs.Lists.{All, total}
use Rattle.algebra.proofs.Parts.{sq_le}
use Rattle.algebra.proofs.Lists.{all_imp, all_both}
use Rattle.algebra.proofs.Totals.{Sub, sub_total, sub_all, total_each, total-two, nsum, nsum_each, nsum_grow, nsum-two, nsum-total}
use Rattle.algebra.proofs.Perm.{gather}
use Rattle.algebra.proofs.Semi.{Semi}
use Rattle.algebra.proofs.Ring.{CommRing, mul-one}
use Rattle.algebra.proofs.Sum.{sum_same, list_sum-all}
use Rattle.algebra.proofs.Adjoint.{Star, dot}
use Rattle.algebra.proofs.Dyadic.{Halving, fractions, low-zero, lowest_is, value-add, value-mul, value_same, sum-value, list_sum-value, value-one, num_at, Fits, fits_low, fits_exp}

-- the rational part of a number, its quadratic form, and the sizes of its coordinates
pub record Measure (𝓚 : CommRing) (𝓗 : Halving 𝓚) (𝓢 : Star (fractions 𝓚 𝓗)) : Type 0 where
  -- the conjugate of a numerator
  pub bar : 𝓚.K → 𝓚.K
  pub bar_low : (z : 𝓚.K) (e : ℕ) → 𝓢.conj (low 𝓗.halves z e) ≡ low 𝓗.halves (bar z) e
  pub ρ : 𝓚.K → ℤ
  pub ρ-add : (a b : 𝓚.K) → ρ (𝓚.ops.◌⊕◌ a b) ≡ ρ a +ℤ ρ b
  pub ρ-zero : ρ 𝓚.ops.𝟘 ≡ pos 0
  pub ρ-one : ρ 𝓚.ops.𝟙 ≡ pos 1
  pub Q : 𝓚.K → ℕ
  pub ρ-Q : (a : 𝓚.K) → ρ (𝓚.ops.◌⊗◌ (bar a) a) ≡ pos (Q a)
  pub size : ℕ → 𝓚.K → ℕ
  pub size_zero : (i : ℕ) → size i 𝓚.ops.𝟘 ≡ 0
  pub size_add : (i : ℕ) (a b : 𝓚.K) → size i (𝓚.ops.◌⊕◌ a b) ≤ size i a + size i b
  pub size_double : (i : ℕ) (a : 𝓚.K) → size i (𝓚.ops.◌⊕◌ a a) ≡ size i a + size i a
  pub size_square : (i : ℕ) (a : 𝓚.K) → size i a * size i a ≤ Q a
  pub size_bar : (i : ℕ) (a b : 𝓚.K) → size i (𝓚.ops.◌⊗◌ a (bar b)) + size i (𝓚.ops.◌⊗◌ a (bar b)) ≤ Q a + Q b
  pub size_mul : (i : ℕ) (a b : 𝓚.K) → size i (𝓚.ops.◌⊗◌ a b) + size i (𝓚.ops.◌⊗◌ a b) ≤ Q a + Q b

module _ (𝓚 : CommRing) (𝓗 : Halving 𝓚) (𝓢 : Star (fractions 𝓚 𝓗)) (𝓜 : Measure 𝓚 𝓗 𝓢) where
  infixl 60 ◌⊕◌
  infixl 70 ◌⊗◌
  open 𝓚 use {K, ops}
  open 𝓚.ops use {𝟘, 𝟙, ◌⊕◌, ◌⊗◌}
  open 𝓗.halves use {even, half}
  open 𝓜 use {bar, bar_low, ρ, ρ-add, ρ-zero, ρ-one, Q, ρ-Q, size, size_zero, size_add, size_double, size_square, size_bar, size_mul}

  abbrev F : Type 0
  F = Frac K

  abbrev 𝓡 : Semi
  𝓡 = fractions 𝓚 𝓗

  abbrev at : ℕ → F → K
  at E x = num_at 𝓚 𝓗 E x

  abbrev Fit : ℕ → F → Type 0
  Fit E x = Fits 𝓚 𝓗 E x

  abbrev va : ℕ → K → F
  va e z = low 𝓗.halves z e

  -- in lowest form, with an exponent of at most e; and the numerators, over any power up to 2^e
  pub record Bounded (e s : ℕ) (x : F) : Type 0 where
    pub fits : Fit e x
    pub sizes : (i t : ℕ) → t ≤ e → size i x.num * 2 ^ (t - x.exp) ≤ s

  size-power : (i k : ℕ) (a : K) → size i (a ⊗ power ops k) ≡ size i a * 2 ^ k
  size-power i zero a = ap (size i) (mul-one 𝓚 a) ∙ omega arith
  size-power i (suc k) a =
      ap (size i) (𝓚.mul-add a (power ops k) (power ops k)) ∙ size_double i (a ⊗ power ops k) ∙ ap₂ ◌+◌ (size-power i k a) (size-power i k a)
      ∙ sym (ap (λ (j : ℕ). size i a * j) (N.two-pow-succ k) ∙ N.mul-add (size i a) (2 ^ k) (2 ^ k))

  raised-size : (i e t : ℕ) (z : K) → t ≤ e → size i (va e z).num * 2 ^ (t - (va e z).exp) ≤ size i z
  raised-size i e t z m =
      let (k, h, g) = lowest_is 𝓚 𝓗 z e in
      let q : size i z ≡ size i (va e z).num * 2 ^ k = ap (size i) h ∙ size-power i k (va e z).num in
      let f : t - (va e z).exp ≤ k = omega arith in
      omega (arith, N.mul-le-mul_left (size i (va e z).num) (N.pow-le-pow_right {n = 2} (omega arith) f))

  pub bounded : (e s : ℕ) (x : F) (z : K) → x ≡ va e z → ((i : ℕ) → size i z ≤ s) → Bounded e s x
  bounded e s x z h k = record { fits = fits_low 𝓚 𝓗 e x z h; sizes = λ i t m. subst (λ (y : F). size i y.num * 2 ^ (t - y.exp) ≤ s) (sym h) (omega (arith, raised-size i e t z m, k i)) }

  conj-at : (E : ℕ) (x : F) → Fit E x → 𝓢.conj x ≡ va E (bar (at E x))
  conj-at E x h = ap 𝓢.conj h ∙ bar_low (at E x) E

  square : (E : ℕ) (x : F) → Fit E x → 𝓡.ops.◌⊗◌ (𝓢.conj x) x ≡ va (E + E) (bar (at E x) ⊗ at E x)
  square E x h = ap₂ 𝓡.ops.◌⊗◌ (conj-at E x h) h ∙ value-mul 𝓚 𝓗 E E (bar (at E x)) (at E x)

  pub product : (E : ℕ) (x y : F) → Fit E x → Fit E y → 𝓡.ops.◌⊗◌ x (𝓢.conj y) ≡ va (E + E) (at E x ⊗ bar (at E y))
  product E x y h k = ap₂ 𝓡.ops.◌⊗◌ h (conj-at E y k) ∙ value-mul 𝓚 𝓗 E E (at E x) (bar (at E y))

  ρ-power : (k : ℕ) → ρ (power ops k) ≡ pos (2 ^ k)
  ρ-power zero = ρ-one
  ρ-power (suc k) = ρ-add (power ops k) (power ops k) ∙ ap₂ ◌+ℤ◌ (ρ-power k) (ρ-power k) ∙ ap pos (sym (N.two-pow-succ k))

  ρ-sum : (n : ℕ) (f : ℕ → K) (g : ℕ → ℕ) → ((k : ℕ) → ρ (f k) ≡ pos (g k)) → ρ (sum ops n f) ≡ pos (nsum n g)
  ρ-sum zero f g h = ρ-zero
  ρ-sum (suc n) f g h = ρ-add (sum ops n f) (f n) ∙ ap₂ ◌+ℤ◌ (ρ-sum n f g h) (h n)

  ρ-list_sum : {A : Type 0} (f : A → K) (g : A → ℕ) → ((x : A) → ρ (f x) ≡ pos (g x)) → (xs : List A) → ρ (list_sum ops f xs) ≡ pos (total g xs)
  ρ-list_sum f g h [] = ρ-zero
  ρ-list_sum f g h (x ∷ xs) = ρ-add (f x) (list_sum ops f xs) ∙ ap₂ ◌+ℤ◌ (h x) (ρ-list_sum f g h xs)

  -- column c of the operators of a list: the forms add up to 4^E
  pub norms : {O : Type 0} (E d c : ℕ) (os : List O) (M : O → ℕ → ℕ → F) → All (λ (o : O). (r : ℕ) → r < d → Fit E (M o r c)) os
      → list_sum 𝓡.ops (λ (o : O). dot 𝓡 𝓢 d (M o) c c) os ≡ 𝓡.ops.𝟙
      → total (λ (o : O). nsum d (λ (r : ℕ). Q (at E (M o r c)))) os ≡ 2 ^ (E + E)
  norms {O} E d c os M fit h =
      ap nat_abs (sym (ρ-list_sum cols (λ (o : O). nsum d (λ (r : ℕ). Q (at E (M o r c)))) (λ o. ρ-sum d (cell o) _ (λ r. ρ-Q (at E (M o r c)))) os)
      ∙ ap ρ (value_same 𝓚 𝓗 (E + E) (list_sum ops cols os) (power ops (E + E)) (sym whole ∙ h ∙ value-one 𝓚 𝓗 (E + E))) ∙ ρ-power (E + E))
    where
      cell : O → ℕ → K
      cell o r = bar (at E (M o r c)) ⊗ at E (M o r c)

      cols : O → K
      cols o = sum ops d (cell o)

      whole : list_sum 𝓡.ops (λ (o : O). dot 𝓡 𝓢 d (M o) c c) os ≡ va (E + E) (list_sum ops cols os)
      whole =
          list_sum-all 𝓡 _ (λ (o : O). va (E + E) (cols o)) os
          (all_imp _ _ os (λ o k. sum_same 𝓡 d _ _ (λ r l. square E (M o r c) (k r l)) ∙ sum-value 𝓚 𝓗 (E + E) d (cell o)) fit)
          ∙ list_sum-value 𝓚 𝓗 (E + E) cols os

  -- the coordinates of an entry lie from −1 to 1
  unit : (E : ℕ) (x : F) → Fit E x → Q (at E x) ≤ 2 ^ (E + E) → (i : ℕ) → size i x.num ≤ 2 ^ x.exp
  unit E x f h i = N.le_of_mul-le-mul_right {k = 2 ^ (E - x.exp)} (omega (arith, whole, size-power i (E - x.exp) x.num, sum, parts)) (pow_pos (E - x.exp))
    where
      whole : size i (at E x) ≤ 2 ^ E
      whole = sq_le (size i (at E x)) (2 ^ E) (omega (arith, size_square i (at E x), pow-add 2 E E))

      parts : 2 ^ (x.exp + (E - x.exp)) ≡ 2 ^ x.exp * 2 ^ (E - x.exp)
      parts = pow-add 2 x.exp (E - x.exp)

      sum : 2 ^ (x.exp + (E - x.exp)) ≡ 2 ^ E
      sum = let n : x.exp + (E - x.exp) ≡ E = omega (arith, fits_exp 𝓚 𝓗 E x f) in ap (λ (k : ℕ). 2 ^ k) n

  pub units : {O : Type 0} (E d c : ℕ) (os : List O) (M : O → ℕ → ℕ → F) → All (λ (o : O). (r : ℕ) → r < d → Fit E (M o r c)) os
      → total (λ (o : O). nsum d (λ (r : ℕ). Q (at E (M o r c)))) os ≡ 2 ^ (E + E)
      → All (λ (o : O). (r : ℕ) → r < d → (i : ℕ) → size i (M o r c).num ≤ 2 ^ (M o r c).exp) os
  units {O} E d c os M fit h =
      all_both (λ (o : O). (r : ℕ) → r < d → Fit E (M o r c)) (λ (o : O). forms o ≤ total forms os) _ os
      (λ o f k r l. unit E (M o r c) (f r l) (omega (arith, k, h, nsum_each d (λ (r : ℕ). Q (at E (M o r c))) r l))) fit (total_each forms os)
    where
      forms : O → ℕ
      forms o = nsum d (λ (r : ℕ). Q (at E (M o r c)))

  -- a sum over branches, as a loop makes it
  gather-value : {A : Type 0} (E : ℕ) (φ : A → F) (ν : A → K) (xs : List A) → All (λ (x : A). φ x ≡ va E (ν x)) xs → (m : K)
      → gather 𝓡.ops.◌⊕◌ φ (va E m) xs ≡ va E (gather ◌⊕◌ ν m xs)
  gather-value E φ ν [] h m = refl
  gather-value E φ ν (x ∷ xs) h m =
      ap (λ (z : F). gather 𝓡.ops.◌⊕◌ φ z xs) (ap (λ (y : F). 𝓡.ops.◌⊕◌ (va E m) y) h.0 ∙ value-add 𝓚 𝓗 E m (ν x)) ∙ gather-value E φ ν xs h.1 (m ⊕ ν x)

  gather-size : {A : Type 0} (i : ℕ) (ν : A → K) (xs : List A) (m : K) → size i (gather ◌⊕◌ ν m xs) ≤ size i m + total (λ (x : A). size i (ν x)) xs
  gather-size i ν [] m = omega arith
  gather-size i ν (x ∷ xs) m = omega (arith, gather-size i ν xs (m ⊕ ν x), size_add i m (ν x))

  sum-size : (i n : ℕ) (f : ℕ → K) → size i (sum ops n f) ≤ nsum n (λ (k : ℕ). size i (f k))
  sum-size i zero f = omega (arith, size_zero i)
  sum-size i (suc n) f = omega (arith, sum-size i n f, size_add i (sum ops n f) (f n))

  module _ {A : Type 0} (E : ℕ) (x y : A → F) where
    abbrev pub cross : A → K
    cross b = at E (x b) ⊗ bar (at E (y b))

    pub block-value : (xs : List A) → All (λ (b : A). Fit E (x b)) xs → All (λ (b : A). Fit E (y b)) xs
        → gather 𝓡.ops.◌⊕◌ (λ (b : A). 𝓡.ops.◌⊗◌ (x b) (𝓢.conj (y b))) (frac 𝟘 0) xs ≡ va (E + E) (gather ◌⊕◌ cross 𝟘 xs)
    block-value xs fx fy =
        ap (λ (z : F). gather 𝓡.ops.◌⊕◌ (λ (b : A). 𝓡.ops.◌⊗◌ (x b) (𝓢.conj (y b))) z xs) (sym (low-zero 𝓚 𝓗 (E + E))) ∙ gather-value (E + E) _ cross xs
        (all_both (λ (b : A). Fit E (x b)) (λ (b : A). Fit E (y b)) _ xs (λ b h k. product E (x b) (y b) h k) fx fy) 𝟘

    pub block_size : (i : ℕ) (xs : List A) → size i (gather ◌⊕◌ cross 𝟘 xs) + size i (gather ◌⊕◌ cross 𝟘 xs) ≤ total (λ (b : A). Q (at E (x b))) xs + total (λ (b : A). Q (at E (y b))) xs
    block_size i xs = omega (
      arith,
      gather-size i cross xs 𝟘,
      size_zero i,
      total-two (λ (b : A). size i (cross b)) (λ (b : A). Q (at E (x b))) (λ (b : A). Q (at E (y b))) (λ b. size_bar i (at E (x b)) (at E (y b))) xs,
    )

    -- a block's entry, or what a loop has of it before it ends
    pub block_bounded : (B : ℕ) (xs ys : List A) → Sub xs ys → All (λ (b : A). Fit E (x b)) ys → All (λ (b : A). Fit E (y b)) ys
        → total (λ (b : A). Q (at E (x b))) ys ≤ B → total (λ (b : A). Q (at E (y b))) ys ≤ B
        → Bounded (E + E) B (gather 𝓡.ops.◌⊕◌ (λ (b : A). 𝓡.ops.◌⊗◌ (x b) (𝓢.conj (y b))) (frac 𝟘 0) xs)
    block_bounded B xs ys s fx fy bx by =
        bounded (E + E) B _ (gather ◌⊕◌ cross 𝟘 xs) (block-value xs (sub_all (λ (b : A). Fit E (x b)) s fx) (sub_all (λ (b : A). Fit E (y b)) s fy))
        (λ i. omega (arith, block_size i xs, sub_total (λ (b : A). Q (at E (x b))) s, sub_total (λ (b : A). Q (at E (y b))) s))

  -- an effect's entry, or what a loop has of it before it ends: a sum over rows of sums over branches
  pub effect_bounded : {A : Type 0} (E d m B : ℕ) (x y : ℕ → A → F) (xs ys : List A) → Sub xs ys → m ≤ d
      → ((o : ℕ) → o < d → All (λ (b : A). Fit E (x o b)) ys) → ((o : ℕ) → o < d → All (λ (b : A). Fit E (y o b)) ys)
      → total (λ (b : A). nsum d (λ (o : ℕ). Q (at E (x o b)))) ys ≤ B → total (λ (b : A). nsum d (λ (o : ℕ). Q (at E (y o b)))) ys ≤ B
      → Bounded (E + E) B (sum 𝓡.ops m (λ (o : ℕ). gather 𝓡.ops.◌⊕◌ (λ (b : A). 𝓡.ops.◌⊗◌ (x o b) (𝓢.conj (y o b))) (frac 𝟘 0) xs))
  effect_bounded {A} E d m B x y xs ys s l fx fy bx by =
      bounded (E + E) B _ (sum ops m row)
      (sum_same 𝓡 m _ _ (λ o j. block-value E (x o) (y o) xs (sub_all (λ (b : A). Fit E (x o b)) s (fx o (omega arith))) (sub_all (λ (b : A). Fit E (y o b)) s (fy o (omega arith))))
      ∙ sum-value 𝓚 𝓗 (E + E) m row)
      (λ i. omega (
        arith,
        sum-size i m row,
        nsum-two m (λ (o : ℕ). size i (row o)) (λ (o : ℕ). total (λ (b : A). Q (at E (x o b))) xs) (λ (o : ℕ). total (λ (b : A). Q (at E (y o b))) xs) (λ o j. block_size E (x o) (y o) i xs),
        column x,
        column y,
      ))
    where
      row : ℕ → K
      row o = gather ◌⊕◌ (cross E (x o) (y o)) 𝟘 xs

      column : (z : ℕ → A → F) → nsum m (λ (o : ℕ). total (λ (b : A). Q (at E (z o b))) xs) ≤ total (λ (b : A). nsum d (λ (o : ℕ). Q (at E (z o b)))) ys
      column z =
          let h : nsum m (λ (o : ℕ). total (λ (b : A). Q (at E (z o b))) xs) ≤ nsum d (λ (o : ℕ). total (λ (b : A). Q (at E (z o b))) xs) = nsum_grow m d _ l in
          let k : nsum d (λ (o : ℕ). total (λ (b : A). Q (at E (z o b))) xs) ≡ total (λ (b : A). nsum d (λ (o : ℕ). Q (at E (z o b)))) xs = nsum-total d (λ (o : ℕ) (b : A). Q (at E (z o b))) xs in
          let j : total (λ (b : A). nsum d (λ (o : ℕ). Q (at E (z o b)))) xs ≤ total (λ (b : A). nsum d (λ (o : ℕ). Q (at E (z o b)))) ys = sub_total _ s in
          omega arith
