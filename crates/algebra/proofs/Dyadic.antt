-- Fractions over powers of two: lowest forms are unique and may be taken late, so sums and products obey the laws of `Semi`.
use mathlib.Core.Path.{◌≡◌, refl, sym, ap, ap₂, ◌∙◌, subst}
use mathlib.Core.Bool.{Bool, true, false, cond, ◌&&◌}
use Prim.Native.Nat.{ℕ, zero, suc, ◌+◌, ◌/◌, ◌%◌, ◌-◌, ◌^◌, ◌≤◌}
use mathlib.Core.List.{List, [], ◌∷◌}
use native.Mathlib.Nat as N
use native.Mathlib.Omega.{arith}
use lib.IntN.{ℤ, pos, negsuc, ◌+ℤ◌}
use borrow.Author.Tests.{eq-eqb, eqb-true}
use Rattle.algebra.specs.Quadratic.{pair}
use Rattle.algebra.specs.Dyadic.{Halves, halfℤ, evenℤ, integer_halves, pair_halves, Frac, frac, on_num, low as low_of, lowest as lowestOf, power as power_of, plus as plusOf, by as by_of, dyadic}
use Rattle.algebra.specs.Sum.{sum, list_sum}
use Rattle.algebra.proofs.Tests.{and_split}
use Rattle.algebra.proofs.Semi.{Semi, add-mul, mul_left, zero-mul}
use Rattle.algebra.proofs.Ring.{CommRing, ℤR, semi, mul-one, mul_zero}
use Rattle.algebra.proofs.Quadratic.{quad}

-- what is even is twice its half
pub record Halving (𝓚 : CommRing) : Type 0 where
  pub halves : Halves 𝓚.K
  pub even_double : (a : 𝓚.K) → halves.even (𝓚.ops.◌⊕◌ a a) ≡ true
  pub half_double : (a : 𝓚.K) → halves.half (𝓚.ops.◌⊕◌ a a) ≡ a
  pub double_half : (a : 𝓚.K) → halves.even a ≡ true → 𝓚.ops.◌⊕◌ (halves.half a) (halves.half a) ≡ a

module _ (𝓚 : CommRing) (𝓗 : Halving 𝓚) where
  infixl 60 ◌⊕◌
  infixl 70 ◌⊗◌
  open 𝓚 use {K, ops, add_assoc, add_comm, zero-add, mul_assoc, mul_comm, mul-add, one-mul, int_one, int_add}
  open 𝓚.ops use {𝟘, 𝟙, ◌⊕◌, ◌⊗◌, int}
  open 𝓗 use {halves, even_double, half_double, double_half}
  open 𝓗.halves use {even, half}

  abbrev F : Type 0
  F = Frac K

  abbrev low : K → ℕ → F
  low = low_of halves

  abbrev lowest : F → F
  lowest = lowestOf halves

  abbrev power : ℕ → K
  power = power_of ops

  abbrev plus : F → F → F
  plus = plusOf ops

  abbrev by : F → F → F
  by = by_of ops

  pub low_double : (z : K) (e : ℕ) → low (z ⊕ z) (suc e) ≡ low z e
  low_double z e = ap (λ (b : Bool). cond b (low (half (z ⊕ z)) e) (frac (z ⊕ z) (suc e))) (even_double z) ∙ ap (λ (w : K). low w e) (half_double z)

  pub power-add : (j k : ℕ) → power (j + k) ≡ power j ⊗ power k
  power-add j zero = ap power (N.add-zero j) ∙ sym (mul-one 𝓚 (power j))
  power-add j (suc k) = ap power (N.add-suc j k) ∙ ap₂ ◌⊕◌ (power-add j k) (power-add j k) ∙ sym (mul-add (power j) (power k) (power k))

  pub power_int : (k : ℕ) → power k ≡ int (pos (2 ^ k))
  power_int zero = sym int_one
  power_int (suc k) = ap₂ ◌⊕◌ (power_int k) (power_int k) ∙ sym (int_add (pos (2 ^ k)) (pos (2 ^ k))) ∙ ap (λ (n : ℕ). int (pos n)) twice
    where
      twice : 2 ^ k + 2 ^ k ≡ 2 ^ suc k
      twice = omega (arith, N.pow-suc 2 k)

  -- multiplied above and below
  abbrev pub up : ℕ → F → F
  up k x = frac (x.num ⊗ power k) (x.exp + k)

  pub lowest-up : (k : ℕ) (x : F) → lowest (up k x) ≡ lowest x
  lowest-up zero x = ap₂ low (mul-one 𝓚 x.num) (N.add-zero x.exp)
  lowest-up (suc k) x = ap₂ low (mul-add x.num (power k) (power k)) (N.add-suc x.exp k) ∙ low_double (x.num ⊗ power k) (x.exp + k) ∙ lowest-up k x

  abbrev pub Up : K → ℕ → F → Type 0
  Up z e x = (k : ℕ) × (z ≡ x.num ⊗ power k) × (e ≡ x.exp + k)

  pub lowest_is : (z : K) (e : ℕ) → Up z e (low z e)
  lowest_is z zero = (0, sym (mul-one 𝓚 z), omega arith)
  lowest_is z (suc e) = go (even z) refl (lowest_is (half z) e)
    where
      go : (b : Bool) → even z ≡ b → Up (half z) e (low (half z) e) → Up z (suc e) (cond b (low (half z) e) (frac z (suc e)))
      go false f r = (0, sym (mul-one 𝓚 z), omega arith)
      go true f r = let (k, h, g) = r in
          (suc k, sym (double_half z f) ∙ ap₂ ◌⊕◌ h h ∙ sym (mul-add (low (half z) e).num (power k) (power k)), omega arith)

  pub plus-up : (k : ℕ) (x y : F) → plus (up k x) y ≡ up k (plus x y)
  plus-up k x y = ap₂ frac (ap (λ (p : K). x.num ⊗ power k ⊗ power y.exp ⊕ y.num ⊗ p) (power-add x.exp k)
      ∙ simp (add-mul (semi 𝓚), mul_assoc, mul_comm)) (omega arith)

  pub by-up : (k : ℕ) (x y : F) → by (up k x) y ≡ up k (by x y)
  by-up k x y = ap₂ frac (simp (mul_assoc, mul_comm)) (omega arith)

  -- a sum or a product may be put into lowest form late
  pub late : (f : F → F → F) → ((k : ℕ) (x y : F) → f (up k x) y ≡ up k (f x y)) → (x y : F) → lowest (f (lowest x) y) ≡ lowest (f x y)
  late f h x y =
      let (k, p, q) = lowest_is x.num x.exp in
      sym (ap (λ (w : F). lowest (f w y)) (ap₂ frac p q) ∙ ap lowest (h k (lowest x) y) ∙ lowest-up k (f (lowest x) y))

  pub late-right : (f : F → F → F) → ((x y : F) → f x y ≡ f y x) → ((k : ℕ) (x y : F) → f (up k x) y ≡ up k (f x y)) → (x y : F)
      → lowest (f x (lowest y)) ≡ lowest (f x y)
  late-right f c h x y = ap lowest (c x (lowest y)) ∙ late f h y x ∙ ap lowest (c y x)

  pub plus_comm : (x y : F) → plus x y ≡ plus y x
  plus_comm x y = ap₂ frac (add_comm (x.num ⊗ power y.exp) (y.num ⊗ power x.exp)) (N.add_comm x.exp y.exp)

  pub by_comm : (x y : F) → by x y ≡ by y x
  by_comm x y = ap₂ frac (mul_comm x.num y.num) (N.add_comm x.exp y.exp)

  pub plus_assoc : (x y z : F) → plus (plus x y) z ≡ plus x (plus y z)
  plus_assoc x y z = ap₂ frac
      (simp (power-add, add-mul (semi 𝓚), mul_assoc, mul_comm, add_assoc)) (N.add_assoc x.exp y.exp z.exp)

  pub by_assoc : (x y z : F) → by (by x y) z ≡ by x (by y z)
  by_assoc x y z = ap₂ frac (mul_assoc x.num y.num z.num) (N.add_assoc x.exp y.exp z.exp)

  pub by_plus : (x y z : F) → plus (by x y) (by x z) ≡ up x.exp (by x (plus y z))
  by_plus x y z = ap₂ frac (simp (power-add, mul-add, add-mul (semi 𝓚), mul_assoc, mul_comm)) (omega arith)

  pub low-zero : (e : ℕ) → low 𝟘 e ≡ frac 𝟘 0
  low-zero zero = refl
  low-zero (suc e) = ap (λ (z : K). low z (suc e)) (sym (zero-add 𝟘)) ∙ low_double 𝟘 e ∙ low-zero e

  -- fractions in lowest form, as what sums ask for
  abbrev pub fractions : Semi
  fractions = record {
    R = F;
    ops = dyadic ops halves;
    add_assoc = λ x y z. late plus plus-up (plus x y) z ∙ ap lowest (plus_assoc x y z) ∙ sym (late-right plus plus_comm plus-up x (plus y z));
    add_comm = λ x y. ap lowest (plus_comm x y);
    zero-add = λ x y. late-right plus plus_comm plus-up (frac 𝟘 0) (by x y)
        ∙ ap₂ low (ap₂ ◌⊕◌ (zero-mul (semi 𝓚) (power (x.exp + y.exp))) (mul-one 𝓚 (x.num ⊗ y.num)) ∙ zero-add (x.num ⊗ y.num)) (N.zero-add (x.exp + y.exp));
    mul_assoc = λ x y z. late by by-up (by x y) z ∙ ap lowest (by_assoc x y z) ∙ sym (late-right by by_comm by-up x (by y z));
    mul_comm = λ x y. ap lowest (by_comm x y);
    mul-add = λ x y z. late-right by by_comm by-up x (plus y z) ∙ sym (lowest-up x.exp (by x (plus y z))) ∙ ap lowest (sym (by_plus x y z))
        ∙ sym (late plus plus-up (by x y) (lowest (by x z)) ∙ late-right plus plus_comm plus-up (by x y) (by x z));
    mul_zero = λ x. ap (λ (z : K). low z (x.exp + 0)) (mul_zero 𝓚 x.num) ∙ low-zero (x.exp + 0);
  }

  -- lowest forms are equal exactly where the values are: the numerators agree at a common exponent
  pub lowest-equal : (x y : F) → x.num ⊗ power y.exp ≡ y.num ⊗ power x.exp → lowest x ≡ lowest y
  lowest-equal x y e = sym (lowest-up y.exp x) ∙ ap₂ low e (N.add_comm x.exp y.exp) ∙ lowest-up x.exp y

  cross : (u v : F) (j k : ℕ) → u ≡ v → (u.num ⊗ power j) ⊗ power (v.exp + k) ≡ (v.num ⊗ power k) ⊗ power (u.exp + j)
  cross u v j k e = rw e (simp (power-add, mul_assoc, mul_comm, mul_left (semi 𝓚)))

  pub equal-lowest : (x y : F) → lowest x ≡ lowest y → x.num ⊗ power y.exp ≡ y.num ⊗ power x.exp
  equal-lowest x y e =
      let (j, p, q) = lowest_is x.num x.exp in
      let (k, r, s) = lowest_is y.num y.exp in
      ap₂ (λ (z : K) (i : ℕ). z ⊗ power i) p s ∙ cross (lowest x) (lowest y) j k e ∙ sym (ap₂ (λ (z : K) (i : ℕ). z ⊗ power i) r q)

  pub low-odd : (z : K) (e : ℕ) → even z ≡ false → low z e ≡ frac z e
  low-odd z zero h = refl
  low-odd z (suc e) h = ap (λ (b : Bool). cond b (low (half z) e) (frac z (suc e))) h

  -- ---- fractions over one power of two: their sums and products are those of the numerators
  pub value-add : (e : ℕ) (a b : K) → (dyadic ops halves).◌⊕◌ (low a e) (low b e) ≡ low (a ⊕ b) e
  value-add e a b =
      late plus plus-up (frac a e) (low b e)
      ∙ late-right plus plus_comm plus-up (frac a e) (frac b e)
      ∙ ap (λ (z : K). low z (e + e)) (sym (add-mul (semi 𝓚) a b (power e)))
      ∙ lowest-up e (frac (a ⊕ b) e)

  pub value-mul : (e f : ℕ) (a b : K) → (dyadic ops halves).◌⊗◌ (low a e) (low b f) ≡ low (a ⊗ b) (e + f)
  value-mul e f a b = late by by-up (frac a e) (low b f) ∙ late-right by by_comm by-up (frac a e) (frac b f)

  -- a sum at the larger power of the two
  pub align : (x y : F) → x.exp ≤ y.exp → low (x.num ⊗ power (y.exp - x.exp) ⊕ y.num) y.exp ≡ lowest (plus x y)
  align x y h =
      sym (lowest-up x.exp (frac (x.num ⊗ power (y.exp - x.exp) ⊕ y.num) y.exp))
      ∙ ap₂ low (add-mul (semi 𝓚) (x.num ⊗ power (y.exp - x.exp)) y.num (power x.exp)
      ∙ ap (λ (z : K). z ⊕ y.num ⊗ power x.exp) (mul_assoc x.num (power (y.exp - x.exp)) (power x.exp)
      ∙ ap (λ (z : K). x.num ⊗ z) (sym (power-add (y.exp - x.exp) x.exp) ∙ ap power whole))) (N.add_comm y.exp x.exp)
    where
      whole : y.exp - x.exp + x.exp ≡ y.exp
      whole = omega arith

  pub cancel : (k : ℕ) (a b : K) → a ⊗ power k ≡ b ⊗ power k → a ≡ b
  cancel zero a b h = sym (mul-one 𝓚 a) ∙ h ∙ mul-one 𝓚 b
  cancel (suc k) a b h = cancel k a b
      (sym (half_double (a ⊗ power k)) ∙ ap half (sym (mul-add a (power k) (power k)) ∙ h ∙ mul-add b (power k) (power k)) ∙ half_double (b ⊗ power k))

  pub value_same : (e : ℕ) (a b : K) → low a e ≡ low b e → a ≡ b
  value_same e a b h = cancel e a b (equal-lowest (frac a e) (frac b e) h)

  pub sum-value : (e n : ℕ) (f : ℕ → K) → sum (dyadic ops halves) n (λ (k : ℕ). low (f k) e) ≡ low (sum ops n f) e
  sum-value e zero f = sym (low-zero e)
  sum-value e (suc n) f = ap (λ (x : F). (dyadic ops halves).◌⊕◌ x (low (f n) e)) (sum-value e n f) ∙ value-add e (sum ops n f) (f n)

  pub list_sum-value : {A : Type 0} (e : ℕ) (f : A → K) (xs : List A) → list_sum (dyadic ops halves) (λ (x : A). low (f x) e) xs ≡ low (list_sum ops f xs) e
  list_sum-value e f [] = sym (low-zero e)
  list_sum-value e f (x ∷ xs) = ap ((dyadic ops halves).◌⊕◌ (low (f x) e)) (list_sum-value e f xs) ∙ value-add e (f x) (list_sum ops f xs)

  pub value-one : (e : ℕ) → frac 𝟙 0 ≡ low (power e) e
  value-one zero = refl
  value-one (suc e) = value-one e ∙ sym (low_double (power e) e)

  pub low_exp : (z : K) (e : ℕ) → (low z e).exp ≤ e
  low_exp z e = let (k, h, g) = lowest_is z e in omega arith

  -- the numerator at the exponent e
  abbrev pub num_at : ℕ → F → K
  num_at e x = x.num ⊗ power (e - x.exp)

  num_at-low : (e : ℕ) (z : K) → num_at e (low z e) ≡ z
  num_at-low e z =
      let (k, h, g) = lowest_is z e in
      let d : e - (low z e).exp ≡ k = omega arith in
      ap (λ (j : ℕ). (low z e).num ⊗ power j) d ∙ sym h

  -- x is in lowest form, and its exponent is at most e
  abbrev pub Fits : ℕ → F → Type 0
  Fits e x = x ≡ low (num_at e x) e

  pub fits_low : (e : ℕ) (x : F) (z : K) → x ≡ low z e → Fits e x
  fits_low e x z h = h ∙ ap (λ (w : K). low w e) (sym (ap (num_at e) h ∙ num_at-low e z))

  pub fits_exp : (e : ℕ) (x : F) → Fits e x → x.exp ≤ e
  fits_exp e x h = subst (λ (y : F). y.exp ≤ e) (sym h) (low_exp (num_at e x) e)

  pub fits_grow : (e f : ℕ) (x : F) → e ≤ f → Fits e x → Fits f x
  fits_grow e f x l h =
      let n : e + (f - e) ≡ f = omega arith in
      fits_low f x (num_at e x ⊗ power (f - e)) (h ∙ sym (lowest-up (f - e) (frac (num_at e x) e)) ∙ ap (low (num_at e x ⊗ power (f - e))) n)

  -- ---- a map of numerators that respects sums and parity, as a negation or a conjugation
  module _ (f : K → K) (f-add : (a b : K) → f (a ⊕ b) ≡ f a ⊕ f b) (f-even : (a : K) → even (f a) ≡ even a) where
    pub map_low : (z : K) (e : ℕ) → on_num f (low z e) ≡ low (f z) e
    map_low z zero = refl
    map_low z (suc e) = go (even z) refl (map_low (half z) e)
      where
        go : (b : Bool) → even z ≡ b → on_num f (low (half z) e) ≡ low (f (half z)) e → on_num f (cond b (low (half z) e) (frac z (suc e))) ≡ low (f z) (suc e)
        go true h r = r
            ∙ ap (λ (w : K). low w e) (sym (ap half (ap f (sym (double_half z h)) ∙ f-add (half z) (half z)) ∙ half_double (f (half z))))
            ∙ ap (λ (b : Bool). cond b (low (half (f z)) e) (frac (f z) (suc e))) (sym (f-even z ∙ h))
        go false h r = ap (λ (b : Bool). cond b (low (half (f z)) e) (frac (f z) (suc e))) (sym (f-even z ∙ h))

    module _ (f-mul : (a b : K) → f (a ⊗ b) ≡ f a ⊗ f b) (f-one : f 𝟙 ≡ 𝟙) where
      f-power : (k : ℕ) → f (power k) ≡ power k
      f-power zero = f-one
      f-power (suc k) = f-add (power k) (power k) ∙ ap₂ ◌⊕◌ (f-power k) (f-power k)

      f-by : (a : K) (k : ℕ) → f (a ⊗ power k) ≡ f a ⊗ power k
      f-by a k = f-mul a (power k) ∙ ap (λ (w : K). f a ⊗ w) (f-power k)

      pub map_plus : (x y : F) → on_num f ((dyadic ops halves).◌⊕◌ x y) ≡ (dyadic ops halves).◌⊕◌ (on_num f x) (on_num f y)
      map_plus x y = map_low (x.num ⊗ power y.exp ⊕ y.num ⊗ power x.exp) (x.exp + y.exp)
          ∙ ap (λ (w : K). low w (x.exp + y.exp)) (f-add (x.num ⊗ power y.exp) (y.num ⊗ power x.exp) ∙ ap₂ ◌⊕◌ (f-by x.num y.exp) (f-by y.num x.exp))

      pub map_by : (x y : F) → on_num f ((dyadic ops halves).◌⊗◌ x y) ≡ (dyadic ops halves).◌⊗◌ (on_num f x) (on_num f y)
      map_by x y = map_low (x.num ⊗ y.num) (x.exp + y.exp) ∙ ap (λ (w : K). low w (x.exp + y.exp)) (f-mul x.num y.num)

-- ---- the integers, and pairs
pub even_double : (k : ℤ) → evenℤ (k +ℤ k) ≡ true
even_double (pos n) = eq-eqb ((n + n) % 2) 0 (omega arith)
even_double (negsuc n) = eq-eqb (suc (suc (n + n)) % 2) 0 (omega arith)

pub half_double : (k : ℤ) → halfℤ (k +ℤ k) ≡ k
half_double (pos n) = let e : (n + n) / 2 ≡ n = omega arith in ap pos e
half_double (negsuc n) = let e : suc (n + n) / 2 ≡ n = omega arith in ap negsuc e

pub double_half : (k : ℤ) → evenℤ k ≡ true → halfℤ k +ℤ halfℤ k ≡ k
double_half (pos n) e = let f : n / 2 + n / 2 ≡ n = omega (arith, eqb-true (n % 2) 0 e) in ap pos f
double_half (negsuc n) e = let f : suc (n / 2 + n / 2) ≡ n = omega (arith, eqb-true (suc n % 2) 0 e) in ap negsuc f

abbrev pub ℤ-halving : Halving ℤR
ℤ-halving = record { halves = integer_halves; even_double = even_double; half_double = half_double; double_half = double_half }

abbrev pub quad_halving : (𝓚 : CommRing) (d : 𝓚.K) → Halving 𝓚 → Halving (quad 𝓚 d)
quad_halving 𝓚 d 𝓗 = record {
  halves = pair_halves 𝓗.halves;
  even_double = λ x. ap₂ ◌&&◌ (𝓗.even_double x.re) (𝓗.even_double x.im);
  half_double = λ x. ap₂ pair (𝓗.half_double x.re) (𝓗.half_double x.im);
  double_half = λ x e. let h = and_split (𝓗.halves.even x.re) (𝓗.halves.even x.im) e in ap₂ pair (𝓗.double_half x.re h.0) (𝓗.double_half x.im h.1);
}
