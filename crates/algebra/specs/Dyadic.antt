-- Fractions num / 2^exp in lowest form, over a ring in which what is even can be halved.
use Rattle.std.specs.Prelude.{Bool, cond, ◌&&◌, ℕ, zero, suc, ◌+◌, ◌/◌, ◌%◌, eqb, ℤ, pos, negsuc, nat_abs}
use Rattle.algebra.specs.Ops.{Ops}
use Rattle.algebra.specs.Quadratic.{Pair, pair}

pub record Halves (A : Type 0) : Type 0 where
  pub even : A → Bool
  -- of what is even
  pub half : A → A

abbrev pub halfℤ : ℤ → ℤ
halfℤ (pos n) = pos (n / 2)
halfℤ (negsuc n) = negsuc (n / 2)

abbrev pub evenℤ : ℤ → Bool
evenℤ z = eqb (nat_abs z % 2) 0

abbrev pub integer_halves : Halves ℤ
integer_halves = record { even = evenℤ; half = halfℤ }

abbrev pub pair_halves : {A : Type 0} → Halves A → Halves (Pair A)
pair_halves h = record {
  even = λ x. h.even x.re && h.even x.im;
  half = λ x. pair (h.half x.re) (h.half x.im);
}

pub record Frac (A : Type 0) : Type 0 where
  pub num : A
  pub exp : ℕ

abbrev pub frac : {A : Type 0} → A → ℕ → Frac A
frac z e = record { num = z; exp = e }

-- f applied to the numerator
abbrev pub on_num : {A : Type 0} → (A → A) → Frac A → Frac A
on_num f x = frac (f x.num) x.exp

module _ {A : Type 0} (h : Halves A) where
  open h use {even, half}

  -- the lowest form of z / 2^e: halved while e is not 0 and z is even
  abbrev pub low : A → ℕ → Frac A
  low z zero = frac z zero
  low z (suc e) = let r = low (half z) e in cond (even z) r (frac z (suc e))

  abbrev pub lowest : Frac A → Frac A
  lowest x = low x.num x.exp

module _ {A : Type 0} (o : Ops A) where
  infixl 60 ◌⊕◌
  infixl 70 ◌⊗◌
  open o use {𝟘, 𝟙, ◌⊕◌, ◌⊗◌, neg, int}

  -- 2^k
  abbrev pub power : ℕ → A
  power zero = 𝟙
  power (suc k) = power k ⊕ power k

  abbrev pub plus : Frac A → Frac A → Frac A
  plus x y = frac (x.num ⊗ power y.exp ⊕ y.num ⊗ power x.exp) (x.exp + y.exp)

  abbrev pub by : Frac A → Frac A → Frac A
  by x y = frac (x.num ⊗ y.num) (x.exp + y.exp)

  -- sums and products, each in lowest form
  abbrev pub dyadic : Halves A → Ops (Frac A)
  dyadic h = record {
    𝟘 = frac 𝟘 0;
    𝟙 = frac 𝟙 0;
    ◌⊕◌ = λ x y. lowest h (plus x y);
    ◌⊗◌ = λ x y. lowest h (by x y);
    neg = on_num neg;
    int = λ z. frac (int z) 0;
  }
