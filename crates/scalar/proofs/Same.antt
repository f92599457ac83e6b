-- The derived `==` of two scalars is the test of equal numbers.
use mathlib.Core.Path.{◌≡◌, refl, sym, ap, ◌∙◌}
use mathlib.Core.Bool.{Bool, true, false, ◌&&◌}
use mathlib.Core.List.{List, [], ◌∷◌}
use Prim.Native.Nat.{ℕ}
use lib.Dec.{eqb}
use lib.ListN.{length}
use lib.IntN.{ℤ}
use lib.Pointwise.{pointwise}
use Rattle.std.proofs.Common.{int_eq, arith}
use Rattle.std.proofs.lemmas.Bool.Decides.{Decides-int_eq}
use Rattle.algebra.specs.Dyadic.{frac}
use Rattle.algebra.specs.Words.{eqℤ}
use Rattle.algebra.proofs.Signed.{eqℤ-true, eqℤ-refl}
use Rattle.scalar.specs.declared.Scalar.{Scalar}
use Rattle.scalar.specs.Calls.{value, scalar_of}
use Rattle.exact.specs.Exact.{number_of, list_of, equal}

same_word : (x y : ℤ) → int_eq x y ≡ eqℤ x y
same_word x y = go (int_eq x y) refl (eqℤ x y) refl
  where
    holds : eqℤ x y ≡ true → int_eq x y ≡ true
    holds f = (Decides-int_eq x y).1 (eqℤ-true x y f)

    meets : int_eq x y ≡ true → eqℤ x y ≡ true
    meets e = ap (eqℤ x) (sym ((Decides-int_eq x y).0 e)) ∙ eqℤ-refl x

    go : (a : Bool) → int_eq x y ≡ a → (b : Bool) → eqℤ x y ≡ b → int_eq x y ≡ eqℤ x y
    go true e b f = e ∙ sym (meets e)
    go false e true f = holds f ∙ sym f
    go false e false f = e ∙ sym f

-- four tests, one after the other or two by two
joined : (p q r s : Bool) → (p && (q && (r && (s && true)))) ≡ ((p && q) && (r && s))
joined true true true true = refl
joined true true true false = refl
joined true true false s = refl
joined true false r s = refl
joined false q r s = refl

four : (l : List ℤ) → length l ≡ 4 → l ≡ list_of (number_of l)
four [] h = absurd (omega arith)
four (a ∷ []) h = absurd (omega arith)
four (a ∷ b ∷ []) h = absurd (omega arith)
four (a ∷ b ∷ c ∷ []) h = absurd (omega arith)
four (a ∷ b ∷ c ∷ d ∷ []) h = refl
four (a ∷ b ∷ c ∷ d ∷ e ∷ l) h = absurd (omega arith)

-- a scalar of four numerators is its number's
pub back : (s : Scalar) → length s.n ≡ 4 → s ≡ scalar_of (value s)
back s h = λ i. record { n = four s.n h i; e = s.e }

pub same_number : (x y : List ℤ) (e f : ℕ) → length x ≡ 4 → length y ≡ 4 → (pointwise int_eq x y && eqb e f) ≡ equal (frac (number_of x) e) (frac (number_of y) f)
same_number x y e f h k =
    let z = number_of x in
    let w = number_of y in
    (λ i. pointwise int_eq (four x h i) (four y k i) && eqb e f)
    ∙ (λ i. joined (int_eq z.re.re w.re.re) (int_eq z.re.im w.re.im) (int_eq z.im.re w.im.re) (int_eq z.im.im w.im.im) i && eqb e f)
    ∙ (λ i. ((same_word z.re.re w.re.re i && same_word z.re.im w.re.im i) && (same_word z.im.re w.im.re i && same_word z.im.im w.im.im i)) && eqb e f)
