-- Exact numbers as mathematics writes them: (1 − 2√2 + i − 5i√2)/16.
use Rattle.std.specs.Prelude.{Bool, true, false, cond, not, ◌&&◌, List, [], ◌∷◌, ◌++◌, ℕ, ◌^◌, eqb, leb, ltb, length, ℤ, pos, negsuc, nat_abs}
use Prim.Native.String.{String}
use Rattle.algebra.specs.Lists.{concat_map, filter_by}
use Rattle.exact.specs.Exact.{Number, Exact, max_exponent}
use Rattle.text.specs.Decimal.{decimal}
use Rattle.answers.specs.Utf8.{utf8}

-- ---- terms
-- a coefficient, and what it stands before: nothing, √2, i or i√2
pub record Term : Type 0 where
  pub coefficient : ℤ
  pub unit : List ℕ

abbrev pub term : ℤ → String → Term
term z unit = record { coefficient = z; unit = utf8 unit }

abbrev pub is_zero : ℤ → Bool
is_zero z = eqb (nat_abs z) 0

-- the terms of a number that are not zero
unfoldable pub terms : Number → List Term
terms z = filter_by (λ (t : Term). not (is_zero t.coefficient)) (term z.re.re "" ∷ term z.re.im "√2" ∷ term z.im.re "i" ∷ term z.im.im "i√2" ∷ [])

-- in front of the first term a minus sign alone, in front of a later one either sign
abbrev pub sign : Bool → ℤ → List ℕ
sign true (pos n) = utf8 ""
sign true (negsuc n) = utf8 "−"
sign false (pos n) = utf8 " + "
sign false (negsuc n) = utf8 " − "

-- 1 is not written before a unit
unfoldable pub sized : ℕ → List ℕ → List ℕ
sized n unit = cond (eqb n 1 && ltb 0 (length unit)) unit (decimal n ++ unit)

abbrev pub term_text : Bool → Term → List ℕ
term_text first t = sign first t.coefficient ++ sized (nat_abs t.coefficient) t.unit

unfoldable pub sum_text : List Term → List ℕ
sum_text [] = utf8 "0"
sum_text (t ∷ ts) = term_text true t ++ concat_map (term_text false) ts

-- ---- fractions
abbrev pub is_sum : List Term → Bool
is_sum ts = ltb 1 (length ts)

-- a sum stands in brackets
unfoldable pub numerator : List Term → List ℕ
numerator ts = cond (is_sum ts) (utf8 "(" ++ sum_text ts ++ utf8 ")") (sum_text ts)

-- 2^e in digits; as a power where it is larger than that of any number in range
unfoldable pub denominator : ℕ → List ℕ
denominator e = cond (leb e max_exponent) (utf8 "/" ++ decimal (2 ^ e)) (utf8 "/2^" ++ decimal e)

unfoldable pub number_text : Exact → List ℕ
number_text x = let ts = terms x.num in cond (eqb x.exp 0) (sum_text ts) (numerator ts ++ denominator x.exp)
