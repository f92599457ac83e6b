-- What the scalar calls answer: the exact result, or the refusal by the first question that fails.
use Rattle.std.specs.Prelude.{cond, ◌&&◌, ℤ, Result, Ok, Err}
use Rattle.algebra.specs.Dyadic.{frac}
use Rattle.exact.specs.Exact.{Exact, exact, conj, half, in_range, well_formed, narrow, number_of, list_of}
use Rattle.scalar.specs.declared.Scalar.{Scalar}
use Rattle.verdict.specs.declared.Refusal.{Refusal}
use Rattle.verdict.specs.declared.Refusal.TheVariants.{TooLarge, Malformed}

-- the struct's number, and a number's struct
abbrev pub value : Scalar → Exact
value s = frac (number_of s.n) s.e

abbrev pub scalar_of : Exact → Scalar
scalar_of x = record { n = list_of x.num; e = x.exp }

-- a scalar, or why there is none
abbrev pub Answer : Type 0
Answer = Result Scalar Refusal

abbrev pub accepted : Exact → Answer
accepted x = Ok (scalar_of x)

-- 9, unless the number is in range
abbrev pub fitting : Exact → Answer
fitting x = cond (in_range x) (accepted x) (Err TooLarge)

-- 10, unless the operand is in range and in lowest form
abbrev pub asked : Exact → Answer → Answer
asked x a = cond (well_formed x) a (Err Malformed)

abbrev pub asked_both : Exact → Exact → Answer → Answer
asked_both x y a = cond (well_formed x && well_formed y) a (Err Malformed)

abbrev pub integer_answer : ℤ → Answer
integer_answer n = fitting (exact.int n)

abbrev pub neg_answer : Exact → Answer
neg_answer x = asked x (accepted (exact.neg x))

abbrev pub conj_answer : Exact → Answer
conj_answer x = asked x (accepted (conj x))

abbrev pub half_answer : Exact → Answer
half_answer x = asked x (fitting (half x))

abbrev pub add_answer : Exact → Exact → Answer
add_answer x y = asked_both x y (fitting (exact.◌⊕◌ x y))

-- 9, unless both factors are narrow
abbrev pub narrow_answer : Exact → Exact → Answer
narrow_answer x y = cond (narrow x && narrow y) (accepted (exact.◌⊗◌ x y)) (Err TooLarge)

abbrev pub mul_answer : Exact → Exact → Answer
mul_answer x y = asked_both x y (narrow_answer x y)
