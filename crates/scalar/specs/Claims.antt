-- Document 01's rows on scalars, with rows at the edges of the ranges, and the claim that all of them hold.
use Rattle.std.specs.Prelude.{◌≡◌, Bool, true, false, List, [], ◌∷◌, ℕ, ◌+◌, ◌-◌, ◌^◌, Ok, Err, eqb, pos, neg_ℤ}
use Rattle.verdict.specs.Verdict.{refusal_number}
use Rattle.algebra.specs.Dyadic.{frac}
use Rattle.algebra.specs.Lists.{every}
use Rattle.exact.specs.Exact.{number, Exact, exact, equal, imaginary, inv_sqrt_two, omega}
use Rattle.scalar.specs.Calls.{Answer, value, accepted, integer_answer, neg_answer, conj_answer, half_answer, add_answer, mul_answer}

-- the call hands back the number
abbrev pub accepts : Answer → Exact → Bool
accepts (Ok s) x = equal (value s) x
accepts (Err r) x = false

-- the call refuses, with document 01's number
abbrev pub refuses : Answer → ℕ → Bool
refuses (Ok s) k = false
refuses (Err r) k = eqb (refusal_number r) k

-- n / 2^e and −n / 2^e
abbrev pub ratio : ℕ → ℕ → Exact
ratio n e = frac (number (pos n) (pos 0) (pos 0) (pos 0)) e

abbrev pub minus : ℕ → ℕ → Exact
minus n e = exact.neg (ratio n e)

abbrev pub rows : List Bool
rows =
    -- document 01's
    accepts (accepted (omega 1)) (frac (number (pos 0) (pos 1) (pos 0) (pos 1)) 1)
    ∷ accepts (mul_answer (omega 1) (omega 1)) imaginary
    ∷ accepts (mul_answer inv_sqrt_two inv_sqrt_two) (ratio 1 1)
    ∷ accepts (mul_answer (ratio (2 ^ 29) 0) (ratio 1 0)) (ratio (2 ^ 29) 0)
    ∷ refuses (mul_answer (ratio (2 ^ 29 + 1) 0) (ratio 1 0)) 9
    -- narrowness is asked, not the product; and first, lowest form and range of both
    ∷ refuses (mul_answer exact.𝟘 (ratio (2 ^ 29 + 1) 0)) 9
    ∷ refuses (mul_answer (ratio (2 ^ 29 + 1) 0) (ratio 2 1)) 10
    ∷ refuses (add_answer (ratio 1 0) (minus (2 ^ 61 + 1) 0)) 10
    ∷ refuses (neg_answer (ratio 1 61)) 10
    ∷ refuses (neg_answer (ratio 2 1)) 10
    ∷ refuses (conj_answer (ratio 2 1)) 10
    ∷ refuses (half_answer (ratio 2 1)) 10
    ∷ refuses (add_answer (ratio 1 0) (ratio 2 1)) 10
    -- sums at equal and at unequal exponents
    ∷ accepts (add_answer (ratio 1 1) (ratio 1 1)) (ratio 1 0)
    ∷ accepts (add_answer (ratio 1 1) (ratio 1 2)) (ratio 3 2)
    ∷ accepts (add_answer (ratio 1 0) (ratio 1 60)) (ratio (2 ^ 60 + 1) 60)
    ∷ accepts (add_answer (ratio 2 0) (minus 1 60)) (ratio (2 ^ 61 - 1) 60)
    ∷ accepts (add_answer (ratio 4 0) (frac (number (neg_ℤ (pos (2 ^ 61))) (pos 1) (pos 0) (pos 0)) 60)) (frac (number (pos (2 ^ 61)) (pos 1) (pos 0) (pos 0)) 60)
    ∷ refuses (add_answer (ratio 2 0) (ratio 1 60)) 9
    ∷ refuses (add_answer (ratio (2 ^ 61) 0) (ratio 1 60)) 9
    ∷ refuses (add_answer (ratio (2 ^ 61) 0) (ratio 1 0)) 9
    -- the other calls
    ∷ accepts (integer_answer (pos (2 ^ 61))) (ratio (2 ^ 61) 0)
    ∷ refuses (integer_answer (pos (2 ^ 61 + 1))) 9
    ∷ accepts (conj_answer imaginary) (exact.neg imaginary)
    ∷ accepts (half_answer (ratio 6 0)) (ratio 3 0)
    ∷ refuses (half_answer (ratio 1 60)) 9
    ∷ []

abbrev pub Claim : Type 0
Claim = every (λ (row : Bool). row) rows ≡ true
