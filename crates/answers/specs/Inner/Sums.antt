-- A sum, term by term.
use Rattle.std.specs.Prelude.{Bool, cond, List, [], ℕ, ℤ}
use Rattle.answers.specs.Numbers.{Term, is_zero, term_text}

-- a term that may be zero
abbrev pub shown : Bool → Term → List ℕ
shown first t = cond (is_zero t.coefficient) [] (term_text first t)

-- 1 for a term that is not zero
abbrev pub count_of : ℤ → ℕ
count_of z = cond (is_zero z) 0 1
