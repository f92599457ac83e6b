-- Counts that stop at a bound.
use Rattle.std.specs.Prelude.{Bool, cond, ℕ, ◌+◌, min}

-- the largest count
abbrev pub most : ℕ
most = 1000000000

abbrev pub added : ℕ → ℕ → ℕ
added a b = min (a + b) most

-- one more where a test says so
abbrev pub counted : ℕ → Bool → ℕ
counted n more = cond more (added n 1) n
