-- A number that is read digit by digit.
use Rattle.std.specs.Prelude.{ℕ}

-- ten times as much, and a digit, fit in 64 bits
abbrev pub max_tenth : ℕ
max_tenth = 1844674407370955160
