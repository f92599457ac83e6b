-- The numbers of replies that are no verdicts: above all refusals, and never 0, so that "same" and "equivalent" are one number each.
use Rattle.std.specs.Prelude.{ℕ}

-- ---- compare
abbrev pub same : ℕ
same = 100

abbrev pub dimensions : ℕ
dimensions = 101

abbrev pub entry : ℕ
entry = 102

-- ---- the phase test
abbrev pub equivalent : ℕ
equivalent = 103

abbrev pub different : ℕ
different = 104

-- ---- two texts
abbrev pub left_refused : ℕ
left_refused = 105

abbrev pub right_refused : ℕ
right_refused = 106
