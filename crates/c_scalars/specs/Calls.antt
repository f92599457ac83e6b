-- An answer's scalar as five words.
use Rattle.std.specs.Prelude.{List, ℤ, Ok, Err}
use Rattle.exact.specs.Exact.{exact}
use Rattle.scalar.specs.Calls.{Answer, value}
use Rattle.cells.specs.Cells.{cell_words}

-- a refusal hands back zero
abbrev pub answer_words : Answer → List ℤ
answer_words (Ok s) = cell_words (value s)
answer_words (Err r) = cell_words exact.𝟘
