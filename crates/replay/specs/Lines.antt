-- A line that the text itself measures: how many bytes it has, then the bytes and a newline.
use Rattle.std.specs.Prelude.{List, ℕ, ◌+◌, min, length, take, drop}
use Rattle.replay.specs.Numerals.{word_at}

-- its bytes, as far as the text goes
abbrev pub line_bytes : List ℕ → ℕ → List ℕ
line_bytes t at = take (word_at t at).size (drop (word_at t at).next t)

-- where the next number begins
abbrev pub behind_line : List ℕ → ℕ → ℕ
behind_line t at = min ((word_at t at).next + (word_at t at).size + 1) (length t)
