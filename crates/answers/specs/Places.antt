-- Places in a text: lines, and columns in bytes, both from 1.
use Rattle.std.specs.Prelude.{cond, ℕ, ◌+◌, eqb, take}
use mathlib.Core.List.{List, foldl}
use Prim.Native.Char.{code}
use Rattle.answers.specs.declared.places.Place.{Place}

abbrev pub place : ℕ → ℕ → Place
place line column = record { line = line; column = column }

-- the place after a byte: a newline begins the next line
abbrev pub after : Place → ℕ → Place
after p b = cond (eqb b (code "\n")) (place (p.line + 1) 1) (place p.line (p.column + 1))

-- the place of a byte by its number, from 0; beyond the text's end, the end
unfoldable pub place_of : List ℕ → ℕ → Place
place_of text position = foldl after (place 1 1) (take position text)
