-- The bytes of a text in UTF-8, for characters up to U+FFFF: one, two or three bytes each.
use Rattle.std.specs.Prelude.{cond, List, [], ◌∷◌, ◌++◌, ℕ, ◌+◌, ◌/◌, ◌%◌, ltb}
use Prim.Native.Char.{code}
use Prim.Native.String.{String}
use Prim.Native.String as string

-- a byte that continues a character holds six bits
abbrev pub continued : ℕ → ℕ
continued c = 128 + c % 64

abbrev pub bytes_of : ℕ → List ℕ
bytes_of c =
    cond (ltb c 128) (c ∷ [])
    (cond (ltb c 2048) ((192 + c / 64) ∷ continued c ∷ [])
    ((224 + c / 4096) ∷ continued (c / 64) ∷ continued c ∷ []))

abbrev pub utf8 : String → List ℕ
utf8 string.[] = []
utf8 (string.◌∷◌ c s) = bytes_of (code c) ++ utf8 s
