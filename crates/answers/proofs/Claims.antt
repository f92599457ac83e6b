-- The claims on words: texts in ASCII, and the rows, by computation.
use mathlib.Core.Path.{◌≡◌, refl}
use mathlib.Core.Bool.{true}
use mathlib.Core.List.{[], ◌∷◌, ◌++◌}
use Prim.Native.Nat.{ℕ}
use Prim.Native.Char.{code}
use Prim.Native.String as string
use lib.Dec.{ltb}
use Rattle.algebra.specs.Lists.{every}
use Rattle.algebra.proofs.Tests.{and_split}
use Rattle.text.specs.Ascii.{ascii}
use Rattle.text.specs.Decimal.{digits}
use Rattle.answers.specs.Utf8.{bytes_of}
use Rattle.answers.specs.Numbers.{terms, sized, sum_text, numerator, denominator, number_text}
use Rattle.answers.specs.States.{binary}
use Rattle.answers.specs.Places.{place_of}
use Rattle.answers.specs.Claims.{AsciiKept, Numbers, Entries, Places}

one_byte : (c : ℕ) → ltb c 128 ≡ true → bytes_of c ≡ c ∷ []
one_byte c e = rw e

pub ascii-kept : AsciiKept
ascii-kept string.[] e = refl
ascii-kept (string.◌∷◌ c s) e =
    let t = and_split (ltb (code c) 128) (every (λ (b : ℕ). ltb b 128) (ascii s)) e in
    λ i. one_byte (code c) t.0 i ++ ascii-kept s t.1 i

pub numbers : Numbers
unfolding digits terms sized sum_text numerator denominator number_text
numbers = refl

pub entries : Entries
unfolding binary
entries = refl

pub places : Places
unfolding place_of
places = refl
