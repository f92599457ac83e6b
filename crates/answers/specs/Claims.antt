-- What holds of answers in words.
use Rattle.std.specs.Prelude.{◌≡◌, true, List, [], ◌∷◌, map, ℕ, ◌^◌, ltb, ℤ, pos, neg_ℤ}
use Prim.Native.String.{String}
use Rattle.algebra.specs.Dyadic.{frac}
use Rattle.algebra.specs.Lists.{every}
use Rattle.exact.specs.Exact.{number, Exact}
use Rattle.text.specs.Ascii.{ascii}
use Rattle.answers.specs.Utf8.{utf8}
use Rattle.answers.specs.Numbers.{number_text}
use Rattle.answers.specs.States.{entry_text}
use Rattle.answers.specs.declared.places.Place.{Place}
use Rattle.answers.specs.Places.{place, place_of}

-- a text in ASCII is the same bytes in UTF-8
abbrev pub AsciiKept : Type 0
AsciiKept = (s : String) → every (λ (b : ℕ). ltb b 128) (ascii s) ≡ true → utf8 s ≡ ascii s

-- ---- numbers
pub record NumberRow : Type 0 where
  pub number : Exact
  pub text : String

abbrev pub row : ℤ → ℤ → ℤ → ℤ → ℕ → String → NumberRow
row a b c d e t = record { number = frac (number a b c d) e; text = t }

abbrev pub minus : ℕ → ℤ
minus n = neg_ℤ (pos n)

abbrev pub number_rows : List NumberRow
number_rows =
    row (pos 0) (pos 0) (pos 0) (pos 0) 0 "0"
    ∷ row (pos 1) (pos 0) (pos 0) (pos 0) 0 "1"
    ∷ row (minus 1) (pos 0) (pos 0) (pos 0) 0 "−1"
    ∷ row (pos 0) (pos 0) (minus 1) (pos 0) 1 "−i/2"
    ∷ row (pos 1) (pos 1) (pos 0) (pos 0) 2 "(1 + √2)/4"
    ∷ row (pos 0) (pos 3) (pos 0) (pos 0) 3 "3√2/8"
    ∷ row (pos 1) (minus 2) (pos 1) (minus 5) 4 "(1 − 2√2 + i − 5i√2)/16"
    ∷ row (pos 0) (pos 1) (pos 0) (pos 0) 1 "√2/2"
    ∷ row (pos 0) (pos 0) (pos 0) (pos 1) 0 "i√2"
    -- a coefficient 1 or −1, alone and behind another term
    ∷ row (pos 0) (minus 1) (pos 0) (pos 0) 0 "−√2"
    ∷ row (pos 1) (pos 1) (minus 1) (minus 1) 0 "1 + √2 − i − i√2"
    ∷ row (minus 1) (pos 0) (pos 0) (pos 1) 1 "(−1 + i√2)/2"
    ∷ row (pos 0) (pos 0) (pos 10) (pos 0) 0 "10i"
    -- the ends of the ranges
    ∷ row (pos (2 ^ 61)) (minus (2 ^ 61)) (pos 0) (pos 0) 0 "2305843009213693952 − 2305843009213693952√2"
    ∷ row (pos (2 ^ 61)) (pos 1) (pos 0) (pos 0) 60 "(2305843009213693952 + √2)/1152921504606846976"
    ∷ row (pos 1) (pos 0) (pos 0) (pos 0) 60 "1/1152921504606846976"
    ∷ []

-- each is written so
abbrev pub Numbers : Type 0
Numbers = map (λ (r : NumberRow). number_text r.number) number_rows ≡ map (λ (r : NumberRow). utf8 r.text) number_rows

-- ---- entries
pub record EntryRow : Type 0 where
  pub qubits : ℕ
  pub row : ℕ
  pub column : ℕ
  pub text : String

abbrev pub entry : ℕ → ℕ → ℕ → String → EntryRow
entry n r c t = record { qubits = n; row = r; column = c; text = t }

abbrev pub entry_rows : List EntryRow
entry_rows =
    entry 1 2 3 "from input |0⟩⟨1| to output |1⟩⟨1|"
    ∷ entry 2 4 11 "from input |00⟩⟨11| to output |01⟩⟨10|"
    ∷ entry 4 18 205 "from input |0010⟩⟨1101| to output |0001⟩⟨1100|"
    ∷ entry 0 0 0 "from input |⟩⟨| to output |⟩⟨|"
    ∷ []

abbrev pub Entries : Type 0
Entries = map (λ (r : EntryRow). entry_text r.qubits r.row r.column) entry_rows ≡ map (λ (r : EntryRow). utf8 r.text) entry_rows

-- ---- places
pub record PlaceRow : Type 0 where
  pub text : String
  pub position : ℕ
  pub place : Place

abbrev pub at : String → ℕ → ℕ → ℕ → PlaceRow
at t p line column = record { text = t; position = p; place = place line column }

abbrev pub place_rows : List PlaceRow
place_rows =
    at "ab\ncd" 0 1 1
    -- a newline ends its line
    ∷ at "ab\ncd" 2 1 3
    ∷ at "ab\ncd" 3 2 1
    ∷ at "ab\ncd" 4 2 2
    -- the end, and beyond it
    ∷ at "ab\ncd" 5 2 3
    ∷ at "ab\ncd" 9 2 3
    -- columns are bytes
    ∷ at "\n√2" 4 2 4
    ∷ []

abbrev pub Places : Type 0
Places = map (λ (r : PlaceRow). place_of (utf8 r.text) r.position) place_rows ≡ map (λ (r : PlaceRow). r.place) place_rows
