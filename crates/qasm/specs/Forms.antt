-- The statements, for reader and writer alike: the table of gate names with their kinds and the pieces that follow each name.
use Rattle.std.specs.Prelude.{List, [], ◌∷◌, ℕ}
use Prim.Native.String.{String}
use Rattle.gate.specs.Gate.{measure, reset}
use Rattle.text.specs.Ascii.{ascii}
use Rattle.qasm.specs.Tokens.{arrow, library}

-- what stands at one place of a statement; register 0 is the quantum one, register 1 the classical one
pub data Piece : Type 0 where
  fixed : List ℕ → Piece  -- these bytes
  fresh : ℕ → Piece  -- the name of a register that is declared
  size : ℕ → Piece  -- its size
  register : ℕ → Piece  -- the name of a register that is used
  index : ℕ → Piece  -- the number that is word 1, 2 or 3 of the gate

abbrev pub sign : String → Piece
sign s = fixed (ascii s)

-- ---- before the gates
abbrev pub header : List ℕ
header = ascii "OPENQASM 2.0;"

abbrev pub included : List Piece
included = fixed library ∷ sign ";" ∷ []

abbrev pub declared : ℕ → List Piece
declared r = fresh r ∷ sign "[" ∷ size r ∷ sign "]" ∷ sign ";" ∷ []

-- ---- gates
-- register r with an index, which is word w of the gate, before other pieces
abbrev pub operand : ℕ → ℕ → List Piece → List Piece
operand r w ps = register r ∷ sign "[" ∷ index w ∷ sign "]" ∷ ps

abbrev pub one : List Piece
one = operand 0 1 (sign ";" ∷ [])

abbrev pub two : List Piece
two = operand 0 1 (sign "," ∷ operand 0 2 (sign ";" ∷ []))

abbrev pub three : List Piece
three = operand 0 1 (sign "," ∷ operand 0 2 (sign "," ∷ operand 0 3 (sign ";" ∷ [])))

abbrev pub measured : List Piece
measured = operand 0 1 (fixed arrow ∷ operand 1 2 (sign ";" ∷ []))

pub record Entry : Type 0 where
  pub name : List ℕ
  pub kind : ℕ
  pub form : List Piece

abbrev pub entry : String → ℕ → List Piece → Entry
entry name kind form = record { name = ascii name; kind = kind; form = form }

abbrev pub table : List Entry
table =
    entry "x" 1 one ∷ entry "y" 15 one ∷ entry "z" 2 one ∷ entry "h" 0 one
    ∷ entry "s" 3 one ∷ entry "sdg" 4 one ∷ entry "t" 5 one ∷ entry "tdg" 6 one
    ∷ entry "cx" 8 two ∷ entry "cz" 9 two ∷ entry "cy" 20 two ∷ entry "ch" 25 two ∷ entry "swap" 19 two
    ∷ entry "ccx" 10 three ∷ entry "cswap" 26 three ∷ entry "measure" measure measured ∷ entry "reset" reset one ∷ []
