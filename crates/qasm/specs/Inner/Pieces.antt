-- The pieces as the code has them, and how the statement of a gate goes on.
use Rattle.std.specs.Prelude.{cond, List, [], ◌∷◌, map, ℕ, Option, Some, None}
use Rattle.gate.specs.declared.kinds.Kind.{Kind}
use Rattle.gate.specs.Kinds.{number_of}
use Rattle.qasm.specs.declared.pieces.Form.{Form}
use Rattle.qasm.specs.declared.pieces.Form.TheVariants.{One, Two, Three, Measured}
use Rattle.qasm.specs.declared.pieces.Register.{Register}
use Rattle.qasm.specs.declared.pieces.Register.TheVariants.{Quantum, Classical}
use Rattle.qasm.specs.declared.pieces.Piece as code
use Rattle.qasm.specs.declared.pieces.Piece.TheVariants.{Fixed, Fresh, Size, Used, Index}
use Rattle.qasm.specs.Tokens.{same}
use Rattle.qasm.specs.Forms.{Piece, fixed, fresh, size, register, index, one, two, three, measured, Entry}

abbrev pub place_of : Register → ℕ
place_of Quantum = 0
place_of Classical = 1

abbrev pub piece_of : code.Piece → Piece
piece_of (Fixed bs) = fixed bs.now
piece_of (Fresh r) = fresh (place_of r)
piece_of (Size r) = size (place_of r)
piece_of (Used r) = register (place_of r)
piece_of (Index w) = index w

abbrev pub pieces_of : List code.Piece → List Piece
pieces_of ps = map piece_of ps

-- ---- the table
abbrev pub form_of : Form → List Piece
form_of One = one
form_of Two = two
form_of Three = three
form_of Measured = measured

abbrev pub entry_of : List ℕ → Kind → Form → Entry
entry_of name kind form = record { name = name; kind = number_of kind; form = form_of form }

-- the first entry with this name
abbrev pub entry_named : List ℕ → List Entry → Option Entry
entry_named word [] = None
entry_named word (e ∷ es) = cond (same e.name word) (Some e) (entry_named word es)

-- what the code answers, asked for a name
abbrev pub shown : List ℕ → Option (Kind × Form) → Option Entry
shown name None = None
shown name (Some e) = Some (entry_of name e.0 e.1)
