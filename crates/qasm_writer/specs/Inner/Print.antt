-- The lines of a text in the parts that are written one after the other.
use Rattle.std.specs.Prelude.{Bool, cond, List, [], ◌∷◌, ◌++◌, ℕ, eqb, leb, Option, Some, None}
use Rattle.gate.specs.Gate.{Gate, measure, arity}
use Rattle.text.specs.Ascii.{ascii}
use Rattle.text.specs.Decimal.{decimal}
use Rattle.qasm.specs.Forms.{Entry}
use Rattle.qasm.specs.Writing.{of_kind}

-- the name of a kind and the blank behind it, which open the line of a gate, where the kind has a name
abbrev pub name_in : List Entry → Option (List ℕ)
name_in [] = None
name_in (e ∷ es) = Some (e.name ++ ascii " ")

abbrev pub name_of : ℕ → Option (List ℕ)
name_of kind = name_in (of_kind kind)

-- a number in brackets, behind the bytes before it
abbrev pub indexed : List ℕ → ℕ → List ℕ
indexed bs n = bs ++ (decimal n ++ ascii "]")

-- one more qubit, if there is one
abbrev pub qubit_if : Bool → ℕ → List ℕ
qubit_if t n = cond t (indexed (ascii ",q[") n) []

-- the operands of a gate behind the first
abbrev pub others : Gate → List ℕ
others g = cond (eqb g.kind measure) (indexed (ascii "->c[") g.b) (qubit_if (leb 2 (arity g.kind)) g.b ++ qubit_if (leb 3 (arity g.kind)) g.c)

-- the header and both declarations
abbrev pub head : ℕ → ℕ → List ℕ
head n m = indexed (ascii "OPENQASM 2.0;\ninclude \"qelib1.inc\";\nqreg q[") n ++ (indexed (ascii ";\ncreg c[") m ++ ascii ";\n")
