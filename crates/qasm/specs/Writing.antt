-- Writing: one statement a line, with the registers q and c always declared.
use Rattle.std.specs.Prelude.{List, [], ◌∷◌, ◌++◌, ℕ, eqb, get_or}
use Rattle.algebra.specs.Lists.{filter_by, concat_map}
use Rattle.gate.specs.Gate.{Gate}
use Rattle.text.specs.Ascii.{ascii}
use Rattle.text.specs.Decimal.{decimal}
use Rattle.qasm.specs.Forms.{Piece, fixed, fresh, size, register, index, header, included, declared, Entry, table}

abbrev pub registers : List (List ℕ)
registers = ascii "q" ∷ ascii "c" ∷ []

-- the bytes of a piece, for the registers' sizes and the gate's words
abbrev pub print : List ℕ → List ℕ → Piece → List ℕ
print ns ws (fixed bs) = bs
print ns ws (fresh r) = get_or registers r []
print ns ws (size r) = decimal (get_or ns r 0)
print ns ws (register r) = get_or registers r []
print ns ws (index w) = decimal (get_or ws w 0)

abbrev pub line : List ℕ → List ℕ → List ℕ → List Piece → List ℕ
line ns ws opening ps = opening ++ (ascii " " ++ (concat_map (print ns ws) ps ++ ascii "\n"))

-- ---- gates
abbrev pub words : Gate → List ℕ
words g = g.kind ∷ g.a ∷ g.b ∷ g.c ∷ g.k ∷ []

abbrev pub of_kind : ℕ → List Entry
of_kind kind = filter_by (λ (e : Entry). eqb e.kind kind) table

abbrev pub gate_line : Gate → List Entry → List ℕ
gate_line g [] = []
gate_line g (e ∷ es) = line [] (words g) e.name e.form

abbrev pub gate_text : Gate → List ℕ
gate_text g = gate_line g (of_kind g.kind)

-- the whole text, of n qubits and m bits
abbrev pub written : ℕ → ℕ → List Gate → List ℕ
written n m gs =
    let ns = n ∷ m ∷ [] in
    header ++ (ascii "\n" ++ (line ns [] (ascii "include") included ++ (line ns [] (ascii "qreg") (declared 0) ++ (line ns [] (ascii "creg") (declared 1) ++ concat_map gate_text gs))))
