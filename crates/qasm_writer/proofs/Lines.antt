-- The lines of a text in the parts that are written one after the other.
use Rattle.std.specs.Prelude.{Option, Some, None, MatchOption, is_some}
use Rattle.std.proofs.Common.{Bor}
use mathlib.Core.Path.{◌≡◌, refl, sym, ap, ◌∙◌}
use mathlib.Core.Bool.{Bool, true, false, cond}
use mathlib.Core.List.{List, [], ◌∷◌, ◌++◌, append_assoc, append-nil}
use Prim.Native.Nat.{ℕ, suc, ◌≤◌}
use native.Mathlib.Omega.{arith}
use lib.Dec.{eqb, leb}
use lib.ListN.{length}
use borrow.Author.Tests.{eqb-true, le-leb}
use Rattle.algebra.specs.Lists.{All, concat_map}
use Rattle.algebra.proofs.Lists.{filter_all, filter_true}
use Rattle.gate.specs.Gate.{Gate, gate, measure, reset, arity, bit_of}
use Rattle.text.specs.Ascii.{ascii}
use Rattle.qasm.specs.Forms.{Piece, one, two, three, measured, Entry, table}
use Rattle.qasm.specs.Writing.{words, line, of_kind, gate_line, gate_text, written}
use Rattle.qasm.specs.Claims.{is_named}
use Rattle.qasm_writer.specs.Inner.Print.{name_in, name_of, indexed, qubit_if, others, head}

-- ---- the line of a gate
module _ (g : Gate) where
  abbrev qubits_of : ℕ → List ℕ
  qubits_of count = qubit_if (leb 2 count) g.b ++ qubit_if (leb 3 count) g.c

  pub others-qubits : {count : ℕ} → bit_of g ≡ None → count ≡ arity g.kind → qubits_of count ≡ others g
  others-qubits {count} h e = ap qubits_of e ∙ by (eqb g.kind measure) h
    where
      by : (t : Bool) → cond t (Some g.b) None ≡ None → qubits_of (arity g.kind) ≡ cond t (indexed (ascii "->c[") g.b) (qubits_of (arity g.kind))
      by true e = absurd cc
      by false e = refl

-- what follows its opening, with the operands behind the first
abbrev pub follows : ℕ → List ℕ → List ℕ
follows a os = indexed (ascii "q[") a ++ (os ++ ascii ";\n")

module _ (name : List ℕ) (kind a b c k : ℕ) where
  abbrev Parts : List Piece → List ℕ → Type 0
  Parts form os = line [] (words (gate kind a b c k)) name form ≡ (name ++ ascii " ") ++ follows a os

  one_parts : Parts one []
  one_parts = simp append_assoc

  two_parts : Parts two (indexed (ascii ",q[") b ++ [])
  two_parts = simp (append_assoc, append-nil)

  three_parts : Parts three (indexed (ascii ",q[") b ++ indexed (ascii ",q[") c)
  three_parts = simp append_assoc

  measured_parts : Parts measured (indexed (ascii "->c[") b)
  measured_parts = simp append_assoc

abbrev InParts : Entry → Type 0
InParts e = (a b c k : ℕ) → Parts e.name e.kind a b c k e.form (others (gate e.kind a b c k))

parts_all : All InParts table
parts_all = (
  one_parts (ascii "x") 1,
  (
    one_parts (ascii "y") 15,
    (
      one_parts (ascii "z") 2,
      (
        one_parts (ascii "h") 0,
        (
          one_parts (ascii "s") 3,
          (
            one_parts (ascii "sdg") 4,
            (
              one_parts (ascii "t") 5,
              (
                one_parts (ascii "tdg") 6,
                (
                  two_parts (ascii "cx") 8,
                  (
                    two_parts (ascii "cz") 9,
                    (
                      two_parts (ascii "cy") 20,
                      (
                        two_parts (ascii "ch") 25,
                        (
                          two_parts (ascii "swap") 19,
                          (
                            three_parts (ascii "ccx") 10,
                            (
                              three_parts (ascii "cswap") 26,
                              (measured_parts (ascii "measure") measure, (one_parts (ascii "reset") reset, tt)),
                            ),
                          ),
                        ),
                      ),
                    ),
                  ),
                ),
              ),
            ),
          ),
        ),
      ),
    ),
  ),
)

-- a gate by the name of its kind
module _ (g : Gate) where
  abbrev of : ℕ → Gate
  of kind = gate kind g.a g.b g.c g.k

  pub gate-shown : {name : List ℕ} → name_of g.kind ≡ Some name → name ++ follows g.a (others g) ≡ gate_text g
  gate-shown {name} = by (of_kind g.kind) (filter_all InParts is_kind table parts_all) (filter_true is_kind table)
    where
      is_kind : Entry → Bool
      is_kind e = eqb e.kind g.kind

      by : (es : List Entry) → All InParts es → All (λ (e : Entry). is_kind e ≡ true) es → name_in es ≡ Some name → name ++ follows g.a (others g) ≡ gate_line g es
      by [] p q h = absurd cc
      by (e ∷ es) p q h =
          let same : e.kind ≡ g.kind = eqb-true e.kind g.kind q.0 in
          let named : e.name ++ ascii " " ≡ name = cc in
          ap (λ (bs : List ℕ). bs ++ follows g.a (others g)) (sym named) ∙ ap (λ (kind : ℕ). (e.name ++ ascii " ") ++ follows g.a (others (of kind))) (sym same)
          ∙ sym (p.0 g.a g.b g.c g.k) ∙ ap (λ (kind : ℕ). line [] (words (of kind)) e.name e.form) same

  abbrev Named : List Entry → Bor (List ℕ) → Type 0
  Named es name = (name_in es ≡ Some name.now) × (length name.now ≤ 8)

  pub named : (o : Option (Bor (List ℕ))) → MatchOption o (name_of g.kind ≡ None) (Named (of_kind g.kind)) → is_named g ≡ is_some o
  named o = by o (of_kind g.kind)
    where
      by : (o : Option (Bor (List ℕ))) (es : List Entry) → MatchOption o (name_in es ≡ None) (Named es) → leb 1 (length es) ≡ is_some o
      by None [] h = refl
      by None (e ∷ es) h = absurd cc
      by (Some name) [] h = absurd (let e = h.0 in cc)
      by (Some name) (e ∷ es) h = le-leb 1 (suc (length es)) (omega arith)

  -- there is none
  module _ (h : name_of g.kind ≡ None) where
    no_entry : of_kind g.kind ≡ []
    no_entry = by (of_kind g.kind) h
      where
        by : (es : List Entry) → name_in es ≡ None → es ≡ []
        by [] h = refl
        by (e ∷ es) h = absurd cc

    pub gate_hidden : [] ≡ gate_text g
    gate_hidden = ap (gate_line g) (sym no_entry)

-- ---- the whole text
pub head-then : (n m : ℕ) (gs : List Gate) → head n m ++ concat_map gate_text gs ≡ written n m gs
head-then n m gs = simp append_assoc
