-- Reading: token after token is held against what is due; the first that cannot stand there is the fault.
use Rattle.std.specs.Prelude.{Bool, cond, not, ◌&&◌, ℕ, ◌+◌, ◌-◌, eqb, leb, length, get_or, drop, set, Result, Ok, Err}
use mathlib.Core.List.{List, [], ◌∷◌, ◌++◌, foldl}
use Rattle.std.proofs.lemmas.List.Edits.{sets}
use Rattle.algebra.specs.Lists.{every, filter_by}
use Rattle.verdict.specs.declared.Refusal.{Refusal}
use Rattle.verdict.specs.declared.Refusal.TheVariants.{ShortBuffer, BadText, UnknownNameAt}
use Rattle.gate.specs.Gate.{gate_size}
use Rattle.text.specs.Ascii.{ascii}
use Rattle.text.specs.Decimal.{value}
use Rattle.qasm.specs.declared.reader.Reading.{Reading}
use Rattle.qasm.specs.declared.reader.Fault.{Fault}
use Rattle.qasm.specs.Tokens.{same, is_blank, run, begins, Token, tokens, is_word, is_name, is_index}
use Rattle.qasm.specs.Forms.{Piece, fixed, fresh, size, register, index, sign, header, included, declared, Entry, table}

-- what has been read: the registers' names (none: no bytes) and sizes, and the gates' words
pub record Seen : Type 0 where
  pub names : List (List ℕ)
  pub sizes : List ℕ
  pub words : List ℕ

abbrev pub seen : List (List ℕ) → List ℕ → List ℕ → Seen
seen names sizes words = record { names = names; sizes = sizes; words = words }

-- what is seen, with the pieces that are due before the statement ends (none between statements); or the first fault with its position
pub data State : Type 0 where
  due : List Piece → Seen → State
  fault : Refusal → ℕ → State

-- ---- one piece
-- whether a token can stand there, after these names
abbrev pub fits : Piece → List (List ℕ) → Token → Bool
fits (fixed bs) names t = same bs t.bytes
fits (fresh r) names t = is_name t && every (λ (n : List ℕ). not (same n t.bytes)) names
fits (size r) names t = is_index t
fits (register r) names t = same (get_or names r []) t.bytes
fits (index w) names t = is_index t

abbrev pub taken : Piece → Seen → Token → Seen
taken (fixed bs) s t = s
taken (fresh r) s t = seen (set s.names r t.bytes) s.sizes s.words
taken (size r) s t = seen s.names (set s.sizes r (value t.bytes)) s.words
taken (register r) s t = s
taken (index w) s t = seen s.names s.sizes (set s.words (length s.words - gate_size + w) (value t.bytes))

-- where a gate's name or an operand's register is due, another word is a fault of its own
abbrev pub unknown : Token → Refusal
unknown t = cond (is_word t) (UnknownNameAt 0) BadText

abbrev pub wrong : Piece → Token → Refusal
wrong (fixed bs) t = BadText
wrong (fresh r) t = BadText
wrong (size r) t = BadText
wrong (register r) t = unknown t
wrong (index w) t = BadText

-- ---- one token
-- a gate's name: its words so far are the kind and zeros
abbrev pub named : Token → List Entry
named t = filter_by (λ (e : Entry). same e.name t.bytes) table

abbrev pub opened : List Entry → Seen → Token → State
opened [] s t = fault (unknown t) t.at
opened (e ∷ es) s t = due e.form (seen s.names s.sizes (s.words ++ (e.kind ∷ 0 ∷ 0 ∷ 0 ∷ 0 ∷ [])))

-- the classical register may be declared once, before any gate
abbrev pub may_declare : Seen → Bool
may_declare s = eqb (length (get_or s.names 1 [])) 0 && eqb (length s.words) 0

abbrev pub step : State → Token → State
step (fault r at) t = fault r at
step (due (p ∷ ps) s) t = cond (fits p s.names t) (due ps (taken p s t)) (fault (wrong p t) t.at)
step (due [] s) t = cond (may_declare s && same (ascii "creg") t.bytes) (due (declared 1) s) (opened (named t) s t)

-- ---- the whole text
abbrev pub start : State
start = due (sign "include" ∷ included ++ (sign "qreg" ∷ declared 0)) (seen ([] ∷ [] ∷ []) (0 ∷ 0 ∷ []) [])

-- both counts and the gates' words; or a refusal with the position of the fault
pub data Outcome : Type 0 where
  circuit : ℕ → ℕ → List ℕ → Outcome
  refused : Refusal → ℕ → Outcome

-- at the end of the text, which has n bytes
abbrev pub ended : ℕ → State → Outcome
ended n (fault r at) = refused r at
ended n (due (p ∷ ps) s) = refused BadText n
ended n (due [] s) = circuit (get_or s.sizes 0 0) (get_or s.sizes 1 0) s.words

-- the header stands after blanks only, byte for byte
abbrev pub read_from : ℕ → List ℕ → Outcome
read_from i t =
    let after = i + length header in
    cond (begins header (drop i t)) (ended (length t) (foldl step start (tokens after 0 (drop after t)))) (refused BadText i)

abbrev pub read_of : List ℕ → Outcome
read_of t = read_from (run is_blank t) t

-- ---- the call: its reply, for room of so many words, and that room
abbrev pub fault_at : Refusal → ℕ → Fault
fault_at r at = record { refusal = r; position = at }

abbrev pub reply : ℕ → Outcome → Result Reading Fault
reply room (circuit n m ws) = cond (leb (length ws) room) (Ok (record { qubits = n; bits = m; words = length ws })) (Err (fault_at ShortBuffer 0))
reply room (refused r at) = Err (fault_at r at)

abbrev pub filled : List ℕ → Outcome → List ℕ
filled gates (circuit n m ws) = cond (leb (length ws) (length gates)) (sets gates 0 ws) gates
filled gates (refused r at) = gates
