-- What the reader's struct says of the text read so far.
use Rattle.std.specs.Prelude.{◌≡◌, Bool, true, cond, ◌&&◌, ℕ, ◌+◌, ◌-◌, ◌≤◌, min, eqb, ltb, leb, length, take, set, Option, Some, None, is_some, IfSome, MatchOption, Result, Ok, Err, IfOk}
use denote.Bor.{Bor}
use mathlib.Core.List.{List, [], ◌∷◌}
use Rattle.std.proofs.lemmas.List.Edits.{sets}
use Rattle.algebra.specs.Lists.{every}
use Rattle.gate.specs.Gate.{gate_size}
use Rattle.text.specs.Ascii.{ascii}
use Rattle.text.specs.Decimal.{value}
use Rattle.qasm.specs.declared.pieces.Piece as code
use Rattle.qasm.specs.declared.pieces.Register.{Register}
use Rattle.qasm.specs.declared.pieces.Register.TheVariants.{Quantum, Classical}
use Rattle.qasm.specs.declared.steps.Progress.{Progress}
use Rattle.qasm.specs.declared.reader.Fault.{Fault}
use Rattle.qasm.specs.Tokens.{same, Token, token, is_index}
use Rattle.qasm.specs.Forms.{Piece, fixed, fresh, size, register, index}
use Rattle.qasm.specs.Reading.{Seen, seen, State, due, fault, fits, taken, step}
use Rattle.qasm.specs.Inner.Pieces.{pieces_of}

-- the number in a token
abbrev pub index_in : List ℕ → Option ℕ
index_in bs = cond (is_index (token 0 bs)) (Some (value bs)) None

-- ---- words
-- these, of which n are read, with the one that a token says where the piece is due
abbrev pub with_word : Piece → Token → ℕ → List ℕ → List ℕ
with_word (fixed bs) t n ws = ws
with_word (fresh r) t n ws = ws
with_word (size r) t n ws = ws
with_word (register r) t n ws = ws
with_word (index w) t n ws = set ws (n - gate_size + w) (value t.bytes)

-- a piece that says a word of a gate is due only behind a gate's name
abbrev pub opened_for : ℕ → Piece → Bool
opened_for n (fixed bs) = true
opened_for n (fresh r) = true
opened_for n (size r) = true
opened_for n (register r) = true
opened_for n (index w) = ltb w gate_size && leb gate_size n

-- ---- the state that the struct says, with these words
abbrev pub names_of : Progress → List (List ℕ)
names_of s = s.quantum.now ∷ s.classical.now ∷ []

abbrev pub seen_of : Progress → List ℕ → Seen
seen_of s ws = seen (names_of s) (s.qubits ∷ s.bits ∷ []) ws

-- a word that declares the classical register, which it may once and before all gates
abbrev pub declares : Progress → List ℕ → Bool
declares s word = (eqb (length s.classical.now) 0 && eqb s.words 0) && same (ascii "creg") word

abbrev pub state_of : Result Progress Fault → List ℕ → State
state_of (Ok s) ws = due (pieces_of s.due.now) (seen_of s ws)
state_of (Err f) ws = fault f.refusal f.position

-- what the struct says with these pieces due
abbrev pub with_due : Progress → Bor (List code.Piece) → Progress
with_due s ps = record { due = ps; quantum = s.quantum; classical = s.classical; qubits = s.qubits; bits = s.bits; words = s.words }

-- with this name, and with this size, of a register
abbrev pub with_name : Progress → Register → Bor (List ℕ) → Progress
with_name s Quantum b = record { due = s.due; quantum = b; classical = s.classical; qubits = s.qubits; bits = s.bits; words = s.words }
with_name s Classical b = record { due = s.due; quantum = s.quantum; classical = b; qubits = s.qubits; bits = s.bits; words = s.words }

abbrev pub with_size : Progress → Register → ℕ → Progress
with_size s Quantum n = record { due = s.due; quantum = s.quantum; classical = s.classical; qubits = n; bits = s.bits; words = s.words }
with_size s Classical n = record { due = s.due; quantum = s.quantum; classical = s.classical; qubits = s.qubits; bits = n; words = s.words }

-- what a token gives where the piece is due: the words g become g'
pub record Took (s : Progress) (g : List ℕ) (p : Piece) (t : Token) (r : Option Progress) (g' : List ℕ) : Type 0 where
  pub fitting : is_some r ≡ fits p (names_of s) t
  pub stays : IfSome r (λ (s' : Progress). (s'.due ≡ s.due) × (s'.words ≡ s.words))
  pub seen : IfSome r (λ (s' : Progress). (ws : List ℕ) → seen_of s' (with_word p t (length ws) ws) ≡ taken p (seen_of s ws) t)
  pub written : MatchOption r (g' ≡ g) (λ (s' : Progress). g' ≡ with_word p t s.words g)

-- there are as many words as the struct says, in the order in which they were read
pub record Counts (s : Progress) (ws : List ℕ) : Type 0 where
  pub words : length ws ≡ s.words
  pub opened : every (opened_for s.words) (pieces_of s.due.now) ≡ true

-- a buffer that was l has the words in front, as far as there is room
pub record Sees (l : List ℕ) (r : Result Progress Fault) (g : List ℕ) (st : State) : Type 0 where
  pub words : List ℕ
  pub is : st ≡ state_of r words
  pub counts : IfOk r (λ (s : Progress). Counts s words)
  pub held : g ≡ sets l 0 (take (length l) words)

-- what one token gives; a gate's five words are said by more tokens than five, of which four are due at least behind its name
pub record Stepped (s : Progress) (g : List ℕ) (t : Token) (r : Result Progress Fault) (g' : List ℕ) : Type 0 where
  pub few : IfOk r (λ (s' : Progress). s'.words + min (length s.due.now) 4 ≤ s.words + 1 + min (length s'.due.now) 4)
  pub keeps : (l : List ℕ) (st : State) → Sees l (Ok s) g st → Sees l r g' (step st t)
