-- Examples of words with the writer's answer, and the claim that all of them hold.
use Rattle.std.specs.Prelude.{◌≡◌, Bool, true, ◌&&◌, List, [], ◌∷◌, ◌++◌, ℕ, eqb, replicate, Result}
use Rattle.algebra.specs.Lists.{every}
use Rattle.verdict.specs.declared.Refusal.{Refusal}
use Rattle.verdict.specs.Verdict.{verdict_number, verdict_index}
use Rattle.qasm_writer.specs.Call.{write_reply}

pub record Row : Type 0 where
  pub words : List ℕ
  -- the bytes of the room
  pub room : ℕ
  pub number : ℕ
  pub index : ℕ

abbrev pub row : List ℕ → ℕ → ℕ → ℕ → Row
row ws room number index = record { words = ws; room = room; number = number; index = index }

-- of 12 qubits and 3 bits
abbrev pub answer : Row → Result ℕ Refusal
answer r = write_reply 12 3 r.words (replicate r.room 0)

abbrev pub holds : Row → Bool
holds r = eqb (verdict_number (answer r)) r.number && eqb (verdict_index (answer r)) r.index

-- ---- gates
abbrev pub x : List ℕ
x = 1 ∷ 4294967295 ∷ 0 ∷ 0 ∷ 0 ∷ []

abbrev pub measure : List ℕ
measure = 12 ∷ 0 ∷ 64 ∷ 0 ∷ 0 ∷ []

abbrev pub rz : List ℕ
rz = 7 ∷ 0 ∷ 0 ∷ 0 ∷ 4 ∷ []

-- x with a word too many
abbrev pub malformed : List ℕ
malformed = 1 ∷ 0 ∷ 0 ∷ 0 ∷ 1 ∷ []

abbrev pub rows : List Row
rows =
    -- room for the text, and a byte too few; operands are any numbers
    row [] 59 0 0
    ∷ row [] 58 8 0
    ∷ row (x ++ measure) 97 0 0
    ∷ row (x ++ measure) 96 8 0
    -- another length, a malformed gate, a kind without a name
    ∷ row (x ++ (1 ∷ [])) 200 5 0
    ∷ row (x ++ malformed) 200 5 1
    ∷ row (x ++ rz) 200 14 1
    ∷ row (27 ∷ 0 ∷ 0 ∷ 0 ∷ 0 ∷ []) 200 5 0
    -- the form of every gate is asked before any name, and the room last
    ∷ row (rz ++ malformed) 0 5 1
    ∷ row (x ++ (rz ++ rz)) 0 14 1
    ∷ []

abbrev pub Examples : Type 0
Examples = every holds rows ≡ true
