-- The writer's call: n qubits, m bits, the gates' words ws, and the room that is lent for the text.
use Rattle.std.specs.Prelude.{cond, List, [], ◌∷◌, ◌++◌, ℕ, suc, ◌%◌, eqb, leb, length, Result, is_ok}
use Rattle.std.proofs.lemmas.List.Edits.{sets}
use Rattle.verdict.specs.declared.Refusal.{Refusal}
use Rattle.verdict.specs.declared.Refusal.TheVariants.{MalformedAt, ShortBuffer, UnknownNameAt}
use Rattle.verdict.specs.Questions.{Question, question, granted}
use Rattle.gate.specs.Gate.{Gate, gate_size, gates_of, formed}
use Rattle.qasm.specs.Writing.{written}
use Rattle.qasm.specs.Claims.{is_named}

-- a question of each gate; the gates are numbered from i on
abbrev pub along : (ℕ → Gate → Question) → ℕ → List Gate → List Question
along ask i [] = []
along ask i (g ∷ gs) = ask i g ∷ along ask (suc i) gs

abbrev pub formed_at : ℕ → Gate → Question
formed_at i g = question 4 (formed g) (MalformedAt i)

-- 14: its kind has a name
abbrev pub named_at : ℕ → Gate → Question
named_at i g = question 14 (is_named g) (UnknownNameAt i)

-- of the words: 4 is asked of every gate before 14 of any
abbrev pub word_questions : List ℕ → List Question
word_questions ws = question 2 (eqb (length ws % gate_size) 0) (MalformedAt 0) ∷ along formed_at 0 (gates_of ws) ++ along named_at 0 (gates_of ws)

abbrev pub text_of : ℕ → ℕ → List ℕ → List ℕ
text_of n m ws = written n m (gates_of ws)

module _ (n m : ℕ) (ws room : List ℕ) where
  abbrev pub write_questions : List Question
  write_questions = word_questions ws ++ (question 10 (leb (length (text_of n m ws)) (length room)) ShortBuffer ∷ [])

  -- how many bytes the text has
  abbrev pub write_reply : Result ℕ Refusal
  write_reply = granted (length (text_of n m ws)) write_questions

  -- the room afterwards: the text, and the bytes behind it as they were; all as they were where the call refuses
  abbrev pub room_after : List ℕ
  room_after = cond (is_ok write_reply) (sets room 0 (text_of n m ws)) room
