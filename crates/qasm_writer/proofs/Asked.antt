-- The questions of the writer: what a gate decides and what it leaves to those behind it, and the reply and the room that follow.
use Rattle.std.specs.Prelude.{Result, is_ok, Ok, Err}
use mathlib.Core.Path.{◌≡◌, sym, ap, ◌∙◌}
use mathlib.Core.Bool.{Bool, true, false, cond}
use mathlib.Core.List.{List, ◌∷◌, ◌++◌}
use Prim.Native.Nat.{ℕ, ◌+◌, ◌-◌, ◌*◌, ◌/◌, ◌%◌, ◌<◌, ◌≤◌}
use native.Mathlib.Nat.{zero-add}
use native.Mathlib.Numerals.{add-one}
use native.Mathlib.Omega.{arith}
use lib.Dec.{leb}
use lib.ListN.{length}
use lib.Seq.{sets}
use borrow.Author.Tests.{eq-eqb, ne_eqb, leb-true}
use Rattle.verdict.specs.Questions.{Verdict}
use Rattle.verdict.specs.declared.Refusal.TheVariants.{MalformedAt, ShortBuffer}
use Rattle.verdict.specs.Questions.{Question, first_no}
use Rattle.verdict.proofs.Questions.{refused, passed}
use Rattle.gate.specs.Gate.{Gate, gate_size, gate_at, gates_from, gates_of}
use Rattle.gate.proofs.Listed.{gates-more, gates-none}
use Rattle.text.specs.Page.{Page, page, write}
use Rattle.text.proofs.Put.{write-from}
use Rattle.verdict.specs.declared.Refusal.{Refusal}
use Rattle.qasm_writer.specs.Call.{along, formed_at, named_at, word_questions, text_of, write_reply, room_after}

-- ---- the gates from gate i on
abbrev pub from : List ℕ → ℕ → List Gate
from ws i = gates_from ws i (length ws / gate_size - i)

pub from_all : (ws : List ℕ) → gates_of ws ≡ from ws 0
from_all ws = let e : length ws / gate_size - 0 ≡ length ws / gate_size = omega arith in sym (ap (gates_from ws 0) e)

-- ---- a question of each gate
module _ (ask : ℕ → Gate → Question) (ws : List ℕ) where
  pub ask_all : first_no (along ask 0 (gates_of ws)) ≡ first_no (along ask 0 (from ws 0))
  ask_all = ap (λ (gs : List Gate). first_no (along ask 0 gs)) (from_all ws)

  module _ {i : ℕ} {g : Gate} (l : i < length ws / gate_size) (e : g ≡ gate_at ws (i * gate_size)) where
    split : along ask i (from ws i) ≡ ask i g ∷ along ask (i + 1) (from ws (i + 1))
    split = ap (along ask i) (gates-more ws (length ws / gate_size) i l) ∙ (λ j. ask i (sym e j) ∷ along ask (sym (add-one i) j) (from ws (i + 1)))

    pub ask_no : (ask i g).answer ≡ false → first_no (along ask i (from ws i)) ≡ Err (ask i g).refusal
    ask_no f = ap first_no split ∙ ap (λ (b : Bool). cond b (first_no (along ask (i + 1) (from ws (i + 1)))) (Err (ask i g).refusal)) f

    pub ask_yes : (ask i g).answer ≡ true → first_no (along ask i (from ws i)) ≡ first_no (along ask (i + 1) (from ws (i + 1)))
    ask_yes f = ap first_no split ∙ ap (λ (b : Bool). cond b (first_no (along ask (i + 1) (from ws (i + 1)))) (Err (ask i g).refusal)) f

  pub ask_none : (i : ℕ) → length ws / gate_size ≤ i → first_no (along ask i (from ws i)) ≡ (Ok tt)
  ask_none i l = ap (λ (gs : List Gate). first_no (along ask i gs)) (gates-none ws (length ws / gate_size) i l)

-- ---- the questions of the words
module _ (ws : List ℕ) where
  abbrev asks_formed : List Question
  asks_formed = along formed_at 0 (gates_of ws)

  abbrev asks_named : List Question
  asks_named = along named_at 0 (gates_of ws)

  abbrev by : Bool → Verdict
  by b = cond b (first_no (asks_formed ++ asks_named)) (Err (MalformedAt 0))

  pub words_broken : (length ws % gate_size ≡ 0 → ⊥) → Err (MalformedAt 0) ≡ first_no (word_questions ws)
  words_broken n = ap by (sym (ne_eqb (length ws % gate_size) 0 n))

  module _ (e : length ws % gate_size ≡ 0) where
    whole : first_no (asks_formed ++ asks_named) ≡ first_no (word_questions ws)
    whole = ap by (sym (eq-eqb (length ws % gate_size) 0 e))

    pub words-malformed : {r : Refusal} → Err r ≡ first_no asks_formed → Err r ≡ first_no (word_questions ws)
    words-malformed h = refused tt tt asks_formed asks_named h ∙ whole

    pub words-formed : {v : Verdict} → Ok tt ≡ first_no asks_formed → v ≡ first_no asks_named → v ≡ first_no (word_questions ws)
    words-formed h k = k ∙ passed tt tt asks_formed asks_named h ∙ whole

-- ---- the reply and the room
module _ (n m : ℕ) (ws room : List ℕ) where
  abbrev text : List ℕ
  text = text_of n m ws

  abbrev Answers : Result ℕ Refusal → List ℕ → Type 0
  Answers r after = (r ≡ write_reply n m ws room) × (after ≡ room_after n m ws room)

  refuses : {r : Refusal} → Err r ≡ write_reply n m ws room → Answers (Err r) room
  refuses e = (e, ap (λ (b : Bool). cond b (sets room 0 text) room) (ap is_ok e))

  pub refused-words : {r : Refusal} → Err r ≡ first_no (word_questions ws) → Answers (Err r) room
  refused-words e = refuses (refused tt (length text) (word_questions ws) _ e)

  -- the words are taken
  module _ (e : Ok tt ≡ first_no (word_questions ws)) where
    abbrev last : Bool → Result ℕ Refusal
    last b = cond b (Ok (length text)) (Err ShortBuffer)

    then-room : {b : Bool} → leb (length text) (length room) ≡ b → last b ≡ write_reply n m ws room
    then-room k = ap last (sym k) ∙ passed tt (length text) (word_questions ws) _ e

    pub refused-room : leb (length text) (length room) ≡ false → Answers (Err ShortBuffer) room
    refused-room f = refuses (then-room f)

    pub taken-whole : leb (length text) (length room) ≡ true → {after : List ℕ} {k : ℕ} → page after k ≡ write (page room 0) text → Answers (Ok k) after
    taken-whole f w =
        let r = then-room f in
        let p = w ∙ write-from text room 0 (let l = leb-true (length text) (length room) f in omega arith) in (
          ap (λ (p : Page). Ok p.at) p ∙ ap (λ (k : ℕ). Ok k) (zero-add (length text)) ∙ r,
          ap (λ (p : Page). p.room) p ∙ ap (λ (b : Bool). cond b (sets room 0 text) room) (ap is_ok r),
        )
