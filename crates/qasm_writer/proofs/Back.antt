-- What the writer takes, and that what it delivers reads back.
use Rattle.std.specs.Prelude.{Ok, Err, is_ok}
use mathlib.Core.Path.{◌≡◌, refl, sym, ap, ◌∙◌}
use mathlib.Core.Bool.{Bool, true, false, cond, ◌&&◌, and-true}
use mathlib.Core.List.{List, [], ◌∷◌, ◌++◌}
use Prim.Native.Nat.{ℕ, suc, ◌%◌, ◌≤◌}
use native.Mathlib.Nat.{zero-add}
use native.Mathlib.Omega.{arith}
use lib.Dec.{eqb, leb}
use lib.ListN.{length, take, drop}
use lib.Seq.{sets, sets-eq, take-append_seam, drop-append_seam}
use borrow.Author.Tests.{leb-true}
use Rattle.algebra.specs.Lists.{every}
use Rattle.algebra.proofs.Tests.{and_split}
use Rattle.verdict.specs.Questions.{Question, granted}
use Rattle.verdict.proofs.Questions.{yes, every_append, all_yes}
use Rattle.gate.specs.Gate.{Gate, gate_size, gates_of, formed}
use Rattle.qasm.specs.Reading.{read_of}
use Rattle.qasm.specs.Claims.{is_named}
use Rattle.qasm_writer.specs.Call.{along, formed_at, named_at, word_questions, text_of, write_questions}
use Rattle.qasm.specs.Claims.{writable}
use Rattle.qasm_writer.specs.Claims.{Takes, Delivers}
use Rattle.qasm.proofs.RoundTrip.{round_trip}

-- ---- what is taken
along-yes : (ask : ℕ → Gate → Question) (p : Gate → Bool) → ((i : ℕ) (g : Gate) → (ask i g).answer ≡ p g) → (i : ℕ) (gs : List Gate) → every yes (along ask i gs) ≡ every p gs
along-yes ask p e i [] = refl
along-yes ask p e i (g ∷ gs) = λ j. e i g j && along-yes ask p e (suc i) gs j

words-yes : (ws : List ℕ) → every yes (word_questions ws) ≡ writable ws
words-yes ws =
    let gs = gates_of ws in
    ap (λ (b : Bool). eqb (length ws % gate_size) 0 && b)
    (every_append (along formed_at 0 gs) (along named_at 0 gs) ∙ (λ j. along-yes formed_at formed (λ i g. refl) 0 gs j && along-yes named_at is_named (λ i g. refl) 0 gs j))

pub takes : Takes
takes n m ws room =
    let fits = leb (length (text_of n m ws)) (length room) in
    all_yes (length (text_of n m ws)) (write_questions n m ws room)
    ∙ every_append (word_questions ws) _
    ∙ (λ j. words-yes ws j && and-true fits j)

-- ---- what is delivered
module _ (bs room : List ℕ) (h : length bs ≤ length room) where
  whole : sets room 0 bs ≡ bs ++ drop (length bs) room
  whole = sets-eq bs room 0 (omega arith) ∙ ap (λ (k : ℕ). bs ++ drop k room) (zero-add (length bs))

  at-start : take (length bs) (sets room 0 bs) ≡ bs
  at-start = ap (take (length bs)) whole ∙ take-append_seam bs (drop (length bs) room)

  kept : drop (length bs) (sets room 0 bs) ≡ drop (length bs) room
  kept = ap (drop (length bs)) whole ∙ drop-append_seam bs (drop (length bs) room)

-- an answer is the length of the text
granted-is : (k : ℕ) (qs : List Question) {x : ℕ} → granted k qs ≡ Ok x → x ≡ k
granted-is k [] e = cc
granted-is k (q ∷ qs) {x} e = go q.answer e (granted-is k qs)
  where
    go : (b : Bool) → cond b (granted k qs) (Err q.refusal) ≡ Ok x → (granted k qs ≡ Ok x → x ≡ k) → x ≡ k
    go true e h = h e
    go false e h = absurd (cc)

pub delivers : Delivers
delivers n m ws room bytes s r =
    let a = ap is_ok r in
    let (w, f) = and_split (writable ws) (leb (length (text_of n m ws)) (length room)) (sym (takes n m ws room) ∙ a) in
    let text = text_of n m ws in
    let fits = leb-true (length text) (length room) f in
    let k = granted-is (length text) (write_questions n m ws room) r in
    let after = ap (λ (b : Bool). cond b (sets room 0 text) room) a in
    let t = (λ i. take (k i) (after i)) ∙ at-start text room fits in
    record {
      text = t;
      back = ap read_of t ∙ round_trip n m ws (record { words = w; numbers = s });
      behind = (λ i. drop (k i) (after i)) ∙ kept text room fits;
    }
