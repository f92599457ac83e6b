-- The questions of the two lists and of the table: what the answers so far leave to those behind them.
use Rattle.std.specs.Prelude.{is_ok, Ok, Err}
use mathlib.Core.Path.{◌≡◌, refl, sym, ap, ◌∙◌}
use mathlib.Core.Bool.{Bool, true, false, cond, not, ◌&&◌, ◌||◌, true≢false}
use mathlib.Core.List.{List, ◌++◌}
use Prim.Native.Nat.{ℕ, ◌*◌, ◌/◌, ◌%◌, ◌≤◌, ◌<◌}
use native.Mathlib.Nat.{zero-add}
use native.Mathlib.Decide.{dec_lt}
use native.Mathlib.Omega.{arith}
use lib.Dec.{eqb, ltb}
use lib.ListN.{length, get_or}
use borrow.Author.Tests.{eq-eqb, ne_eqb, eqb-true, lt-ltb, le-ltb}
use Rattle.algebra.specs.Lists.{all_below}
use Rattle.algebra.proofs.Tests.{all-at}
use Rattle.verdict.specs.Questions.{Verdict}
use Rattle.verdict.specs.declared.Refusal.TheVariants.{MalformedAt, NotScheduleAt}
use Rattle.verdict.specs.Questions.{Question, first_no}
use Rattle.verdict.proofs.Questions.{after-yes, after_no}
use Rattle.gate.specs.declared.judge.Asking.TheVariants.{Placing}
use Rattle.gate.specs.Gate.{Gate, gate_size, gate_at, gates_of}
use Rattle.gate.proofs.Listed.{gates-length, gates-at}
use Rattle.circuit.specs.Questions.{gates_questions}
use Rattle.schedule.specs.Questions.{list_questions, idle, alike, bars, along, same_lengths, sound, table_questions, schedule_verdict}
use Rattle.schedule.proofs.Along.{along-yes, along-first}

-- ---- gates by their numbers
pub count-of : (ws : List ℕ) → length (gates_of ws) ≡ length ws / gate_size
count-of ws = gates-length ws 0 (length ws / gate_size)

pub gate_is : (ws : List ℕ) (i : ℕ) → i < length ws / gate_size → {g : Gate} → g ≡ gate_at ws (i * gate_size) → g ≡ get_or (gates_of ws) i idle
gate_is ws i l e = e ∙ sym (gates-at ws 0 (length ws / gate_size) i idle l ∙ ap (λ (k : ℕ). gate_at ws (k * gate_size)) (zero-add i))

-- ---- a gate in the way: by its entry e and the other's, k
module _ (e k : ℕ) (s : Bool) where
  pub entry_lower : e < k → false ≡ eqb e k || (ltb k e && s)
  entry_lower l = sym (λ i. ne_eqb e k (λ q. omega arith) i || (le-ltb k e (omega arith) i && s))

  pub entry-same : e ≡ k → true ≡ eqb e k || (ltb k e && s)
  entry-same q = sym (λ i. eq-eqb e k q i || (ltb k e && s))

  pub entry_higher : k ≤ e → (e ≡ k → ⊥) → s ≡ eqb e k || (ltb k e && s)
  entry_higher l n = sym (λ i. ne_eqb e k n i || (lt-ltb k e (above l n) i && s))
    where
      above : k ≤ e → (e ≡ k → ⊥) → k < e
      above l n = go (dec_lt k e)
        where
          go : Dec (k < e) → k < e
          go (yes p) = p
          go (no p) = absurd (n (omega arith))

-- ---- one position: its entry is past the end, or is held against the gate there
module _ (ws vs table : List ℕ) (i : ℕ) where
  abbrev entry : ℕ
  entry = get_or table i 0

  abbrev free : Gate → Bool
  free g = all_below i (λ (j : ℕ). not (bars (gates_of vs) table g entry j))

  pub past_end : length ws / gate_size ≤ get_or table i 0 → false ≡ sound (gates_of ws) (gates_of vs) table i
  past_end l = let e : ltb entry (length (gates_of ws)) ≡ false = ap (ltb entry) (count-of ws) ∙ le-ltb entry (length ws / gate_size) l in rw e

  pub in_place : get_or table i 0 < length ws / gate_size → {g h : Gate} → g ≡ get_or (gates_of vs) i idle → h ≡ get_or (gates_of ws) (get_or table i 0) idle
      → (b c : Bool) → b ≡ alike g h → c ≡ all_below i (λ (j : ℕ). not (bars (gates_of vs) table g (get_or table i 0) j)) → (b && c) ≡ sound (gates_of ws) (gates_of vs) table i
  in_place l {g} {h} p q b c e f =
      (λ x. e x && f x)
      ∙ (λ x. sym (ap (ltb entry) (count-of ws) ∙ lt-ltb entry (length ws / gate_size) l) x && (alike (p x) (q x) && free (p x)))

-- ---- one list
module _ (n m : ℕ) (ws : List ℕ) where
  by_length : {b : Bool} → eqb (length ws % gate_size) 0 ≡ b → first_no (list_questions n m ws) ≡ cond b (first_no (gates_questions (Placing m) n 0 (gates_of ws))) (Err (MalformedAt 0))
  by_length e = ap (λ (b : Bool). cond b (first_no (gates_questions (Placing m) n 0 (gates_of ws))) (Err (MalformedAt 0))) e

  pub list_whole : length ws % gate_size ≡ 0 → {v : Verdict} → v ≡ first_no (gates_questions (Placing m) n 0 (gates_of ws)) → v ≡ first_no (list_questions n m ws)
  list_whole e h = h ∙ sym (by_length (eq-eqb (length ws % gate_size) 0 e))

  -- a list that passes is a list of whole gates
  pub list_length : is_ok (first_no (list_questions n m ws)) ≡ true → length ws % gate_size ≡ 0
  list_length e = go (eqb (length ws % gate_size) 0) refl e
    where
      go : (b : Bool) → eqb (length ws % gate_size) 0 ≡ b → is_ok (cond b (first_no (gates_questions (Placing m) n 0 (gates_of ws))) (Err (MalformedAt 0))) ≡ true → length ws % gate_size ≡ 0
      go true h e = eqb-true (length ws % gate_size) 0 h
      go false h e = absurd (true≢false (sym e))

  pub list_broken : (length ws % gate_size ≡ 0 → ⊥) → Err (MalformedAt 0) ≡ first_no (list_questions n m ws)
  list_broken e = sym (by_length (ne_eqb (length ws % gate_size) 0 e))

-- ---- the table
module _ (old new : List Gate) (table : List ℕ) where
  by_lengths : {b : Bool} → same_lengths old new table ≡ b → first_no (table_questions old new table) ≡ cond b (first_no (along (sound old new table) 0 (length table))) (Err (NotScheduleAt 0))
  by_lengths e = ap (λ (b : Bool). cond b (first_no (along (sound old new table) 0 (length table))) (Err (NotScheduleAt 0))) e

  pub lengths_differ : same_lengths old new table ≡ false → first_no (table_questions old new table) ≡ Err (NotScheduleAt 0)
  lengths_differ = by_lengths

  pub lengths_same : same_lengths old new table ≡ true → first_no (table_questions old new table) ≡ first_no (along (sound old new table) 0 (length table))
  lengths_same = by_lengths

  -- position by position, those below i being sound
  module _ (e : same_lengths old new table ≡ true) (i : ℕ) (h : all_below i (sound old new table) ≡ true) where
    pub position_no : i < length table → sound old new table i ≡ false → Err (NotScheduleAt i) ≡ first_no (table_questions old new table)
    position_no l f =
        sym (lengths_same e ∙ along-first (sound old new table) 0 (length table) i (record { above = omega arith; inside = omega arith; fails = f; before = λ j k m. all-at i (sound old new table) h j m }))

    pub positions_yes : length table ≤ i → Ok tt ≡ first_no (table_questions old new table)
    positions_yes l = sym (lengths_same e ∙ along-yes (sound old new table) 0 (length table) (λ k j m. all-at i (sound old new table) h k (omega arith)))

-- the lengths in words
pub lengths_are : (ws vs table : List ℕ) {b : Bool} → (eqb (length vs / gate_size) (length ws / gate_size) && eqb (length table) (length ws / gate_size)) ≡ b → same_lengths (gates_of ws) (gates_of vs) table ≡ b
lengths_are ws vs table e = (λ i. eqb (count-of vs i) (count-of ws i) && eqb (length table) (count-of ws i)) ∙ e

-- ---- the call
module _ (n m : ℕ) (old new table : List ℕ) where
  abbrev first : List Question
  first = list_questions n m old

  abbrev second : List Question
  second = list_questions n m new

  abbrev last : List Question
  last = table_questions (gates_of old) (gates_of new) table

  module _ {v : Verdict} (e : v ≡ first_no (list_questions n m old)) where
    pub first_decides : is_ok v ≡ false → v ≡ schedule_verdict n m old new table
    first_decides a = after_no first (second ++ last) e a

    module _ (a : is_ok v ≡ true) {w : Verdict} (f : w ≡ first_no (list_questions n m new)) where
      pub second_decides : is_ok w ≡ false → w ≡ schedule_verdict n m old new table
      second_decides b = after-yes first (second ++ last) e a (after_no second last f b)

      pub table_decides : is_ok w ≡ true → {u : Verdict} → u ≡ first_no (table_questions (gates_of old) (gates_of new) table) → u ≡ schedule_verdict n m old new table
      table_decides b g = after-yes first (second ++ last) e a (after-yes second last f b g)
