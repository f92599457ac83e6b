-- The words that an edit leaves, by its verdict, and what a gate that may be taken out is known for.
use Rattle.std.specs.Prelude.{is_ok, Ok, Err}
use mathlib.Core.Path.{◌≡◌, refl, sym, ap, ◌∙◌, subst}
use mathlib.Core.Bool.{Bool, true, false, cond, ◌&&◌, ◌||◌}
use mathlib.Core.List.{List, [], ◌∷◌}
use Prim.Native.Nat.{ℕ, ◌+◌, ◌≤◌, ◌<◌}
use native.Mathlib.Omega.{arith}
use lib.Dec.{leb, ltb}
use lib.ListN.{length}
use lib.IntN.{ℤ}
use borrow.Author.Tests.{ltb-true, lt-leb, lt-ltb}
use Rattle.algebra.proofs.Tests.{and_split}
use Rattle.verdict.specs.declared.Refusal.{Refusal}
use Rattle.verdict.specs.declared.Refusal.TheVariants.{NoPlace, BadCounts}
use Rattle.verdict.specs.Questions.{Verdict, Question, question, first_no}
use Rattle.verdict.proofs.Questions.{all_yes, decided, passed}
use Rattle.algebra.specs.Lists.{every}
use Rattle.gate.specs.Gate.{Gate, gate_size, bits}
use Rattle.kept_circuit.specs.Kept.{max_bits, gate_place, gates_of, room, sound}
use Rattle.kept_circuit.specs.Edits.{ask_gate, append_verdict, gate_in, takeable, take_questions, replace_verdict}
use Rattle.kept_circuit.specs.Inner.Taken.{Taken}
use Rattle.kept_circuit.proofs.Sound.{Sound, bits-counted, takes_is, place_in}

-- x where the verdict accepts, l where it refuses
module _ (x l : List ℤ) {v w : Verdict} (e : v ≡ w) where
  pub refused-words : is_ok v ≡ false → l ≡ cond (is_ok w) x l
  refused-words a = sym (ap (λ (b : Bool). cond b x l) (sym (ap is_ok e) ∙ a))

  pub done_words : {y : List ℤ} → is_ok v ≡ true → y ≡ x → y ≡ cond (is_ok w) x l
  done_words a f = f ∙ sym (ap (λ (b : Bool). cond b x l) (sym (ap is_ok e) ∙ a))

-- a gate that may be taken out is there, and the counts cover it
pub taken : (l : List ℤ) (i : ℕ) → Ok tt ≡ first_no (take_questions l i) → (i < gates_of l) × (takeable l i ≡ true)
taken l i e =
    let all = and_split (sound l && (leb (gates_of l) i || takeable l i)) _ (sym (all_yes tt (take_questions l i)) ∙ sym (ap is_ok e)) in
    let inside = ltb-true i (gates_of l) (and_split (ltb i (gates_of l)) true all.1).0 in
    (inside, ap (λ (b : Bool). b || takeable l i) (sym (lt-leb (gates_of l) i inside)) ∙ (and_split (sound l) _ all.0).1)

module _ {l : List ℤ} {i : ℕ} {g : Gate} where
  -- of words that are the same
  pub taken_by : {k : List ℤ} → k ≡ l → Taken k i g → Taken l i g
  taken_by e t = subst (λ (l : List ℤ). Taken l i g) e t

  module _ (s : Sound l) (t : Taken l i g) where
    pub taken_bits : every (λ (b : ℕ). ltb b max_bits) (bits g) ≡ true
    taken_bits = ap (λ (g : Gate). every (λ (b : ℕ). ltb b max_bits) (bits g)) t.is ∙ bits-counted s i (gate_in l i) (takes_is l i (taken l i t.asked).1).asked

    pub taken_place : gate_place i + gate_size ≤ length l
    taken_place = place_in s i (taken l i t.asked).0

-- ---- an appended gate is asked by sound counts with a place for it
pub append_asked : {k l : List ℤ} {i : ℕ} → k ≡ l → i ≡ gates_of k → (g : Gate) → sound l ≡ true → i < room (length l) → {v : Verdict} → v ≡ first_no (ask_gate k i g) → v ≡ append_verdict l g
append_asked {k} {l} {i} e f g s h a =
    let at : i ≡ gates_of l = f ∙ ap gates_of e in
    let free : ltb (gates_of l) (room (length l)) ≡ true = lt-ltb (gates_of l) (room (length l)) (omega (arith, h, at)) in
    a ∙ (λ j. first_no (ask_gate (e j) (at j) g)) ∙ (λ j. cond (sym s j) (cond (sym free j) (first_no (ask_gate l (gates_of l) g)) (Err NoPlace)) (Err BadCounts))

-- ---- counts that are not sound refuse whatever is asked behind them
pub unsound : {b : Bool} {r : Refusal} (qs : List Question) → r ≡ BadCounts → b ≡ false → Err r ≡ first_no (question 25 b BadCounts ∷ qs)
unsound {b} qs e s = ap Err e ∙ sym (decided [] qs (question 25 b BadCounts) refl s)

-- ---- a gate that replaces one which may be taken out is asked last
pub replace_asked : {k l : List ℤ} {i : ℕ} {old : Gate} → k ≡ l → Taken k i old → (g : Gate) {v : Verdict} → v ≡ first_no (ask_gate k i g) → v ≡ replace_verdict l i g
replace_asked {k} {l} {i} e t g a =
    a ∙ ap (λ (l : List ℤ). first_no (ask_gate l i g)) e ∙ passed tt tt (take_questions l i) (ask_gate l i g) (taken_by e t).asked
