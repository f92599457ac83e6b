-- Which answer is given: the first that holds of no room, a refusal on the left, one on the right, and a comparison.
use Rattle.std.specs.Prelude.{Result, Ok, Err}
use mathlib.Core.Path.{◌≡◌, refl, sym, ap, ◌∙◌}
use mathlib.Core.Bool.{Bool, cond}
use mathlib.Core.List.{List, []}
use Prim.Native.Nat.{ℕ, ◌≤◌, ◌<◌}
use lib.ListN.{length}
use lib.IntN.{ℤ}
use borrow.Author.Tests.{le-leb, lt-leb}
use Rattle.circuit.specs.declared.limits.Limits.{Limits}
use Rattle.text.specs.Page.{page, write}
use Rattle.text.proofs.Put.{nothing}
use Rattle.qasm.specs.declared.reader.Reading.{Reading}
use Rattle.qasm.specs.Reading.{read_of, filled}
use Rattle.answer_lines.specs.declared.Which as which
use Rattle.answer_lines.specs.Lines.{max_answer}
use Rattle.text_sides.specs.declared.NoChannel.{NoChannel}
use Rattle.text_sides.specs.Sides.{side_by, result_by, work_by}
use Rattle.text_channel.specs.Refusals.{refusal_text}
use Rattle.judge_texts.specs.declared.Answer.{Answer}
use Rattle.judge_texts.specs.Call.{compared_text, either, left, left_gates, left_channel, right, right_gates, right_channel, right_work, first, comparison, answer_of, text_of, gates_after, first_after, second_after, work_after_both}
use Rattle.judge_texts.specs.Inner.Behind as behind
use Rattle.judge_texts.specs.Inner.Behind.{judged_behind, text_behind}

either_same : {A B : Type 0} (z : B) (r : Result A NoChannel) → z ≡ either (λ _. z) (λ _. z) r
either_same z (Ok x) = refl
either_same z (Err why) = refl

-- a right text that is refused
module _ (a : Reading) (x : List ℤ) (u σ : List ℕ) (l : Limits) (g : List ℕ) (s w : List ℤ) (o : List ℕ) where
  pub right_told : {why : NoChannel} → Err why ≡ side_by σ l g s w (read_of u) → {g' : List ℕ} → g' ≡ filled g (read_of u)
      → {n : ℕ} {o' : List ℕ} → page o' n ≡ write (page o 0) (refusal_text which.TheVariants.Right u g' why) → page o' n ≡ write (page o 0) (text_behind a x u σ l g s w)
  right_told {why} e f p =
      p ∙ ap (write (page o 0)) (ap (λ (gs : List ℕ). refusal_text which.TheVariants.Right u gs why) f
      ∙ ap (either (refusal_text which.TheVariants.Right u (filled g (read_of u))) (λ (b : Reading). compared_text a b (behind.comparison a x u σ l g s w))) e)

module _ (t u σ : List ℕ) (l : Limits) (g : List ℕ) (r s w : List ℤ) (o : List ℕ) where
  -- the answer z, which n bytes of o' say, and the lent buffers afterwards
  pub record Judged (z : Answer) (n : ℕ) (o' g' : List ℕ) (r' s' w' : List ℤ) : Type 0 where
    pub answer : z ≡ answer_of t u σ l g r s w o
    pub text : page o' n ≡ write (page o 0) (text_of t u σ l g r s w o)
    pub gates : g' ≡ gates_after t u σ l g r s w o
    pub first : r' ≡ first_after t u σ l g r s w o
    pub second : s' ≡ second_after t u σ l g r s w o
    pub work : w' ≡ work_after_both t u σ l g r s w o

  abbrev chosen : {A : Type 0} → (NoChannel → A) → (NoChannel → A) → (Reading → Reading → A) → Result Reading NoChannel → A
  chosen on_left on_right both = either on_left (λ (a : Reading). either on_right (both a) (right t u σ l g r s w o))

  pub short : length o < max_answer → page o 0 ≡ write (page o 0) (text_of t u σ l g r s w o)
  short h =
      let told_left = refusal_text which.TheVariants.Left t (left_gates t u σ l g r s w o) in
      let told_right = refusal_text which.TheVariants.Right u (right_gates t u σ l g r s w o) in
      let told = chosen told_left told_right (λ (a b : Reading). compared_text a b (comparison t u σ l g r s w o)) (left t u σ l g r s w o) in
      nothing (page o 0) (ap (λ (b : Bool). cond b told []) (sym (lt-leb max_answer (length o) h)))

  module _ (h : max_answer ≤ length o) where
    opened : {A : Type 0} (no_room : A) (on_left on_right : NoChannel → A) (both : Reading → Reading → A) {x : Result Reading NoChannel} → x ≡ left t u σ l g r s w o
        → chosen on_left on_right both x ≡ first t u σ l g r s w o no_room on_left on_right both
    opened no_room on_left on_right both e =
        ap (chosen on_left on_right both) e
        ∙ ap (λ (b : Bool). cond b (chosen on_left on_right both (left t u σ l g r s w o)) no_room) (sym (le-leb max_answer (length o) h))

    pub left_told : {why : NoChannel} → Err why ≡ side_by σ l g r w (read_of t) → {g' : List ℕ} → g' ≡ filled g (read_of t)
        → {n : ℕ} {o' : List ℕ} → page o' n ≡ write (page o 0) (refusal_text which.TheVariants.Left t g' why) → page o' n ≡ write (page o 0) (text_of t u σ l g r s w o)
    left_told {why} e f p =
        p ∙ ap (write (page o 0)) (ap (λ (gs : List ℕ). refusal_text which.TheVariants.Left t gs why) f ∙ opened _ _ _ _ e)

    -- the left circuit is accepted: its channel x, and what it leaves of the gates' words and of the work
    module _ {a : Reading} (e : Ok a ≡ side_by σ l g r w (read_of t)) {g' : List ℕ} {x w' : List ℤ} (gs : g' ≡ filled g (read_of t))
        (xs : x ≡ result_by σ l g r w (read_of t)) (ws : w' ≡ work_by σ l g r w (read_of t)) where
      -- then all is as the right text says
      pub judged : {z : Answer} {n : ℕ} {o' g'' : List ℕ} {s' w'' : List ℤ} → z ≡ judged_behind a x u σ l g' s w' → page o' n ≡ write (page o 0) (text_behind a x u σ l g' s w')
          → g'' ≡ filled g' (read_of u) → s' ≡ result_by σ l g' s w' (read_of u) → w'' ≡ work_by σ l g' s w' (read_of u) → Judged z n o' g'' x s' w''
      judged p q f y v = record {
        answer = p ∙ (λ i. judged_behind a (xs i) u σ l (gs i) s (ws i)) ∙ opened _ _ _ _ e;
        text = q ∙ ap (write (page o 0)) ((λ i. text_behind a (xs i) u σ l (gs i) s (ws i)) ∙ opened _ _ _ _ e);
        gates = f ∙ (λ i. filled (gs i) (read_of u)) ∙ either_same (right_gates t u σ l g r s w o) (right t u σ l g r s w o) ∙ opened _ _ _ _ e;
        first = xs ∙ either_same (left_channel t u σ l g r s w o) (right t u σ l g r s w o) ∙ opened _ _ _ _ e;
        second = y ∙ (λ i. result_by σ l (gs i) s (ws i) (read_of u)) ∙ either_same (right_channel t u σ l g r s w o) (right t u σ l g r s w o) ∙ opened _ _ _ _ e;
        work = v ∙ (λ i. work_by σ l (gs i) s (ws i) (read_of u)) ∙ either_same (right_work t u σ l g r s w o) (right t u σ l g r s w o) ∙ opened _ _ _ _ e;
      }
