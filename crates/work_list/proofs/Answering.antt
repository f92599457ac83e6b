-- Which answer is given to a pair, by what its circuits weigh and by the test of the code.
use Rattle.std.specs.Prelude.{Result, Ok, Err}
use mathlib.Core.Path.{◌≡◌, refl, sym, ap, ◌∙◌}
use mathlib.Core.Bool.{Bool, true, false, cond}
use mathlib.Core.List.{List}
use Prim.Native.Nat.{ℕ, ◌+◌, ◌-◌, ◌<◌, ◌≤◌}
use native.Mathlib.Omega.{arith}
use lib.Dec.{leb}
use lib.IntN.{ℤ}
use borrow.Author.Tests.{le-leb, lt-leb}
use Rattle.verdict.specs.declared.Refusal.{Refusal}
use Rattle.verdict.specs.Questions.{Verdict, Question}
use Rattle.verdict.proofs.Questions.{refused_alike, handed}
use Rattle.circuit.specs.declared.limits.Limits.{Limits}
use Rattle.circuit.specs.Questions.{channel_questions}
use Rattle.compare.specs.declared.Comparison.{Comparison}
use Rattle.compare.specs.Compare.{compare_of}
use Rattle.pair_list.specs.Pairs.{Pair}
use Rattle.work_list.specs.declared.Answer.{Answer}
use Rattle.work_list.specs.declared.Answer.TheVariants.{LeftRefused, RightRefused, PassedOver, Compared}
use Rattle.work_list.specs.Serving.{terms, cost, unless_refused, Lent, lent, left_verdict, right_verdict, comparison, answer_to}
use Rattle.work_list.specs.Inner.Weighing.{Blank, delivers, weighed}

module _ (t : Lent) (spent : ℕ) (p : Pair) where
  -- with the verdicts and the test as they may be
  abbrev by : Verdict → Verdict → Bool → Answer
  by a b c = unless_refused LeftRefused a (unless_refused RightRefused b (cond c (Compared (cost p) (comparison t p)) (PassedOver (cost p))))

  is-by : by (left_verdict t p) (right_verdict t p) (leb (spent + cost p) t.allowance) ≡ answer_to t spent p
  unfolding answer_to
  is-by = refl

  abbrev left_asked : List Question
  left_asked = channel_questions p.left.qubits p.left.bits p.left.store t.limits p.left.gates t.left t.work

  abbrev right_asked : List Question
  right_asked = channel_questions p.right.qubits p.right.bits p.right.store t.limits p.right.gates t.right t.work

  pub by_left : {r : Refusal} → Err r ≡ weighed p.left t.limits t.left t.work → LeftRefused r ≡ answer_to t spent p
  by_left e = ap (λ (v : Verdict). by v (right_verdict t p) (leb (spent + cost p) t.allowance)) (refused_alike (terms p.left) tt left_asked e) ∙ is-by

  module _ {x : ℕ} (e : Ok x ≡ weighed p.left t.limits t.left t.work) where
    left_terms : x ≡ terms p.left
    left_terms = let h = handed (terms p.left) (terms p.left) left_asked e in cc

    abbrev after : Verdict → Bool → Answer
    after b c = by (Ok tt) b c

    is_after : after (right_verdict t p) (leb (spent + cost p) t.allowance) ≡ answer_to t spent p
    is_after = ap (λ (v : Verdict). by v (right_verdict t p) (leb (spent + cost p) t.allowance)) (handed (terms p.left) tt left_asked e) ∙ is-by

    pub by_right : {r : Refusal} → Err r ≡ weighed p.right t.limits t.right t.work → RightRefused r ≡ answer_to t spent p
    by_right f = ap (λ (v : Verdict). after v (leb (spent + cost p) t.allowance)) (refused_alike (terms p.right) tt right_asked f) ∙ is_after

    module _ {y : ℕ} (f : Ok y ≡ weighed p.right t.limits t.right t.work) (within : spent ≤ t.allowance) where
      right_terms : y ≡ terms p.right
      right_terms = let h = handed (terms p.right) (terms p.right) right_asked f in cc

      cost_is : x + y ≡ cost p
      cost_is = λ i. left_terms i + right_terms i

      is-both : cond (leb (spent + cost p) t.allowance) (Compared (cost p) (comparison t p)) (PassedOver (cost p)) ≡ answer_to t spent p
      is-both = ap (λ (v : Verdict). after v (leb (spent + cost p) t.allowance)) (handed (terms p.right) tt right_asked f) ∙ is_after

      pub by-cost : t.allowance - spent < x + y → PassedOver (x + y) ≡ answer_to t spent p
      by-cost h =
          let over : leb (spent + cost p) t.allowance ≡ false = lt-leb (spent + cost p) t.allowance (omega (arith, cost_is, within)) in
          ap PassedOver cost_is ∙ ap (λ (c : Bool). cond c (Compared (cost p) (comparison t p)) (PassedOver (cost p))) (sym over) ∙ is-both

      pub by_serving : x + y ≤ t.allowance - spent → {d : Result Comparison Refusal} → d ≡ comparison t p → Compared (x + y) d ≡ answer_to t spent p
      by_serving h k =
          let under : leb (spent + cost p) t.allowance ≡ true = le-leb (spent + cost p) t.allowance (omega (arith, cost_is, within)) in
          (λ i. Compared (cost_is i) (k i)) ∙ ap (λ (c : Bool). cond c (Compared (cost p) (comparison t p)) (PassedOver (cost p))) (sym under) ∙ is-both

-- what was run in buffers that are zero
pub in_blanks : (l : Limits) (n : ℕ) (p : Pair) {r s w : List ℤ} → Blank r → Blank s → Blank w
    → compare_of (delivers l p.left r w) (delivers l p.right s w) ≡ comparison (lent l r s w n) p
in_blanks l n p a b c = λ i. compare_of (delivers l p.left (a i) (c i)) (delivers l p.right (b i) (c i))
