-- The claims on a list that is served.
use Rattle.std.specs.Prelude.{Ok, Err}
use mathlib.Core.Path.{◌≡◌, refl, sym, ap, ◌∙◌}
use mathlib.Core.Bool.{Bool, true, false, cond, true≢false}
use mathlib.Core.List.{List, [], ◌∷◌}
use Prim.Native.Nat.{ℕ, zero, suc, ◌+◌, ◌≤◌, ◌<◌}
use native.Mathlib.Nat.{le_of_suc-le-suc, not-suc-le-zero, add_assoc, zero-add, add-zero}
use native.Mathlib.Omega.{arith}
use lib.Dec.{leb}
use lib.ListN.{length, get_or, take}
use borrow.Author.Tests.{leb-true, le-leb}
use Rattle.algebra.specs.Lists.{total, every}
use Rattle.algebra.proofs.Tests.{and_split}
use Rattle.verdict.specs.Questions.{Verdict}
use Rattle.pair_list.specs.Pairs.{Pair}
use Rattle.work_list.specs.declared.Answer.{Answer}
use Rattle.work_list.specs.declared.Answer.TheVariants.{LeftRefused, RightRefused, PassedOver, Compared}
use Rattle.work_list.specs.Serving.{cost, charge, unless_refused, Lent, left_verdict, right_verdict, comparison, answer_to, answers_from}
use Rattle.work_list.specs.Claims.{spent_before, InOrder, WithinAllowance, stays, more, LongerServes}

-- ---- one answer
module _ (t : Lent) where
  -- with the verdicts and the test as they may be
  by : Verdict → Verdict → Bool → Pair → Answer
  by a b c p = unless_refused LeftRefused a (unless_refused RightRefused b (cond c (Compared (cost p) (comparison t p)) (PassedOver (cost p))))

  charge-by : (spent : ℕ) (p : Pair) (a b : Verdict) (c : Bool) → leb (spent + cost p) t.allowance ≡ c → spent ≤ t.allowance → spent + charge (by a b c p) ≤ t.allowance
  unfolding by
  charge-by spent p (Ok x) (Ok y) true e h = leb-true (spent + cost p) t.allowance e
  charge-by spent p (Ok x) (Ok y) false e h = omega arith
  charge-by spent p (Ok x) (Err r) c e h = omega arith
  charge-by spent p (Err r) b c e h = omega arith

  pub charge-within : (spent : ℕ) (p : Pair) → spent ≤ t.allowance → spent + charge (answer_to t spent p) ≤ t.allowance
  unfolding answer_to by
  charge-within spent p h = charge-by spent p (left_verdict t p) (right_verdict t p) (leb (spent + cost p) t.allowance) refl h

  -- ---- all of them
  total-within : (spent : ℕ) (ps : List Pair) → spent ≤ t.allowance → spent + total charge (answers_from t spent ps) ≤ t.allowance
  unfolding answers_from
  total-within spent [] h = omega arith
  total-within spent (p ∷ ps) h = let r = total-within (spent + charge (answer_to t spent p)) ps (charge-within spent p h) in omega arith

  answers_long : (spent : ℕ) (ps : List Pair) → length (answers_from t spent ps) ≡ length ps
  unfolding answers_from
  answers_long spent [] = refl
  answers_long spent (p ∷ ps) = ap suc (answers_long (spent + charge (answer_to t spent p)) ps)

  answers_at : (spent : ℕ) (ps : List Pair) (i : ℕ) (a : Answer) (p : Pair) → i < length ps
      → get_or (answers_from t spent ps) i a ≡ answer_to t (spent + total charge (answers_from t spent (take i ps))) (get_or ps i p)
  unfolding answers_from
  answers_at spent [] i a p h = absurd (not-suc-le-zero h)
  answers_at spent (q ∷ ps) zero a p h = ap (λ (k : ℕ). answer_to t k q) (sym (add-zero spent))
  answers_at spent (q ∷ ps) (suc i) a p h =
      let x = charge (answer_to t spent q) in
      answers_at (spent + x) ps i a p (le_of_suc-le-suc h) ∙ ap (λ (k : ℕ). answer_to t k (get_or ps i p)) (add_assoc spent x (total charge (answers_from t (spent + x) (take i ps))))

pub within-allowance : WithinAllowance
within-allowance t ps = let h = total-within t 0 ps (omega arith) in omega arith

pub in_order_lem : InOrder
in_order_lem t ps = (answers_long t 0 ps, λ i a p h. answers_at t 0 ps i a p h ∙ ap (λ (k : ℕ). answer_to t k (get_or ps i p)) (zero-add (spent_before t ps i)))

-- ---- a longer allowance
module _ (t : Lent) (n : ℕ) (h : t.allowance ≤ n) where
  same_by : (spent : ℕ) (p : Pair) (a b : Verdict) (c d : Bool) → leb (spent + cost p) t.allowance ≡ c → leb (spent + cost p) n ≡ d → stays (by t a b c p) ≡ true → by (more t n) a b d p ≡ by t a b c p
  unfolding by
  same_by spent p (Ok x) (Ok y) true true e f g = refl
  same_by spent p (Ok x) (Ok y) true false e f g = absurd (true≢false (sym (le-leb (spent + cost p) n (omega (arith, leb-true (spent + cost p) t.allowance e))) ∙ f))
  same_by spent p (Ok x) (Ok y) false d e f g = absurd (true≢false (sym g))
  same_by spent p (Ok x) (Err r) c d e f g = refl
  same_by spent p (Err r) b c d e f g = refl

  same_answer : (spent : ℕ) (p : Pair) → stays (answer_to t spent p) ≡ true → answer_to (more t n) spent p ≡ answer_to t spent p
  unfolding answer_to by
  same_answer spent p g = same_by spent p (left_verdict t p) (right_verdict t p) (leb (spent + cost p) t.allowance) (leb (spent + cost p) n) refl refl g

  same-answers : (spent : ℕ) (ps : List Pair) (k : ℕ) → every stays (take k (answers_from t spent ps)) ≡ true
      → take k (answers_from (more t n) spent ps) ≡ take k (answers_from t spent ps)
  unfolding answers_from
  same-answers spent [] k g = refl
  same-answers spent (p ∷ ps) zero g = refl
  same-answers spent (p ∷ ps) (suc k) g =
      let (x, y) = and_split (stays (answer_to t spent p)) _ g in
      let e = same_answer spent p x in
      (λ i. e i ∷ take k (answers_from (more t n) (spent + charge (e i)) ps)) ∙ ap (λ (r : List Answer). answer_to t spent p ∷ r) (same-answers (spent + charge (answer_to t spent p)) ps k y)

pub longer_serves : LongerServes
longer_serves t n ps k h g = same-answers t n h 0 ps k g
