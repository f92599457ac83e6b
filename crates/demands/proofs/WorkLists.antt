-- What is answered of a pair that is served holds of the channels of the definitions.
use Rattle.std.specs.Prelude.{Result, Ok, Err, is_ok}
use mathlib.Core.Path.{◌≡◌, refl, sym, ap, ◌∙◌, subst}
use mathlib.Core.Bool.{Bool, true, false, cond, true≢false}
use mathlib.Core.List.{List}
use Prim.Native.Nat.{ℕ, ◌+◌, ◌<◌}
use lib.Dec.{leb}
use lib.ListN.{length, get_or}
use Rattle.verdict.specs.Questions.{Verdict}
use Rattle.verdict.specs.declared.Refusal.{Refusal}
use Rattle.compare.specs.declared.Comparison.{Comparison}
use Rattle.compare.specs.declared.Difference.{Difference}
use Rattle.judge.proofs.Accepted.{sound, store_words}
use Rattle.pair_list.specs.Pairs.{Circuit, Pair}
use Rattle.work_list.specs.declared.Answer.{Answer}
use Rattle.work_list.specs.declared.Answer.TheVariants.{LeftRefused, RightRefused, PassedOver, Compared}
use Rattle.work_list.specs.Serving.{cost, unless_refused, zeros, Lent, verdict_on, channel_on, left_verdict, right_verdict, comparison, answer_to, answers_to}
use Rattle.work_list.specs.Claims.{spent_before}
use Rattle.work_list.proofs.Weighing.{in_zeros}
use Rattle.work_list.proofs.Claims.{in_order_lem}
use Rattle.demands.specs.WorkLists.{entry_of, Means, WorkLists}
use Rattle.demands.proofs.Entries.{Reads, reads, Finds, same, sizes, entry, finds}
use Rattle.demands.proofs.Demands.{demand2}

-- ---- one circuit that is accepted
module _ (t : Lent) (n : ℕ) (c : Circuit) (e : is_ok (verdict_on t n c) ≡ true) where
  side_reads : Reads c.qubits c.bits (entry_of c) (channel_on t n c)
  side_reads =
      let yes = in_zeros c.qubits c.bits c.store t.limits c.gates n t.work ∙ e in
      reads (demand2 c.qubits c.bits c.store t.limits c.gates (zeros n) (zeros t.work) yes)
      (store_words (sound c.qubits c.bits c.store t.limits c.gates (zeros n) (zeros t.work) yes))

-- ---- a pair: what was found of it
module _ (p : Pair) where
  abbrev a : Circuit
  a = p.left

  abbrev b : Circuit
  b = p.right

  meaning : (c : Result Comparison Refusal) → Finds a.qubits a.bits b.qubits b.bits (entry_of a) (entry_of b) c → Means p c
  meaning c (same x y k h) = subst (Means p) (sym k) (record { counts = (x, y); channels = λ s i j v. h s i j v.0 v.1.0 v.1.1 })
  meaning c (sizes apart k) = subst (Means p) (sym k) (λ q. apart q.0 q.1)
  meaning c (entry x y d k h) = subst (Means p) (sym k) (record {
    counts = (x, y);
    within = (h.store, (h.row, h.col));
    left_is = h.left;
    right_is = h.right;
    unequal = h.unequal;
    before = λ s i j v z. h.agree s i j v.0 v.1.0 v.1.1 z;
  })

-- ---- which answer it was
module _ (t : Lent) (spent : ℕ) (p : Pair) where
  abbrev by : Verdict → Verdict → Bool → Answer
  by x y z = unless_refused LeftRefused x (unless_refused RightRefused y (cond z (Compared (cost p) (comparison t p)) (PassedOver (cost p))))

  found_means : (x y : Verdict) (z : Bool) → left_verdict t p ≡ x → right_verdict t p ≡ y → (n : ℕ) (f : Result Comparison Refusal) → by x y z ≡ Compared n f → Means p f
  found_means (Ok x) (Ok y) true g h n f e =
      let is : comparison t p ≡ f = cc in
      subst (Means p) is (meaning p (comparison t p) (finds (side_reads t t.left p.left (ap is_ok g)) (side_reads t t.right p.right (ap is_ok h))))
  found_means (Ok x) (Ok y) false g h n f e = absurd (cc)
  found_means (Ok x) (Err r) z g h n f e = absurd (cc)
  found_means (Err r) y z g h n f e = absurd (cc)

  answer_means : (n : ℕ) (f : Result Comparison Refusal) → answer_to t spent p ≡ Compared n f → Means p f
  unfolding answer_to
  answer_means n f e = found_means (left_verdict t p) (right_verdict t p) (leb (spent + cost p) t.allowance) refl refl n f e

pub work_lists : WorkLists
work_lists t ps i a p h n f =
    subst (λ (b : Answer). b ≡ Compared n f → Means (get_or ps i p) f) (sym ((in_order_lem t ps).1 i a p h)) (answer_means t (spent_before t ps i) (get_or ps i p) n f)
