-- What is answered by the tests, and what an accepted call may do.
use Rattle.std.specs.Prelude.{Option, Some, None, is_none, unwrap_or, Result, Ok, Err, is_ok, ⊤}
use Rattle.std.specs.Result.{result_and}
use mathlib.Core.Path.{◌≡◌, refl, sym, ap, ◌∙◌, subst}
use mathlib.Core.Bool.{Bool, true, false, cond, not, true≢false}
use mathlib.Core.List.{List}
use Prim.Native.Nat.{ℕ, ◌≤◌}
use lib.Dec.{leb}
use lib.ListN.{length}
use lib.IntN.{ℤ}
use borrow.Author.Tests.{leb-true}
use Rattle.verdict.specs.declared.Refusal.{Refusal}
use Rattle.verdict.specs.declared.Refusal.TheVariants.{ShortBuffer, Malformed, ZeroBlock}
use Rattle.verdict.specs.Questions.{Verdict, Question, granted}
use Rattle.verdict.proofs.Questions.{handed}
use Rattle.channel.specs.declared.Shape.{Shape}
use Rattle.channel.specs.declared.forms.Parts.{Parts}
use Rattle.channel.specs.Layout.{count_at, form_in}
use Rattle.channel.specs.WellFormed.{well_formed_in, well_formed, has_zero_block, verdict_by, form_verdict}
use Rattle.channel.specs.Inner.Shapes.{shape_at, shape_by}
use Rattle.channel.proofs.Judging.{formed_in, in_channel, verdict_test, shape-yes, Passed, passed_is}
use Rattle.recast.specs.Words.{size_in}
use Rattle.recast.specs.Inner.Records.{Ready}
use Rattle.form_judge.specs.declared.Judged.{Judged}
use Rattle.form_judge.specs.Inner.Judging.{shape_in, judged_of}
use Rattle.form_calls.specs.Calls.{own, refusal, fault, write_verdict, read_verdict}

abbrev pub full : Parts
full = record { half = false; plain = false }

-- well formed, no zero block, no fault, room; and the refusal of a fault
abbrev pub write_by : {A : Type 0} → A → Bool → Bool → Bool → Bool → Refusal → Result A Refusal
write_by x p z t b r = cond p (cond z (cond t (cond b (Ok x) (Err ShortBuffer)) (Err r)) (Err ZeroBlock)) (Err Malformed)

abbrev pub read_by : {A : Type 0} → A → Bool → Bool → Result A Refusal
read_by x p b = cond p (cond b (Ok x) (Err ShortBuffer)) (Err Malformed)

pub write_tests : (p z t b : Bool) (r : Refusal) → is_ok (write_by {A = ⊤} tt p z t b r) ≡ true → (p ≡ true) × ((z ≡ true) × ((t ≡ true) × (b ≡ true)))
write_tests true true true true r e = (refl, (refl, (refl, refl)))
write_tests true true true false r e = absurd (true≢false (sym e))
write_tests true true false b r e = absurd (true≢false (sym e))
write_tests true false t b r e = absurd (true≢false (sym e))
write_tests false z t b r e = absurd (true≢false (sym e))

pub read_tests : (p b : Bool) → is_ok (read_by {A = ⊤} tt p b) ≡ true → (p ≡ true) × (b ≡ true)
read_tests true true e = (refl, refl)
read_tests true false e = absurd (true≢false (sym e))
read_tests false b e = absurd (true≢false (sym e))

pub none_is : (o : Option ℕ) → is_none o ≡ true → o ≡ None
none_is None e = refl
none_is (Some i) e = absurd (true≢false (sym e))

-- what is handed back where every answer is yes
pub given : {A : Type 0} (x : A) (qs : List Question) {z : A} → Ok z ≡ granted x qs → z ≡ x
given {A = A} x qs {z} e = inside (e ∙ sym (handed x x qs e))
  where
    inside : ◌≡◌ {A = Result A Refusal} (Ok z) (Ok x) → z ≡ x
    inside e = cc

-- ---- channels that a writer does not refuse
module _ (f : Parts) (l : List ℤ) {j : Judged} (e : Ok j ≡ judged_of f l) where
  passed : (form_verdict l ≡ Ok tt) × ((j.shape ≡ shape_at l) × (j.fault ≡ fault f l))
  passed = by (form_verdict l) refl e
    where
      by : (v : Verdict) → form_verdict l ≡ v → ◌≡◌ {A = Result Judged Refusal} (Ok j) (result_and v (Ok (record { shape = shape_at l; fault = fault f l }))) → (v ≡ Ok tt) × ((j.shape ≡ shape_at l) × (j.fault ≡ fault f l))
      by (Ok x) p e = (refl, (cc, cc))
      by (Err s) p e = absurd (cc)

  shape_is : Passed l j.shape
  shape_is = passed_is l (ap Ok passed.1.0 ∙ sym (ap (λ (v : Verdict). shape_by v l) passed.0))

  pub write_narrow : j.shape.dim ≤ 16
  write_narrow = shape_is.narrow

-- ---- channels that a reader does not refuse
module _ (f : Parts) (l : List ℤ) {h : Shape} (e : Ok h ≡ shape_in f l) where
  is : (well_formed_in (form_in f l) l ≡ true) × (h ≡ shape_at l)
  is = let q = shape-yes (verdict_by (well_formed_in (form_in f l) l) false) l e in (sym (verdict_test (well_formed_in (form_in f l) l)) ∙ ap is_ok q.0, q.1)

  pub read_narrow : h.dim ≤ 16
  read_narrow = subst (λ (s : Shape). s.dim ≤ 16) (sym is.1) (formed_in (form_in f l) l is.0).0.small

-- ---- what an accepted call may do
module _ (f : Parts) (l res : List ℤ) where
  -- the answers of an accepted writer
  pub asked : is_ok (write_verdict f l res) ≡ true → (well_formed l ≡ true) × ((not (has_zero_block l) ≡ true) × ((is_none (fault f l) ≡ true) × (leb (size_in (form_in f l) l) (length res) ≡ true)))
  asked = write_tests (well_formed l) (not (has_zero_block l)) (is_none (fault f l)) (leb (size_in (form_in f l) l) (length res)) (refusal f (unwrap_or (fault f l) 0))

  pub asked-read : is_ok (read_verdict f l res) ≡ true → (well_formed_in (form_in f l) l ≡ true) × (leb (size_in (own l) l) (length res) ≡ true)
  asked-read = read_tests (well_formed_in (form_in f l) l) (leb (size_in (own l) l) (length res))

  pub write_ready : is_ok (write_verdict f l res) ≡ true → Ready (own l) (form_in f l) l (count_at l) res
  write_ready e =
      let q = asked e in
      record { right = sym (in_channel l) ∙ q.0; count = refl; room = leb-true _ _ q.1.1.1 }

  pub read_ready : is_ok (read_verdict f l res) ≡ true → Ready (form_in f l) (own l) l (count_at l) res
  read_ready e =
      let q = asked-read e in
      record { right = q.0; count = refl; room = leb-true _ _ q.1 }
