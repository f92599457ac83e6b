-- The verdict on a channel and the result that its effects go to, by its three tests.
use Rattle.std.specs.Prelude.{Result, Ok, Err, is_ok}
use Rattle.std.specs.Result.{result_unwrap_or}
use mathlib.Core.Path.{◌≡◌, refl, sym, ap, ◌∙◌, subst}
use mathlib.Core.Bool.{Bool, true, false, cond, true≢false}
use mathlib.Core.List.{List}
use Prim.Native.Nat.{ℕ, ◌+◌, ◌*◌, ◌≤◌}
use lib.Dec.{leb}
use lib.ListN.{length}
use lib.IntN.{ℤ}
use borrow.Author.Tests.{leb-true, le-leb}
use Rattle.verdict.specs.Questions.{Verdict}
use Rattle.verdict.specs.declared.Refusal.{Refusal}
use Rattle.verdict.specs.declared.Refusal.TheVariants.{ShortBuffer, TooLarge}
use Rattle.channel.specs.declared.Shape.{Shape}
use Rattle.channel.specs.Layout.{effects, header_size, record_size, word, dim_at, count_at}
use Rattle.channel.specs.WellFormed.{form_verdict}
use Rattle.channel.specs.Inner.Shapes.{shape_at, shape_of, shape_by}
use Rattle.channel.proofs.Judging.{form-right}
use Rattle.effects.specs.Effects.{effects_size, sums_fit, effects_verdict}
use Rattle.effects.specs.Inner.Readable.{Linked, Records, Ready}
use Rattle.effects.proofs.Records.{first-linked, records-of}

module _ (l res : List ℤ) where
  -- a channel that is accepted: its records, and whether their effects fit
  module _ {h : Shape} (e : Ok h ≡ shape_of l) where
    pub form_accepted : is_ok (form_verdict l) ≡ true
    form_accepted = go (form_verdict l) e
      where
        go : (v : Verdict) → Ok h ≡ shape_by v l → is_ok v ≡ true
        go (Ok x) e = refl
        go (Err s) e = sym (ap is_ok e)

    pub shape_is : h ≡ shape_at l
    shape_is = go (form_verdict l) e
      where
        go : (v : Verdict) → Ok h ≡ shape_by v l → h ≡ shape_at l
        go (Ok x) e = ap (λ (a : Result Shape Refusal). result_unwrap_or a h) e
        go (Err s) e = absurd (true≢false (ap is_ok e))

    pub records : Records l h.dim h.count
    records = subst (λ (g : Shape). Records l g.dim g.count) (sym shape_is) (records-of l (form-right l form_accepted))

    abbrev rest : Bool → Bool → Verdict
    rest q s = cond q (cond s (Ok tt) (Err TooLarge)) (Err ShortBuffer)

    answered : (q s : Bool) → leb (effects_size l) (length res) ≡ q → sums_fit l (dim_at l) (count_at l) ≡ s → shape_by (rest q s) l ≡ shape_by (effects_verdict l res) l
    answered q s f g = sym (λ i. shape_by (cond (form_accepted i) (rest (f i) (g i)) (form_verdict l)) l)

    size : header_size + h.count * record_size (effects h.dim) ≡ effects_size l
    size = ap (λ (g : Shape). header_size + g.count * record_size (effects g.dim)) shape_is

    sums : sums_fit l h.dim h.count ≡ sums_fit l (dim_at l) (count_at l)
    sums = ap (λ (g : Shape). sums_fit l g.dim g.count) shape_is

    module _ (f : header_size + h.count * record_size (effects h.dim) ≤ length res) where
      roomy : leb (effects_size l) (length res) ≡ true
      roomy = le-leb _ _ (subst (λ (n : ℕ). n ≤ length res) size f)

      pub too_large : sums_fit l h.dim h.count ≡ false → Err TooLarge ≡ shape_by (effects_verdict l res) l
      too_large g = answered true false roomy (sym sums ∙ g)

      pub all_fit : sums_fit l h.dim h.count ≡ true → Ok h ≡ shape_by (effects_verdict l res) l
      all_fit g = ap Ok shape_is ∙ answered true true roomy (sym sums ∙ g)

  abbrev by : Bool → Bool → Bool → Verdict
  by p q s = cond p (cond q (cond s (Ok tt) (Err TooLarge)) (Err ShortBuffer)) (form_verdict l)

  by_tests : (p q s : Bool) → is_ok (form_verdict l) ≡ p → is_ok (by p q s) ≡ true → (p ≡ true) × ((q ≡ true) × (s ≡ true))
  by_tests true true true f e = (refl, (refl, refl))
  by_tests true true false f e = absurd (true≢false (sym e))
  by_tests true false s f e = absurd (true≢false (sym e))
  by_tests false q s f e = absurd (true≢false (sym e ∙ f))

  pub accepted_ready : is_ok (effects_verdict l res) ≡ true → Ready l res (dim_at l) (count_at l)
  accepted_ready e =
      let s = by_tests (is_ok (form_verdict l)) (leb (effects_size l) (length res)) (sums_fit l (dim_at l) (count_at l)) refl e in
      record { form = form-right l s.0; room = leb-true _ _ s.1.0; fit = s.1.1; dim = refl; count = refl }

-- ---- what is known behind the judge: its refusal is the verdict, or the shape is the channel's and it can be written
module _ (l res : List ℤ) where
  pub verdict_refused : {r : Refusal} → Err r ≡ shape_by (effects_verdict l res) l → Err r ≡ effects_verdict l res
  verdict_refused {r} e = go (effects_verdict l res) e
    where
      go : (v : Verdict) → Err r ≡ shape_by v l → Err r ≡ v
      go (Ok x) e = absurd (true≢false (sym (ap is_ok e)))
      go (Err s) e = ap (λ (a : Result Shape Refusal). elim a [ Ok x ↦ Err r | Err t ↦ Err t ]) e

  module _ {h : Shape} (e : Ok h ≡ shape_by (effects_verdict l res) l) where
    pub verdict_accepted : Ok tt ≡ effects_verdict l res
    verdict_accepted = go (effects_verdict l res) e
      where
        go : (v : Verdict) → Ok h ≡ shape_by v l → Ok tt ≡ v
        go (Ok tt) e = refl
        go (Err s) e = absurd (true≢false (ap is_ok e))

    pub answer-shape : h ≡ shape_at l
    answer-shape = go (effects_verdict l res) e
      where
        go : (v : Verdict) → Ok h ≡ shape_by v l → h ≡ shape_at l
        go (Ok x) e = ap (λ (a : Result Shape Refusal). result_unwrap_or a h) e
        go (Err s) e = absurd (true≢false (ap is_ok e))

    pub ready : Ready l res h.dim h.count
    ready = subst (λ (g : Shape). Ready l res g.dim g.count) (sym answer-shape) (accepted_ready l res (sym (ap is_ok verdict_accepted)))

-- ---- what the writing calls ask of an accepted channel and result
module _ (l res : List ℤ) (d n : ℕ) (r : Ready l res d n) where
  pub ready_linked : Linked d (word l 3)
  ready_linked = subst (λ (e : ℕ). Linked e (word l 3)) (sym r.dim) (first-linked l r.form)

  pub ready_records : Records l d n
  ready_records = subst (λ (e : ℕ). Records l e n) (sym r.dim) (subst (Records l (dim_at l)) (sym r.count) (records-of l r.form))

  pub ready_fit : sums_fit l d n ≡ true
  ready_fit = (λ i. sums_fit l (r.dim i) (r.count i)) ∙ r.fit

  pub ready_room : header_size + n * record_size (effects d) ≤ length res
  ready_room = subst (λ (k : ℕ). k ≤ length res) (sym size) r.room
    where
      size : header_size + n * record_size (effects d) ≡ effects_size l
      size = λ i. header_size + r.count i * record_size (effects (r.dim i))
