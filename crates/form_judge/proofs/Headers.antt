-- Words of a form, and those given as a channel, by their header and their chain.
use Rattle.std.specs.Prelude.{Option, Some, None, Ok, Err}
use Rattle.std.specs.Result.{result_and}
use mathlib.Core.Path.{◌≡◌, refl, sym, ap, ◌∙◌}
use mathlib.Core.Bool.{Bool, true, false, ◌&&◌}
use mathlib.Core.List.{List}
use Prim.Native.Nat.{◌*◌}
use lib.IntN.{ℤ, nat_abs}
use Rattle.verdict.specs.Questions.{Verdict}
use Rattle.verdict.specs.declared.Refusal.{Refusal}
use Rattle.verdict.specs.declared.Refusal.TheVariants.{Malformed, ZeroBlock}
use Rattle.channel.specs.declared.Shape.{Shape}
use Rattle.channel.specs.declared.forms.Parts.{Parts}
use Rattle.channel.specs.Layout.{Form, channels, full, word, dim_at, form_of, form_in}
use Rattle.channel.specs.WellFormed.{header_ok, chained, chain_ok, well_formed_in, verdict_by, form_verdict}
use Rattle.channel.specs.Inner.Shapes.{when, header_of, shape_at, shape_by}
use Rattle.channel.proofs.Judging.{there, lacking, header_is, header-no, bad_header, well_formed_lem}
use Rattle.channel.proofs.Judged.{all_kept, channel_verdict}
use Rattle.form_judge.specs.declared.Found.{Found}
use Rattle.form_judge.specs.Faults.{fault_from, fault_of}
use Rattle.form_judge.specs.Inner.Judging.{shape_in, judged_of, found_of}

bad_in : (F : Form) (l : List ℤ) → header_ok F l ≡ false → well_formed_in F l ≡ false
unfolding well_formed_in
bad_in F l e = ap (λ (b : Bool). b && chained F l) e

module _ (f : Parts) (l : List ℤ) where
  pub unheaded_in : {r : Refusal} → Err r ≡ header_of f l → Err r ≡ shape_in f l
  unheaded_in e =
      let q = header-no f l e in
      ap (λ (r : Refusal). Err r) q.1 ∙ ap (λ (b : Bool). shape_by (verdict_by b false) l) (sym (bad_in (form_in f l) l q.0))

  module _ {h : Shape} (e : Ok h ≡ header_of f l) where
    -- the chain decides
    chain_is : {F : Form} → F ≡ form_of (h.dim * h.dim) f → shape_by (verdict_by (chain_ok F l h.bits h.count h.count (word l 3) true 0) false) l ≡ shape_in f l
    chain_is g =
        let q = header_is f l e in
        (λ i. shape_by (verdict_by (chain_ok (g i) l h.bits h.count h.count (word l 3) true 0) false) l)
        ∙ ap (λ (s : Shape). shape_by (verdict_by (chain_ok (form_of (s.dim * s.dim) f) l s.bits s.count s.count (word l 3) true 0) false) l) q.1
        ∙ ap (λ (b : Bool). shape_by (verdict_by b false) l) (sym (well_formed_lem (form_in f l) l _ q.0 refl))

    module _ {F : Form} (g : F ≡ form_of (h.dim * h.dim) f) (x : Bool) where
      abbrev found : Option Bool
      found = when (chain_ok F l h.bits h.count h.count (word l 3) true 0) x

      pub broken : None ≡ found → Err Malformed ≡ shape_in f l
      broken p = ap (λ (b : Bool). shape_by (verdict_by b false) l) (sym (lacking _ x p refl)) ∙ chain_is g

      pub whole : {y : Bool} → Some y ≡ found → Ok h ≡ shape_in f l
      whole p = ap Ok (header_is f l e).1 ∙ ap (λ (b : Bool). shape_by (verdict_by b false) l) (sym (there _ x p refl).0) ∙ chain_is g

-- a channel that is to be written in another form
module _ (f : Parts) (l : List ℤ) where
  by_verdict : {v : Verdict} → form_verdict l ≡ v → result_and v (Ok (record { shape = shape_at l; fault = fault_of (channels (dim_at l)) (form_in f l) l })) ≡ judged_of f l
  by_verdict e = sym (ap (λ (v : Verdict). result_and v (Ok (record { shape = shape_at l; fault = fault_of (channels (dim_at l)) (form_in f l) l }))) e)

  pub no_header : {r : Refusal} → Err r ≡ header_of all_kept l → Err r ≡ judged_of f l
  no_header e = let q = header-no all_kept l e in ap (λ (r : Refusal). Err r) q.1 ∙ by_verdict (bad_header l q.0)

  module _ {h : Shape} (e : Ok h ≡ header_of all_kept l) {F : Form} (g : F ≡ full (h.dim * h.dim)) where
    abbrev chain : Bool
    chain = chain_ok F l h.bits h.count h.count (word l 3) true 0

    abbrev sought : Found
    sought = found_of F (form_of F.side f) l h.count

    verdict_is : {b d : Bool} → chain ≡ b → d ≡ sought.blank → form_verdict l ≡ verdict_by b d
    verdict_is p q = sym (sym (λ i. verdict_by (p i) (sym q i)) ∙ channel_verdict l e F g)

    pub no_chain : None ≡ when chain sought → Err Malformed ≡ judged_of f l
    no_chain p = by_verdict (verdict_is (lacking chain sought p refl) refl)

    module _ {o : Found} (p : Some o ≡ when chain sought) where
      known : (chain ≡ true) × (o ≡ sought)
      known = there chain sought p refl

      accepts : form_verdict l ≡ verdict_by true o.blank
      accepts = verdict_is known.0 (ap (λ (o : Found). o.blank) known.1)

      pub some_zero : o.blank ≡ true → Err ZeroBlock ≡ judged_of f l
      some_zero d = by_verdict (accepts ∙ ap (verdict_by true) d)

      pub judged_is : o.blank ≡ false → Ok (record { shape = h; fault = o.fault }) ≡ judged_of f l
      judged_is d =
          let s = (header_is all_kept l e).1 in
          (λ i. Ok (record {
            shape = s i;
            fault = (ap (λ (o : Found). o.fault) known.1
                ∙ (λ j. fault_from (g j) (form_of (g j).side f) l h.count (nat_abs (word l 3)))
                ∙ ap (λ (s : Shape). fault_from (full (s.dim * s.dim)) (form_of (s.dim * s.dim) f) l s.count (nat_abs (word l 3))) s) i;
          }))
          ∙ by_verdict (accepts ∙ ap (verdict_by true) d)
