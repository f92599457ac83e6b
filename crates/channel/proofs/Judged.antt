-- What is found after the header of a channel.
use Rattle.std.specs.Prelude.{Some, None, Ok, Err}
use mathlib.Core.Path.{◌≡◌, sym, ap, ◌∙◌}
use mathlib.Core.Bool.{Bool, true, false}
use mathlib.Core.List.{List}
use Prim.Native.Nat.{◌*◌}
use lib.IntN.{ℤ, nat_abs}
use Rattle.verdict.specs.Questions.{Verdict}
use Rattle.verdict.specs.declared.Refusal.{Refusal}
use Rattle.verdict.specs.declared.Refusal.TheVariants.{Malformed}
use Rattle.channel.specs.declared.Shape.{Shape}
use Rattle.channel.specs.declared.forms.Parts.{Parts}
use Rattle.channel.specs.Layout.{Form, full, side, word, dim_at, bits_at, count_at}
use Rattle.channel.specs.WellFormed.{chain_ok, verdict_by, form_verdict}
use Rattle.channel.specs.Inner.Shapes.{when, some_blank, shape_by, shape_of, header_of}
use Rattle.channel.proofs.Judging.{header_is, header-no, bad_header, form-along}
use Rattle.channel.proofs.Pass.{blank-along}

abbrev pub all_kept : Parts
all_kept = record { half = false; plain = false }

by_none : (b z : Bool) → None ≡ when b z → verdict_by b z ≡ Err Malformed
by_none true z e = absurd (cc)
by_none false z e = ap (λ (r : Refusal). Err r) (cc)

by_some : (b z : Bool) {y : Bool} → Some y ≡ when b z → verdict_by b z ≡ verdict_by true y
by_some true z e = ap (verdict_by true) (cc)
by_some false z e = absurd (cc)

module _ (l : List ℤ) where
  pub unheaded : {r : Refusal} → Err r ≡ header_of all_kept l → Err r ≡ shape_of l
  unheaded e =
      let q = header-no all_kept l e in
      ap (λ (r : Refusal). Err r) q.1 ∙ ap (λ (v : Verdict). shape_by v l) (sym (bad_header l q.0))

  -- the test of the chain, and whether a block is blank
  abbrev right : Form → Shape → Bool
  right F s = chain_ok F l s.bits s.count s.count (word l 3) true 0

  abbrev dull : Form → Shape → Bool
  dull F s = some_blank F l s.count (nat_abs (word l 3))

  module _ {h : Shape} (e : Ok h ≡ header_of all_kept l) (F : Form) (g : F ≡ full (h.dim * h.dim)) where
    -- the verdict along the chain is the verdict
    pub channel_verdict : verdict_by (right F h) (dull F h) ≡ form_verdict l
    channel_verdict =
        let q = header_is all_kept l e in
        let d = dim_at l in
        (λ i. verdict_by (right (g i) h) (dull (g i) h))
        ∙ ap (λ (s : Shape). verdict_by (right (full (s.dim * s.dim)) s) (dull (full (s.dim * s.dim)) s)) q.1
        ∙ ap (verdict_by (chain_ok (full (side d)) l (bits_at l) (count_at l) (count_at l) (word l 3) true 0)) (blank-along (side d) l (count_at l) (nat_abs (word l 3)))
        ∙ sym (form-along l q.0)

    pub broken : None ≡ when (right F h) (dull F h) → Err Malformed ≡ shape_of l
    broken f = ap (λ (v : Verdict). shape_by v l) (sym (by_none (right F h) (dull F h) f) ∙ channel_verdict)

    pub whole : {b t : Bool} → Some b ≡ when (right F h) (dull F h) → b ≡ t → shape_by (verdict_by true t) l ≡ shape_of l
    whole f u = ap (λ (v : Verdict). shape_by v l) (ap (verdict_by true) (sym u) ∙ sym (by_some (right F h) (dull F h) f) ∙ channel_verdict)
