-- `copy_records` meets its contract.
use mathlib.Core.Path.{◌≡◌, sym, ap, ◌∙◌, subst}
use Prim.Native.Nat.{ℕ, ◌+◌, ◌*◌, ◌≤◌}
use native.Mathlib.Nat.{le_of_eq}
use native.Mathlib.Omega.{arith}
use mathlib.Core.List.{List}
use lib.IntN.{ℤ}
use lib.ListN.{length}
use lib.Seq.{sets}
use Rattle.algebra.proofs.Blocks.{begin, again, long, block_in_lem}
use Rattle.channel.specs.Layout.{Form, header_size, record_size, record_at, word, form_of}
use Rattle.channel.specs.Recast.{recast_record}
use Rattle.channel.proofs.Suffix.{first-from}
use Rattle.recast.specs.Inner.Records.{Linked}
use Rattle.recast.proofs.Whole.{record_long, recast-from}
use Rattle.recast.proofs.copy_records.Goals as goal

-- record j of n, of r words each, lies inside k words
inside : (j n r s k : ℕ) → j * r + r ≤ n * r → s ≡ r → header_size + n * r ≤ k → header_size + j * s + r ≤ k
inside j n r s k p e q = subst (λ (t : ℕ). header_size + j * t + r ≤ k) (sym e) (omega arith)

pub loop-j-init : goal.loop-j-init
loop-j-init c = let a = c.args in begin (λ k. le_of_eq (record_long a.from (form_of a.from.side a.to) a.s.now (record_at a.from k)))

pub at-b-requires-clause-inside : goal.at-b-requires-clause-inside
at-b-requires-clause-inside c = inside c.loop-j.j c.args.n _ _ _ (block_in_lem c.loop-j-test.true (record_size c.args.from)) c.record_size-here.ensures c.requires.0.inside

pub copy_record-requires : goal.copy_record-requires
copy_record-requires c =
    let a = c.args in
    let G = form_of a.from.side a.to in
    let j = c.loop-j.j in
    let b = c.at-b.result in
    let at = header_size + j * c.record_size-here.result in
    let place : at ≡ record_at a.from j = ap (λ (r : ℕ). header_size + j * r) c.record_size-here.ensures in
    let next : word b.words.now 0 ≡ word a.s.now (record_at a.from j) = ap (λ (v : List ℤ). word v 0) c.at-b.ensures.words ∙ first-from a.s.now at ∙ ap (word a.s.now) place in (
      subst (λ (F : Form). Linked F (form_of F.side a.to) (word b.words.now 0)) (sym c.at-b.ensures.form) (subst (Linked a.from G) (sym next) (c.requires.0.next j c.loop-j-test.true)),
      subst (λ (F : Form). header_size + j * c.record_size-there.result + record_size (form_of F.side a.to) ≤ length c.loop-j.res) (sym c.at-b.ensures.form)
          (subst (λ (k : ℕ). header_size + j * c.record_size-there.result + record_size G ≤ k) (sym (long c.loop-j.invariant))
          (inside j a.n _ _ _ (block_in_lem c.loop-j-test.true (record_size G)) (c.record_size-there.ensures ∙ ap record_size c.keeping.ensures) c.requires.1)),
    )

pub loop-j-preserved : goal.loop-j-preserved
loop-j-preserved c =
    let a = c.args in
    let G = form_of a.from.side a.to in
    let j = c.loop-j.j in
    let at = header_size + j * c.record_size-here.result in
    let there = c.record_size-there.ensures ∙ ap record_size c.keeping.ensures in
    again c.loop-j.invariant c.loop-j-test.true
    (c.copy_record.ensures ∙ (λ i. sets c.loop-j.res (header_size + j * there i) (recast_record c.at-b.result.form (form_of c.at-b.result.form.side a.to) c.at-b.result.words.now 0)))
    ((λ i. recast_record (c.at-b.ensures.form i) (form_of (c.at-b.ensures.form i).side a.to) (c.at-b.ensures.words i) 0) ∙ recast-from a.from G a.s.now at
    ∙ ap (λ (r : ℕ). recast_record a.from G a.s.now (header_size + j * r)) c.record_size-here.ensures)
