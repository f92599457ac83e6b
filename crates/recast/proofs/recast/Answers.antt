-- `recast` meets its contract.
use mathlib.Core.Path.{◌≡◌, sym, ap, ◌∙◌, subst}
use mathlib.Core.List.{[], ◌∷◌}
use Prim.Native.Nat.{ℕ, ◌^◌, ◌<◌, ◌≤◌}
use native.Mathlib.Omega.{arith}
use lib.ListN.{length, length-set}
use lib.Seq.{sets}
use mir.Syntax.{w64}
use mir.Val.{SFits, to_z, of_z}
use Rattle.algebra.proofs.Signed.{reads}
use Rattle.store.proofs.Words.{read}
use Rattle.channel.specs.Layout.{Form, record_at, word, form_of}
use Rattle.channel.specs.Recast.{relink}
use Rattle.channel.proofs.Chain.{long_in}
use Rattle.recast.specs.Inner.Records.{Linked}
use Rattle.recast.proofs.Ready.{first-linked, records-of}
use Rattle.recast.proofs.Whole.{whole_is}
use Rattle.recast.proofs.recast.Goals as goal

pub bounds-s-0 : goal.bounds-s-0
bounds-s-0 c = let q = long_in c.args.from c.args.s.now c.requires.right in omega arith

pub bounds-s-1 : goal.bounds-s-1
bounds-s-1 c = let q = long_in c.args.from c.args.s.now c.requires.right in omega arith

pub bounds-s-2 : goal.bounds-s-2
bounds-s-2 c = let q = long_in c.args.from c.args.s.now c.requires.right in omega arith

pub bounds-s-3 : goal.bounds-s-3
bounds-s-3 c = let q = long_in c.args.from c.args.s.now c.requires.right in omega arith

pub relinked-requires : goal.relinked-requires
relinked-requires c =
    let a = c.args in
    let f : SFits w64 (word a.s.now 3) = record { sfits = c.first-1.given } in
    let big : length a.res.now < 2 ^ 63 = omega arith in
    subst (λ (G : Form). Linked a.from G (to_z w64 (of_z w64 (word a.s.now 3)))) (sym c.keeping.ensures) (read f (Linked a.from (form_of a.from.side a.to)) (first-linked a.from (form_of a.from.side a.to) a.s.now a.n a.res.now c.requires big))

pub copy_records-requires : goal.copy_records-requires
copy_records-requires c =
    let a = c.args in
    let G = form_of a.from.side a.to in
    let big : length a.res.now < 2 ^ 63 = omega arith in
    let e : length c.write_numerators.new.s ≡ length a.res.now = ap length c.write_numerators.ensures ∙ simp length-set in
    let room = subst (λ (n : ℕ). record_at G n ≤ length a.res.now) (sym c.requires.count) c.requires.room in
    (records-of a.from G a.s.now a.n a.res.now c.requires big, subst (λ (k : ℕ). record_at G a.n ≤ k) (sym e) room)

pub returns : goal.returns
returns c =
    let a = c.args in
    let l = a.s.now in
    let G = form_of a.from.side a.to in
    whole_is a.from G l a.res.now _ _ a.n c.requires.count
    (c.write_numerators.ensures
    ∙ (λ i. sets a.res.now 0
    (reads (word l 0) c.dim-1.given i ∷ reads (word l 1) c.bits-1.given i ∷ reads (word l 2) c.count-1.given i
    ∷ (reads c.relinked.result c.relinked.type_inv ∙ c.relinked.ensures ∙ (λ k. relink a.from (c.keeping.ensures k) (reads (word l 3) c.first-1.given k))) i ∷ [])))
    c.copy_records.ensures
