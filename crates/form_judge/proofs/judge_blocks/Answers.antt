-- `judge_blocks` meets its contract.
use Rattle.std.specs.Prelude.{Option, Some, None, is_none, unwrap_or}
use Rattle.std.specs.Option.{option_map, option_or}
use mathlib.Core.Path.{◌≡◌, refl, sym, ap, ◌∙◌}
use mathlib.Core.Bool.{Bool, true, false, ◌||◌}
use mathlib.Core.List.{List}
use Prim.Native.Nat.{ℕ, ◌+◌, ◌-◌}
use native.Mathlib.Omega.{arith}
use lib.IntN.{ℤ, nat_abs}
use mir.Syntax.{w64}
use mir.Val.{to_z, of_z}
use borrow.Author.Tests.{eq-eqb, ne_eqb}
use Rattle.algebra.proofs.Signed.{reads}
use Rattle.channel.specs.Layout.{Form, word, form_of}
use Rattle.channel.specs.WellFormed.{block_ok, chain_ok}
use Rattle.channel.specs.Inner.Shapes.{when, some_blank}
use Rattle.channel.proofs.Words.{bits-zero}
use Rattle.channel.proofs.Judging.{there, lacking, chain_found, ended}
use Rattle.channel.proofs.Suffix.{first-from}
use Rattle.channel.proofs.Walk.{no_place, in_room, no_block, onward}
use Rattle.form_judge.specs.Faults.{fault_from}
use Rattle.form_judge.specs.Inner.Judging.{sight_of, found_of}
use Rattle.form_judge.proofs.Faults.{restored-from, faults-on, faults-end}
use Rattle.form_judge.proofs.judge_blocks.Goals as goal

-- the answer, by whether a block is blank
module _ (F G : Form) (l : List ℤ) (m n : ℕ) where
  abbrev blank_found : Option Bool
  blank_found = chain_found F l m n n (word l 3) true 0 false

  none : blank_found ≡ None → None ≡ when (chain_ok F l m n n (word l 3) true 0) (found_of F G l n)
  none e = sym (ap (λ (b : Bool). when b (found_of F G l n)) (lacking (chain_ok F l m n n (word l 3) true 0) (some_blank F l n (nat_abs (word l 3))) (sym e) refl))

pub returns-in_err-store : goal.returns-in_err-store
returns-in_err-store c =
    let s = c.args in
    c.from_residual.ensures
    ∙ none s.form (form_of s.form.side s.to) s.s.now s.m s.count (c.loop-i.invariant.0 ∙ no_place _ _ _ _ _ _ _ _ c.loop-i.blank (omega arith) (sym c.in_err-store.was ∙ c.enter.ensures))

pub at-r-requires : goal.at-r-requires
at-r-requires c =
    let s = c.args in
    let l = c.loop-i in
    (in_room s.form s.s.now s.m s.count (to_z w64 l.z-bits) (is_none l.prev) (unwrap_or l.prev 0) (sym c.in_ok-store.was ∙ c.enter.ensures) c.requires.room).1

pub returns-in_err-b : goal.returns-in_err-b
returns-in_err-b c =
    let s = c.args in
    let w = c.at-r.result.words.now in
    c.from_residual-in_err-b.ensures
    ∙ none s.form (form_of s.form.side s.to) s.s.now s.m s.count
    (c.loop-i.invariant.0 ∙ no_block _ _ _ _ _ _ _ _ c.loop-i.blank (omega arith) (sym c.in_ok-store.was ∙ c.enter.ensures) c.at-r.ensures.words _
    (sym c.in_err-b.was ∙ c.judge_block.ensures ∙ ap (λ (F : Form). when (block_ok F w 0) (sight_of s.to F w 0)) c.at-r.ensures.form))

pub loop-i-preserved : goal.loop-i-preserved
loop-i-preserved c =
    let s = c.args in
    let l = s.s.now in
    let F = s.form in
    let G = form_of F.side s.to in
    let i = c.loop-i.i in
    let w = c.at-r.result.words.now in
    let z = to_z w64 c.loop-i.z-bits in
    let less : s.count - i - 1 ≡ s.count - (i + 1) = omega arith in
    let q : Some c.in_ok-b.b ≡ when (block_ok F w 0) (sight_of s.to F w 0) = sym c.in_ok-b.was ∙ c.judge_block.ensures ∙ ap (λ (F : Form). when (block_ok F w 0) (sight_of s.to F w 0)) c.at-r.ensures.form in
    let sight = (there (block_ok F w 0) (sight_of s.to F w 0) q refl).1 in
    let next : word l (nat_abs z) ≡ to_z w64 (of_z w64 c.next-z.result) =
    sym (reads c.next-z.result c.next-z.type_inv ∙ c.next-z.ensures ∙ ap (λ (v : List ℤ). word v 0) c.at-r.ensures.words ∙ first-from l (nat_abs z)) in (
      c.loop-i.invariant.0
          ∙ onward _ _ _ _ _ _ _ _ c.loop-i.blank (omega arith) (sym c.in_ok-store.was ∙ c.enter.ensures) c.at-r.ensures.words _ q (λ j. (sight j).blank) c.next-z.ensures
          ∙ (λ j. chain_found F l s.m s.count (less j) (sym (reads c.next-z.result c.next-z.type_inv) j) false c.in_ok-store.store (c.loop-i.blank || c.in_ok-b.b.blank)),
      c.loop-i.invariant.1 ∙ faults-on F G l i c.loop-i.fault (s.count - i) (nat_abs z) (omega arith) c.in_ok-b.b.fits ((λ j. (sight j).fits) ∙ restored-from s.to F l (nat_abs z) c.at-r.ensures.words)
          ∙ (λ j. option_or (sym c.fault_at-fault.ensures j) (option_map (λ (k : ℕ). i + 1 + k) (fault_from F G l (less j) (nat_abs (next j))))),
    )

pub returns-then-z-eq0 : goal.returns-then-z-eq0
returns-then-z-eq0 c =
    let s = c.args in
    let l = c.loop-i in
    let G = form_of s.form.side s.to in
    let q = there (chain_ok s.form s.s.now s.m s.count s.count (word s.s.now 3) true 0) (some_blank s.form s.s.now s.count (nat_abs (word s.s.now 3)))
    (sym (l.invariant.0 ∙ ended _ _ _ _ _ (to_z w64 l.z-bits) _ _ l.blank true (omega arith) (sym (bits-zero l.z-bits) ∙ eq-eqb _ _ c.if-z-eq0.true))) refl in
    (λ i. Some (record { blank = q.1 i; fault = sym (l.invariant.1 ∙ faults-end s.form G s.s.now l.i l.fault (s.count - l.i) (nat_abs (to_z w64 l.z-bits)) (omega arith)) i }))
    ∙ sym (ap (λ (b : Bool). when b (found_of s.form G s.s.now s.count)) q.0)

pub returns-else-z-eq0 : goal.returns-else-z-eq0
returns-else-z-eq0 c =
    let s = c.args in
    let l = c.loop-i in
    none s.form (form_of s.form.side s.to) s.s.now s.m s.count
    (l.invariant.0 ∙ ended _ _ _ _ _ (to_z w64 l.z-bits) _ _ l.blank false (omega arith) (sym (bits-zero l.z-bits) ∙ ne_eqb _ _ c.if-z-eq0.false))
