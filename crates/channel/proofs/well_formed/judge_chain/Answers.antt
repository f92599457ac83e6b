-- `well_formed::judge_chain` meets its contract.
use Rattle.std.specs.Prelude.{Some, is_none, unwrap_or}
use mathlib.Core.Path.{◌≡◌, refl, sym, ap, ◌∙◌}
use mathlib.Core.Bool.{true, false, ◌||◌}
use Prim.Native.Nat.{◌+◌, ◌-◌}
use native.Mathlib.Omega.{arith}
use mir.Syntax.{w64}
use mir.Val.{to_z}
use borrow.Author.Tests.{eq-eqb, ne_eqb}
use Rattle.algebra.proofs.Signed.{reads}
use Rattle.channel.specs.Layout.{Form}
use Rattle.channel.specs.Inner.Shapes.{when, blank}
use Rattle.channel.specs.WellFormed.{block_ok}
use Rattle.channel.proofs.Words.{bits-zero}
use Rattle.channel.proofs.Judging.{there, chain_found, ended}
use Rattle.channel.proofs.Walk.{no_place, in_room, no_block, onward}
use Rattle.channel.proofs.well_formed.judge_chain.Goals as goal

pub returns-in_err-store : goal.returns-in_err-store
returns-in_err-store c =
    c.from_residual.ensures ∙ sym (c.loop-i.invariant ∙ no_place _ _ _ _ _ _ _ _ c.loop-i.blank (omega arith) (sym c.in_err-store.was ∙ c.enter.ensures))

pub at-r-requires : goal.at-r-requires
at-r-requires c =
    let s = c.args in
    let l = c.loop-i in
    (in_room s.form s.s.now s.m s.count (to_z w64 l.z-bits) (is_none l.prev) (unwrap_or l.prev 0) (sym c.in_ok-store.was ∙ c.enter.ensures) c.requires).1

pub returns-in_err-blank : goal.returns-in_err-blank
returns-in_err-blank c =
    let w = c.at-r.result.words.now in
    c.from_residual-in_err-blank.ensures
    ∙ sym (c.loop-i.invariant ∙ no_block _ _ _ _ _ _ _ _ c.loop-i.blank (omega arith) (sym c.in_ok-store.was ∙ c.enter.ensures) c.at-r.ensures.words _
    (sym c.in_err-blank.was ∙ c.judge_block.ensures ∙ ap (λ (F : Form). when (block_ok F w 0) (blank F w 0)) c.at-r.ensures.form))

pub loop-i-preserved : goal.loop-i-preserved
loop-i-preserved c =
    let s = c.args in
    let w = c.at-r.result.words.now in
    let less : s.count - c.loop-i.i - 1 ≡ s.count - (c.loop-i.i + 1) = omega arith in
    let q : Some c.in_ok-blank.field-0 ≡ when (block_ok s.form w 0) (blank s.form w 0) = sym c.in_ok-blank.was ∙ c.judge_block.ensures ∙ ap (λ (F : Form). when (block_ok F w 0) (blank F w 0)) c.at-r.ensures.form in
    c.loop-i.invariant
    ∙ onward _ _ _ _ _ _ _ _ c.loop-i.blank (omega arith) (sym c.in_ok-store.was ∙ c.enter.ensures) c.at-r.ensures.words _ q (there (block_ok s.form w 0) (blank s.form w 0) q refl).1 c.next-z.ensures
    ∙ (λ i. chain_found s.form s.s.now s.m s.count (less i) (sym (reads c.next-z.result c.next-z.type_inv) i) false c.in_ok-store.store (c.loop-i.blank || c.in_ok-blank.field-0))

pub returns-then-z-eq0 : goal.returns-then-z-eq0
returns-then-z-eq0 c =
    let l = c.loop-i in
    sym (l.invariant ∙ ended _ _ _ _ _ (to_z w64 l.z-bits) _ _ l.blank true (omega arith) (sym (bits-zero l.z-bits) ∙ eq-eqb _ _ c.if-z-eq0.true))

pub returns-else-z-eq0 : goal.returns-else-z-eq0
returns-else-z-eq0 c =
    let l = c.loop-i in
    sym (l.invariant ∙ ended _ _ _ _ _ (to_z w64 l.z-bits) _ _ l.blank false (omega arith) (sym (bits-zero l.z-bits) ∙ ne_eqb _ _ c.if-z-eq0.false))
