-- `well_formed::enter` meets its contract.
use Rattle.std.specs.Prelude.{Some, None, is_none, unwrap_or}
use mathlib.Core.Path.{◌≡◌, sym, ◌∙◌, subst}
use native.Mathlib.Nat.{le_trans}
use lib.IntN.{ℤ}
use mir.Syntax.{w64}
use mir.Val.{to_z, of_z}
use mir.Facts.{to_z-of_z}
use Rattle.channel.proofs.Words.{starts, starts-inside}
use Rattle.channel.proofs.Walk.{found_store, no_start, no_store, no_rise, in_place}
use Rattle.channel.proofs.well_formed.enter.Goals as goal

pub returns-then-not-is_start : goal.returns-then-not-is_start
returns-then-not-is_start c =
    let s = c.args in
    subst (λ (z : ℤ). None ≡ found_store s.form s.s.now s.m s.count z (is_none s.prev) (unwrap_or s.prev 0)) (to_z-of_z c.ranges.z)
    (no_start s.form s.s.now s.m s.count (to_z w64 (of_z w64 s.z)) (is_none s.prev) (unwrap_or s.prev 0) (sym c.is_start.ensures ∙ c.if-not-is_start.true))

pub returns-in_err-store : goal.returns-in_err-store
returns-in_err-store c =
    let s = c.args in
    c.from_residual.ensures
    ∙ subst (λ (z : ℤ). None ≡ found_store s.form s.s.now s.m s.count z (is_none s.prev) (unwrap_or s.prev 0)) (to_z-of_z c.ranges.z)
    (no_store s.form s.s.now s.m s.count (to_z w64 (of_z w64 s.z)) (is_none s.prev) (unwrap_or s.prev 0) (sym c.is_start.ensures ∙ c.if-not-is_start.false) c.at-r.ensures.words
    (sym c.in_err-store.was ∙ c.judge_store.ensures))

pub returns-then-not-rises : goal.returns-then-not-rises
returns-then-not-rises c =
    let s = c.args in
    subst (λ (z : ℤ). None ≡ found_store s.form s.s.now s.m s.count z (is_none s.prev) (unwrap_or s.prev 0)) (to_z-of_z c.ranges.z)
    (no_rise s.form s.s.now s.m s.count (to_z w64 (of_z w64 s.z)) (is_none s.prev) (unwrap_or s.prev 0) (sym c.is_start.ensures ∙ c.if-not-is_start.false) c.at-r.ensures.words
    (sym c.in_ok-store.was ∙ c.judge_store.ensures) (sym c.rises.ensures ∙ c.if-not-rises.true))

pub returns : goal.returns
returns c =
    let s = c.args in
    subst (λ (z : ℤ). Some c.in_ok-store.store ≡ found_store s.form s.s.now s.m s.count z (is_none s.prev) (unwrap_or s.prev 0)) (to_z-of_z c.ranges.z)
    (in_place s.form s.s.now s.m s.count (to_z w64 (of_z w64 s.z)) (is_none s.prev) (unwrap_or s.prev 0) (sym c.is_start.ensures ∙ c.if-not-is_start.false) c.at-r.ensures.words
    (sym c.in_ok-store.was ∙ c.judge_store.ensures) (sym c.rises.ensures ∙ c.if-not-rises.false))

pub at-r-requires : goal.at-r-requires
at-r-requires c =
    let s = c.args in
    le_trans (starts-inside (starts s.form s.count (to_z w64 (of_z w64 s.z)) (sym c.is_start.ensures ∙ c.if-not-is_start.false)).1) c.requires.inside
