-- `Repeats::clear_zeros` meets its contract.
use mathlib.Core.Path.{sym, ap, ◌∙◌, subst}
use mathlib.Core.List.{List}
use Prim.Native.Nat.{ℕ, ◌+◌, ◌≤◌}
use native.Mathlib.Omega.{arith}
use lib.IntN.{ℤ}
use Rattle.exact.specs.Exact.{number_of, is_zero}
use Rattle.overlaps.proofs.Rows.{Rows, no_rows}
use Rattle.repeats.specs.Inner.Repeats.{rows_cleared}
use Rattle.repeats.proofs.Rows.{waiting, none-waits, more-wait, clear_more, clear_past}
use Rattle.repeats.proofs.Repeats.clear_zeros.Goals as goal
use Rattle.repeats.proofs.Repeats.clear_zeros.Goals.{then-not-all_zero, else-not-all_zero}

pub loop-r-init : goal.loop-r-init
loop-r-init c =
    let a = c.args in
    let s = a.self in
    let F = rows_cleared a.res.now a.out s.work.now s.k s.w in
    (omega arith, (omega arith, subst (λ (b : List ℤ). Rows a.res.now a.out s.w F b 0) (none-waits a.res.now a.out s.w 0) (no_rows a.res.now a.out s.w F)))

pub loop-r-preserved : goal.loop-r-preserved
loop-r-preserved c =
    let a = c.args in
    let s = a.self in
    let r = c.loop-r.r in
    let h = c.loop-r-test.true in
    let v = c.loop-r.invariant in
    let F = rows_cleared a.res.now a.out s.work.now s.k s.w in
    let tested = sym (c.all_zero.ensures ∙ ap (λ (l : List ℤ). is_zero (number_of l)) c.number.ensures) in
    let next : r + 1 ≤ s.w = omega arith in
    let written = c.if-not-all_zero.res in
    let F-rows : List ℤ → Type 0 = λ b. Rows a.res.now a.out s.w F b (r + 1) in
    let kept : ℕ → Type 0 = λ from. (from ≤ r + 1) × ((r + 1 ≤ s.w) × F-rows (waiting written a.out s.w from (r + 1))) in
    elim c.if-not-all_zero.branch [
      | then-not-all_zero w ↦
          let before = waiting c.loop-r.res a.out s.w c.loop-r.from r in
          let ended = subst F-rows (none-waits before a.out s.w (r + 1)) (clear_past s.work.now s.k h v.1.1 (tested ∙ w.if-not-all_zero.true)) in
          subst kept (sym w.from-is) (omega arith, (next, subst (λ (b : List ℤ). F-rows (waiting b a.out s.w (r + 1) (r + 1))) (sym (w.res-is ∙ w.clear.ensures)) ended))
      | else-not-all_zero w ↦
          let more = clear_more s.work.now s.k h v.1.1 (tested ∙ w.if-not-all_zero.false) (more-wait c.loop-r.res a.out s.w v.0) in
          subst kept (sym w.from-is) (omega (arith, v.0), (next, subst (λ (b : List ℤ). F-rows (waiting b a.out s.w c.loop-r.from (r + 1))) (sym w.res-is) more))
    ]
