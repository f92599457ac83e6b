-- `Repeats::finish_row` meets its contract.
use mathlib.Core.Path.{sym, ap, ◌∙◌}
use mathlib.Core.List.{List}
use Prim.Native.Nat.{ℕ, ◌+◌, ◌*◌, ◌<◌}
use native.Mathlib.Omega.{arith}
use lib.IntN.{ℤ}
use Rattle.algebra.proofs.Blocks.{block_in_lem}
use Rattle.exact.specs.Exact.{number_of, is_zero}
use Rattle.share.specs.Share.{number_in, with_numerators}
use Rattle.repeats.proofs.Rows.{passed, shared, copied}
use Rattle.repeats.proofs.Repeats.finish_row.Goals as goal

pub returns-then-all_zero : goal.returns-then-all_zero
returns-then-all_zero c =
    let a = c.args in
    let s = a.self in
    let z = sym (c.all_zero.ensures ∙ ap (λ (l : List ℤ). is_zero (number_of l)) c.number.ensures) ∙ c.if-all_zero.true in
    passed a.res.now a.out s.work.now s.k s.firsts.now s.w a.t a.r z

pub returns-then-f-r : goal.returns-then-f-r
returns-then-f-r c =
    let a = c.args in
    let s = a.self in
    let z = sym (c.all_zero.ensures ∙ ap (λ (l : List ℤ). is_zero (number_of l)) c.number.ensures) ∙ c.if-all_zero.false in
    shared a.res.now a.out s.work.now s.k s.firsts.now s.w a.t a.r z (sym c.first-f.ensures ∙ c.if-f-r.true) c.shift_words.ensures

pub copy_numbers-requires : goal.copy_numbers-requires
copy_numbers-requires c =
    let a = c.args in
    let s = a.self in
    let f = c.first-f.result in
    let inside = c.requires.0.inside in
    let before : f < a.r = omega (arith, c.first-f.ensures, s.repeat.before a.r inside, c.if-f-r.false) in
    (omega (arith, block_in_lem before s.w), omega (arith, c.requires.0.room, block_in_lem inside s.w))

pub returns : goal.returns
returns c =
    let a = c.args in
    let s = a.self in
    let z = sym (c.all_zero.ensures ∙ ap (λ (l : List ℤ). is_zero (number_of l)) c.number.ensures) ∙ c.if-all_zero.false in
    copied a.res.now a.out s.work.now s.k s.firsts.now s.w a.t a.r z (λ e. c.if-f-r.false (c.first-f.ensures ∙ e))
    (c.copy_numbers.ensures ∙ ap (λ (f : ℕ). with_numerators a.res.now (a.out + a.r * s.w * 4) s.w (λ (i : ℕ). number_in a.res.now (a.out + f * s.w * 4 + i * 4))) c.first-f.ensures)
