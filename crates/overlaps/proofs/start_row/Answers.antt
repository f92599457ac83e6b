-- `start_row` meets its contract.
use mathlib.Core.Path.{sym, ap, ◌∙◌, subst}
use mathlib.Core.List.{List}
use Prim.Native.Nat.{ℕ, ◌+◌, ◌*◌, ◌-◌}
use native.Mathlib.Omega.{arith}
use lib.IntN.{ℤ}
use Rattle.algebra.proofs.Blocks.{block_in_lem, blocks-same}
use Rattle.exact.specs.Exact.{number_of, list_of, is_zero, narrow_numerator}
use Rattle.exact.specs.Inner.Sizes.{Within}
use Rattle.share.specs.Share.{with_numerators}
use Rattle.share.proofs.Numbers.{zero-numbers}
use Rattle.overlaps.specs.Inner.Overlap.{overlap, Raised}
use Rattle.overlaps.proofs.Rows.{entry_place, diagonal-room, none_written, some_written}
use Rattle.overlaps.proofs.start_row.Goals as goal

pub overflow_add-p : goal.overflow_add-p
overflow_add-p c = omega (arith, (c.requires.factors c.args.r c.requires.inside).room)

pub clear-requires : goal.clear-requires
clear-requires c = omega (arith, c.requires.room, block_in_lem c.requires.inside c.args.w)

pub returns-then-all_zero : goal.returns-then-all_zero
returns-then-all_zero c =
    let a = c.args in
    let z = sym (c.all_zero.ensures ∙ ap (λ (l : List ℤ). is_zero (number_of l)) c.read_raised-x.ensures) ∙ c.if-all_zero.true in
    c.clear.ensures ∙ zero-numbers a.res.now (a.out + a.r * a.w * 4) a.w
    ∙ blocks-same 4 a.res.now (a.out + a.r * a.w * 4) a.w _ _ (λ i h. ap list_of (sym (none_written a.res.now a.out a.work.now a.k a.w a.s a.r z i)))

pub write_row-requires : goal.write_row-requires
write_row-requires c =
    let a = c.args in
    let f = c.requires.factors in
    record {
      room = omega (arith, c.requires.room, diagonal-room a.out a.w a.r c.requires.inside);
      scale = subst (λ (l : List ℤ). Within narrow_numerator (number_of l)) (sym c.read_raised-x.ensures) (f a.r c.requires.inside).narrow;
      factors = λ i h. subst (λ (q : ℕ). Raised a.work.now q a.s) (sym (entry_place a.k a.r i)) (f (a.r + i) (omega arith));
    }

pub returns : goal.returns
returns c =
    let a = c.args in
    let z = sym (c.all_zero.ensures ∙ ap (λ (l : List ℤ). is_zero (number_of l)) c.read_raised-x.ensures) ∙ c.if-all_zero.false in
    some_written a.res.now a.out a.work.now a.k a.w a.s a.r c.requires.inside z
    (c.write_row.ensures ∙ ap (λ (l : List ℤ). with_numerators a.res.now (a.out + (a.r * a.w + a.r) * 4) (a.w - a.r) (λ (i : ℕ). overlap (number_of l) a.s a.work.now (a.k + a.r * 4 + i * 4))) c.read_raised-x.ensures)
