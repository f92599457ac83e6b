-- `multiply_row` meets its contract.
use mathlib.Core.Path.{sym, ap, ◌∙◌, subst}
use mathlib.Core.List.{List}
use native.Mathlib.Nat.{le_refl}
use lib.IntN.{ℤ}
use Rattle.algebra.proofs.Blocks.{begin, again}
use Rattle.exact.specs.Exact.{Number, numbers, number_of, list_of, narrow_numerator}
use Rattle.exact.specs.Inner.Sizes.{Within}
use Rattle.rows.proofs.Rows.{number_read, unread}
use Rattle.rows.proofs.multiply_row.Goals as goal

pub loop-c-init : goal.loop-c-init
loop-c-init c = begin (λ k. le_refl 4)

pub product-v-requires : goal.product-v-requires
product-v-requires c =
    let a = c.args in
    let src = unread c.loop-c.invariant c.requires.place c.loop-c-test.true in
    (c.requires.scale, subst (Within narrow_numerator) (sym (number_read src c.numerators_at.ensures)) (c.requires.factor c.loop-c.c c.loop-c-test.true))

pub loop-c-preserved : goal.loop-c-preserved
loop-c-preserved c =
    let a = c.args in
    let src = unread c.loop-c.invariant c.requires.place c.loop-c-test.true in
    again c.loop-c.invariant c.loop-c-test.true c.write_numerators.ensures
    (ap (λ (v : List ℤ). list_of (number_of v)) c.product-v.ensures ∙ ap (λ (z : Number). list_of (numbers.◌⊗◌ (number_of a.x) z)) (number_read src c.numerators_at.ensures))
