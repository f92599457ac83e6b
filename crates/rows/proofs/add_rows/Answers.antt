-- `add_rows` meets its contract.
use mathlib.Core.Path.{sym, ap, ◌∙◌, subst}
use native.Mathlib.Nat.{le_refl}
use Rattle.algebra.proofs.Blocks.{begin, again}
use Rattle.exact.specs.Exact.{numbers, number_of, list_of, narrow_numerator}
use Rattle.exact.specs.Inner.Sizes.{Within}
use Rattle.rows.proofs.Rows.{number_read, unread}
use Rattle.rows.proofs.add_rows.Goals as goal

pub loop-c-init : goal.loop-c-init
loop-c-init c = begin (λ k. le_refl 4)

pub sum_of_products-requires : goal.sum_of_products-requires
sum_of_products-requires c =
    let r = c.requires.0 in
    let q = c.requires.1 in
    let left = number_read (unread c.loop-c.invariant r.place c.loop-c-test.true) c.numerators_at-s.ensures in
    let right = number_read (unread c.loop-c.invariant q.place c.loop-c-test.true) c.numerators_at-t.ensures in (
      (r.scale, subst (Within narrow_numerator) (sym left) (r.factor c.loop-c.c c.loop-c-test.true)),
      (q.scale, subst (Within narrow_numerator) (sym right) (q.factor c.loop-c.c c.loop-c-test.true)),
    )

pub loop-c-preserved : goal.loop-c-preserved
loop-c-preserved c =
    let a = c.args in
    let left = number_read (unread c.loop-c.invariant c.requires.0.place c.loop-c-test.true) c.numerators_at-s.ensures in
    let right = number_read (unread c.loop-c.invariant c.requires.1.place c.loop-c-test.true) c.numerators_at-t.ensures in
    again c.loop-c.invariant c.loop-c-test.true c.write_numerators.ensures
    (ap list_of (c.sum_of_products.ensures ∙ (λ i. numbers.◌⊕◌ (numbers.◌⊗◌ (number_of a.x) (left i)) (numbers.◌⊗◌ (number_of a.y) (right i)))))
