-- `mix_constants` meets its contract.
use mathlib.Core.Path.{sym, ap, ◌∙◌, subst}
use Rattle.algebra.proofs.Tests.{and_split}
use Rattle.exact.specs.Exact.{numbers, number_of, list_of, narrow_numerator}
use Rattle.exact.specs.Inner.Sizes.{Within}
use Rattle.rows.proofs.Mixed.{second_alone, each_alone, none_mixed, first_read, second_read, mixed_more}
use Rattle.rows.proofs.mix_constants.Goals as goal

pub scale_by-requires-then-all_zero : goal.scale_by-requires-then-all_zero
scale_by-requires-then-all_zero c = second_alone c.requires c.scale_by.ensures

pub returns-then-all_zero : goal.returns-then-all_zero
returns-then-all_zero c =
    let zeros = and_split _ _ c.if-all_zero.true in
    each_alone c.requires c.scale_by.ensures (sym c.all_zero.ensures ∙ zeros.0) (sym c.all_zero-2.ensures ∙ zeros.1) c.scale_by-then-all_zero.ensures

pub loop-c-init : goal.loop-c-init
loop-c-init c = none_mixed c.requires

pub sum_of_products-first-requires : goal.sum_of_products-first-requires
sum_of_products-first-requires c =
    let r = c.requires in
    let h = c.loop-c-test.true in (
      (r.own, subst (Within narrow_numerator) (sym (first_read r c.loop-c.invariant h c.numerators_at-s.ensures)) (r.factor c.loop-c.c h)),
      (r.other, subst (Within narrow_numerator) (sym (second_read r c.loop-c.invariant h c.numerators_at-t.ensures)) (r.factor_of_second c.loop-c.c h)),
    )

pub sum_of_products-second-requires : goal.sum_of_products-second-requires
sum_of_products-second-requires c =
    let r = c.requires in
    let h = c.loop-c-test.true in (
      (r.own_of_second, subst (Within narrow_numerator) (sym (second_read r c.loop-c.invariant h c.numerators_at-t.ensures)) (r.factor_of_second c.loop-c.c h)),
      (r.other_of_second, subst (Within narrow_numerator) (sym (first_read r c.loop-c.invariant h c.numerators_at-s.ensures)) (r.factor c.loop-c.c h)),
    )

pub loop-c-preserved : goal.loop-c-preserved
loop-c-preserved c =
    let a = c.args in
    let r = c.requires in
    let h = c.loop-c-test.true in
    let s = first_read r c.loop-c.invariant h c.numerators_at-s.ensures in
    let t = second_read r c.loop-c.invariant h c.numerators_at-t.ensures in
    mixed_more r c.loop-c.invariant h c.write_numerators.ensures
    (ap list_of (c.sum_of_products-first.ensures ∙ (λ i. numbers.◌⊕◌ (numbers.◌⊗◌ (number_of a.x) (s i)) (numbers.◌⊗◌ (number_of a.y) (t i)))))
    c.write_numerators-in-loop-c.ensures
    (ap list_of (c.sum_of_products-second.ensures ∙ (λ i. numbers.◌⊕◌ (numbers.◌⊗◌ (number_of a.v) (t i)) (numbers.◌⊗◌ (number_of a.u) (s i)))))
