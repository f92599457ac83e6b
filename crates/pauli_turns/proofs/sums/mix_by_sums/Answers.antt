-- `mix_by_sums` meets its contract.
use mathlib.Core.Path.{sym, ap, ◌∙◌, subst}
use Rattle.exact.specs.Exact.{Number, numbers, number_of, list_of, narrow_numerator}
use Rattle.exact.specs.Inner.Sizes.{Within}
use Rattle.rows.proofs.Mixed.{none_mixed, first_read, second_read, mixed_more}
use Rattle.pauli_nodes.specs.Nodes.{turned}
use Rattle.pauli_turns.specs.Inner.Turns.{more, less}
use Rattle.pauli_turns.proofs.sums.mix_by_sums.Goals as goal

pub loop-c-init : goal.loop-c-init
loop-c-init c = none_mixed c.requires.mixing

pub mix_numbers-requires-clause-sizes : goal.mix_numbers-requires-clause-sizes
mix_numbers-requires-clause-sizes c =
    let r = c.requires.mixing in
    let h = c.loop-c-test.true in (
      c.requires.size,
      (
        subst (Within narrow_numerator) (sym (first_read r c.loop-c.invariant h c.numerators_at-s.ensures)) (r.factor c.loop-c.c h),
        subst (Within narrow_numerator) (sym (second_read r c.loop-c.invariant h c.numerators_at-v.ensures)) (r.factor_of_second c.loop-c.c h),
      ),
    )

pub loop-c-preserved : goal.loop-c-preserved
loop-c-preserved c =
    let a = c.args in
    let r = c.requires.mixing in
    let h = c.loop-c-test.true in
    let s = first_read r c.loop-c.invariant h c.numerators_at-s.ensures in
    let v = second_read r c.loop-c.invariant h c.numerators_at-v.ensures in
    let x : Number = more (number_of a.x) in
    let y : Number = numbers.◌⊗◌ (less (number_of a.x)) (turned a.t).num in
    let z : Number = numbers.◌⊗◌ (less (number_of a.x)) (turned a.u).num in
    mixed_more r c.loop-c.invariant h c.write_numerators.ensures
    (ap list_of (c.mix_numbers.ensures.first ∙ (λ i. numbers.◌⊕◌ (numbers.◌⊗◌ x (s i)) (numbers.◌⊗◌ y (v i)))))
    c.write_numerators-in-loop-c.ensures
    (ap list_of (c.mix_numbers.ensures.second ∙ (λ i. numbers.◌⊕◌ (numbers.◌⊗◌ x (v i)) (numbers.◌⊗◌ z (s i)))))
