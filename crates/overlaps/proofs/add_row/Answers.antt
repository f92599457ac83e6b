-- `add_row` meets its contract.
use mathlib.Core.Path.{sym, ap, ◌∙◌, subst}
use mathlib.Core.List.{List}
use Prim.Native.Nat.{◌+◌, ◌*◌}
use native.Mathlib.Nat.{le_refl}
use native.Mathlib.Omega.{arith}
use lib.IntN.{ℤ}
use Rattle.algebra.proofs.Blocks.{begin, again, long, rest}
use Rattle.exact.specs.Exact.{Number, numbers, number_of, list_of, is_zero, max_numerator, narrow_numerator}
use Rattle.exact.specs.Inner.Sizes.{Within}
use Rattle.overlaps.specs.Inner.Overlap.{overlap, raised_at}
use Rattle.share.proofs.Numbers.{number_same, numbers-there}
use Rattle.overlaps.proofs.Numbers.{left-none}
use Rattle.overlaps.proofs.add_row.Goals as goal

pub returns-then-all_zero : goal.returns-then-all_zero
returns-then-all_zero c =
    let n = c.args in
    let z = sym (c.all_zero.ensures ∙ ap (λ (l : List ℤ). is_zero (number_of l)) c.read_raised-x.ensures) ∙ c.if-all_zero.true in
    sym (numbers-there n.res.now n.to n.n _ (λ i h. left-none n.work.now n.s (n.k + i * 4) n.res.now (n.to + i * 4) (raised_at n.s n.work.now n.p) z))

pub loop-c-init : goal.loop-c-init
loop-c-init c = begin (λ k. le_refl 4)

pub overflow_add-k : goal.overflow_add-k
overflow_add-k c = omega (arith, (c.requires.factors c.loop-c.c c.loop-c-test.true).room)

pub add_number-requires : goal.add_number-requires
add_number-requires c =
    let n = c.args in
    let own = rest c.loop-c.invariant (n.to + c.loop-c.c * 4) 4 (le_refl _) in
    record {
      room = omega (arith, c.requires.room, long c.loop-c.invariant);
      sum = subst (λ (z : Number). Within max_numerator z) (sym (number_same own)) (c.requires.sums c.loop-c.c c.loop-c-test.true);
      scale = subst (λ (l : List ℤ). Within narrow_numerator (number_of l)) (sym c.read_raised-x.ensures) c.requires.scale.narrow;
      factor = c.requires.factors c.loop-c.c c.loop-c-test.true;
    }

pub loop-c-preserved : goal.loop-c-preserved
loop-c-preserved c =
    let n = c.args in
    let own = rest c.loop-c.invariant (n.to + c.loop-c.c * 4) 4 (le_refl _) in
    again c.loop-c.invariant c.loop-c-test.true c.add_number.ensures
    (ap list_of (λ i. numbers.◌⊕◌ (number_same own i) (overlap (ap number_of c.read_raised-x.ensures i) n.s n.work.now (n.k + c.loop-c.c * 4))))
