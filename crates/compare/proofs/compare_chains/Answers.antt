-- `compare::compare_chains` meets its contract.
use Rattle.std.specs.Prelude.{Option, is_some}
use mathlib.Core.Path.{◌≡◌, sym, ap, ◌∙◌, subst}
use mathlib.Core.Bool.{true}
use mathlib.Core.List.{List}
use Prim.Native.Nat.{ℕ, ◌*◌, ◌≤◌, zero-le}
use native.Mathlib.Nat.{le_refl}
use lib.IntN.{ℤ, nat_abs}
use Rattle.compare.specs.declared.Difference.{Difference}
use Rattle.channel.specs.Layout.{word, count_at}
use Rattle.channel.specs.WellFormed.{well_formed}
use Rattle.channel.specs.Inner.Shapes.{Onward}
use Rattle.compare.specs.Inner.Walk.{cursor_at}
use Rattle.channel.proofs.Chain.{onward_begin, first-index, header_long}
use Rattle.channel.proofs.Judging.{formed}
use Rattle.compare.proofs.Merging.{walking_begin, taken-held, left-on, right-on, seen, walking_stop, walking_on, walking_less, walking_done}
use Rattle.compare.proofs.compare_chains.Goals as goal

begins : (l : List ℤ) (n at : ℕ) → well_formed l ≡ true → n ≡ count_at l → at ≡ nat_abs (word l 3) → Onward l n at
begins l n at e f g = subst (λ (m : ℕ). Onward l m at) (sym f) (subst (Onward l (count_at l)) (sym g) (onward_begin l e))

pub follow-requires : goal.follow-requires
follow-requires c = (header_long _ c.requires.left, first-index _ c.requires.left)

pub enter-a-requires : goal.enter-a-requires
enter-a-requires c = begins c.args.left.now c.args.m _ c.requires.left c.requires.left_count c.follow.ensures

pub follow-requires-2 : goal.follow-requires-2
follow-requires-2 c = (header_long _ c.requires.right, first-index _ c.requires.right)

pub enter-b-requires : goal.enter-b-requires
enter-b-requires c = begins c.args.right.now c.args.n _ c.requires.right c.requires.right_count c.follow-2.ensures

pub loop-turn-init : goal.loop-turn-init
loop-turn-init c =
    walking_begin c.requires.left c.requires.right
    (c.enter-a.ensures ∙ (λ i. cursor_at c.args.left.now (c.requires.left_count i) (c.follow.ensures i)))
    (c.enter-b.ensures ∙ (λ i. cursor_at c.args.right.now (c.requires.right_count i) (c.follow-2.ensures i)))

pub taken-l-requires : goal.taken-l-requires
taken-l-requires c = left-on c.loop-turn.invariant c.choose.ensures c.in-Some.is

pub taken-r-requires : goal.taken-r-requires
taken-r-requires c = right-on c.loop-turn.invariant c.choose.ensures c.in-Some.is

pub are_alike-requires : goal.are_alike-requires
are_alike-requires c =
    let l = left-on c.loop-turn.invariant c.choose.ensures c.in-Some.is in
    let r = right-on c.loop-turn.invariant c.choose.ensures c.in-Some.is in (
      taken-held _ c.args.w 0 l c.requires.left_side zero-le c.taken-l.ensures,
      taken-held _ c.args.w 0 r c.requires.right_side zero-le c.taken-r.ensures,
    )

pub invariant_of-sides : goal.invariant_of-sides
invariant_of-sides c =
    let w = c.args.w in
    let l = left-on c.loop-turn.invariant c.choose.ensures c.in-Some.is in
    let r = right-on c.loop-turn.invariant c.choose.ensures c.in-Some.is in
    record {
      small = subst (λ (v : ℕ). v ≤ 256) (sym c.requires.left_side) (formed _ c.requires.left).head.room.width;
      left_held = taken-held _ w (w * w) l c.requires.left_side (le_refl (w * w)) c.taken-l.ensures;
      right_held = taken-held _ w (w * w) r c.requires.right_side (le_refl (w * w)) c.taken-r.ensures;
      alike_is = c.are_alike.ensures;
    }

pub returns-then-is_some : goal.returns-then-is_some
returns-then-is_some c =
    let k = c.loop-turn.invariant in
    let t = c.choose.ensures in
    let e = c.compare-d.ensures ∙ seen k t c.in-Some.is c.taken-l.ensures c.taken-r.ensures in
    e ∙ walking_stop k t c.in-Some.is (sym (c.is_some.ensures ∙ ap (λ (d : Option Difference). is_some d) e) ∙ c.if-is_some.true)

pub advanced-a-requires : goal.advanced-a-requires
advanced-a-requires c = left-on c.loop-turn.invariant c.choose.ensures c.in-Some.is

pub advanced-b-requires : goal.advanced-b-requires
advanced-b-requires c = right-on c.loop-turn.invariant c.choose.ensures c.in-Some.is

pub loop-turn-smaller : goal.loop-turn-smaller
loop-turn-smaller c = walking_less c.loop-turn.invariant c.choose.ensures c.in-Some.is c.advanced-a.ensures c.advanced-b.ensures

pub loop-turn-preserved : goal.loop-turn-preserved
loop-turn-preserved c =
    let k = c.loop-turn.invariant in
    let t = c.choose.ensures in
    let e = c.compare-d.ensures ∙ seen k t c.in-Some.is c.taken-l.ensures c.taken-r.ensures in
    walking_on k t c.in-Some.is c.advanced-a.ensures c.advanced-b.ensures (sym (c.is_some.ensures ∙ ap (λ (d : Option Difference). is_some d) e) ∙ c.if-is_some.false)

pub returns : goal.returns
returns c = walking_done c.loop-turn.invariant c.choose.ensures c.in_default.is
