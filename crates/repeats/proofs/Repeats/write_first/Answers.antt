-- `Repeats::write_first` meets its contract.
use mathlib.Core.Path.{sym, ap, ◌∙◌, subst}
use Prim.Native.Nat.{ℕ, ◌+◌, ◌*◌, ◌/◌, ◌%◌, ◌^◌, ◌≤◌}
use native.Mathlib.Omega.{arith}
use lib.Dec.{eqb}
use lib.ListN.{length}
use mir.Syntax.{w64}
use mir.Val.{of_z}
use Rattle.algebra.proofs.Blocks.{block_in_lem}
use Rattle.exact.specs.Exact.{Number, number_of, narrow_numerator}
use Rattle.exact.specs.Inner.Sizes.{Within}
use Rattle.share.specs.Share.{or_words, with_numerators}
use Rattle.repeats.specs.Inner.Repeats.{times}
use Rattle.repeats.proofs.Rows.{back, row-none, bits-some}
use Rattle.repeats.proofs.Repeats.write_first.Goals as goal

pub returns-then-not-is_worked-clause-words : goal.returns-then-not-is_worked-clause-words
returns-then-not-is_worked-clause-words c =
    let s = c.args.self in
    row-none c.args.res.now c.args.out s.work.now s.k s.firsts.now s.w c.args.r (sym c.is_worked.ensures ∙ c.if-not-is_worked.true)

pub write_row-requires : goal.write_row-requires
write_row-requires c = record {
  room = omega (arith, c.requires.room, block_in_lem c.requires.inside c.args.self.w);
  scale = subst (Within narrow_numerator) (sym (ap number_of c.number.ensures)) (c.args.self.narrow.sizes c.args.r c.requires.inside);
}

pub returns-clause-bits : goal.returns-clause-bits
returns-clause-bits c =
    let s = c.args.self in
    let to = c.args.out + c.args.r * s.w * 4 in
    let room : to + s.w * 4 ≤ length c.args.res.now = omega (arith, c.requires.room, block_in_lem c.requires.inside s.w) in
    let row = c.write_row.ensures ∙ ap (λ (x : Number). with_numerators c.args.res.now to s.w (times x s.work.now s.k)) (ap number_of c.number.ensures) in
    let bits = back c.or_more.result (record { sfits = c.or_more.type_inv }) ∙ c.or_more.ensures.bits ∙ ap (λ (g : ℕ). or_words g c.write_row.new.res to (s.w * 4)) (back c.args.g c.ranges.g) in
    λ some j h. ap (λ (n : ℕ). eqb (n / 2 ^ j % 2) 0) bits
    ∙ bits-some c.args.res.now c.args.out s.work.now s.k s.firsts.now s.w c.args.r (sym c.is_worked.ensures ∙ c.if-not-is_worked.false) row room c.or_more.ensures.fit (of_z w64 c.args.g) j h
