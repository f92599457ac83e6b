-- `compare::Sides::compare` meets its contract: the same words, or a search.
use Rattle.std.specs.Option.{option_copied}
use mathlib.Core.Path.{◌≡◌, sym, ap, ◌∙◌}
use mathlib.Core.Bool.{true}
use Prim.Native.Nat.{ℕ, ◌+◌, ◌*◌, ◌-◌}
use native.Mathlib.Omega.{arith}
use native.Mathlib.Nat.{zero-add}
use Rattle.exact.specs.Exact.{equal}
use Rattle.gather.specs.Words.{same_words}
use Rattle.gather.proofs.Laws.{same-cut}
use Rattle.channel.specs.Layout.{record_head}
use Rattle.compare.specs.Inner.Sides.{side_of, blocks_of}
use Rattle.compare.proofs.Alike.{held-inside, alike-rows}
use Rattle.compare.proofs.Scanning.{all-agree}
use Rattle.compare.proofs.Sides.compare.Goals as goal

pub returns-then-same_rows : goal.returns-then-same_rows
returns-then-same_rows c =
    let s = c.args.self.now in
    let n = s.side * s.side in
    let m = c.in-Some-Some in
    let p = ap option_copied m.is-0 in
    let q = ap option_copied m.is-1 in
    let x = held-inside n p s.left_held in
    let y = held-inside n q s.right_held in
    let size = c.block_size-end.ensures in
    let cut = same-cut m.l.now 4 m.r.now 4 (n * 4) (4 + c.block_size-end.result - 4) (4 + c.block_size-end.result - 4) (omega arith) (omega arith) (omega arith) (omega arith) in
    let e : same_words m.l.now record_head m.r.now record_head (n * 4) ≡ true = sym cut ∙ sym c.same_rows.ensures ∙ c.if-same_rows.true in
    sym (all-agree (blocks_of s.store (option_copied s.left) (option_copied s.right)) s.side n 0
    (λ k h. ap (λ (j : ℕ). equal (side_of (option_copied s.left) j) (side_of (option_copied s.right) j)) (zero-add k) ∙ alike-rows p q (sym s.alike_is ∙ c.if-self.true) n e k h))
