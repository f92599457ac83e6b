-- `Source::sum_block` meets its contract.
use mathlib.Core.Path.{◌≡◌, sym, ap, ◌∙◌, subst}
use mathlib.Core.List.{List}
use Prim.Native.Nat.{ℕ, ◌+◌, ◌*◌, ◌≤◌}
use native.Mathlib.Omega.{arith}
use lib.IntN.{ℤ}
use Rattle.share.specs.Share.{with_numerators}
use Rattle.collect.specs.Inner.Bank.{has, summed}
use Rattle.collect.proofs.Summing.{Summed, first_written, summed_more, summed_past, writable, addable}
use Rattle.collect.proofs.blocks.Source.sum_block.Goals as goal
use Rattle.collect.proofs.blocks.Source.sum_block.Goals.{then-has_store, else-has_store}

pub write_upper-requires : goal.write_upper-requires
write_upper-requires c = let s = c.args.self in writable s.held s.inside c.requires.room c.branch-bank.ensures c.requires.largest

pub loop-j-init : goal.loop-j-init
loop-j-init c = (first_written c.requires.first (rw c.branch-bank.ensures at c.write_upper.ensures), omega (arith, c.args.self.inside))

pub add_upper-requires : goal.add_upper-requires
add_upper-requires c = let s = c.args.self in addable s.held s.inside c.requires.room c.requires.largest c.loop-j.invariant.0 c.branch-bank-then-has_store.ensures c.loop-j-test.true

pub loop-j-preserved : goal.loop-j-preserved
loop-j-preserved c =
    let s = c.args in
    let b = s.self.branch in
    let tested = ap (λ (x : ℕ). has b.work.now b.bank.at b.bank.d x c.loop-j.j) (sym c.store-store.ensures) ∙ sym c.has_store.ensures in
    let next : c.loop-j.j + 1 ≤ b.bank.count = omega (arith, c.loop-j-test.true) in
    elim c.if-has_store.branch [
      | then-has_store w ↦ (summed_more c.loop-j.invariant.0 c.requires.room (tested ∙ w.if-has_store.true) (w.res-is ∙ (rw w.branch-bank-then-has_store.ensures at w.add_upper.ensures)), next)
      | else-has_store w ↦ (subst (λ (r : List ℤ). Summed s.res.now s.out b.work.now b.bank.at b.bank.d s.e b.j r (c.loop-j.j + 1)) (sym w.res-is) (summed_past c.loop-j.invariant.0 (tested ∙ w.if-has_store.false)), next)
    ]

pub returns : goal.returns
returns c =
    let s = c.args in
    let b = s.self.branch in
    let d = b.bank.d in
    let all : c.loop-j.j ≡ b.bank.count = omega (arith, c.loop-j.invariant.1, c.loop-j-test.false) in
    c.loop-j.invariant.0.is ∙ ap (λ (j : ℕ). with_numerators s.res.now s.out (d * d * (d * d)) (summed s.res.now s.out b.work.now b.bank.at d s.e b.j j)) all
