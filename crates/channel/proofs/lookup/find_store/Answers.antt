-- `lookup::find_store` meets its contract.
use mathlib.Core.Path.{◌≡◌, sym, ◌∙◌, subst}
use Prim.Native.Nat.{ℕ, ◌+◌, ◌-◌, ◌<◌, ◌≤◌}
use native.Mathlib.Omega.{arith}
use lib.ListN.{length}
use borrow.Author.Tests.{eq-eqb, ne_eqb}
use Rattle.channel.specs.Layout.{record_head}
use Rattle.channel.specs.Inner.Shapes.{Onward}
use Rattle.channel.specs.Lookup.{find}
use Rattle.channel.proofs.Chain.{onward_begin, first-index, header_long, on-inside, on-words, on-next, on-index}
use Rattle.channel.proofs.Finding.{finds, seeks, find_none}
use Rattle.channel.proofs.lookup.find_store.Lts as lts
use Rattle.channel.proofs.lookup.find_store.Reads as reads
use Rattle.channel.proofs.lookup.find_store.Tie as tie
use Rattle.channel.proofs.lookup.find_store.Goals as goal

abbrev In-loop-i : Type 0
In-loop-i = lts.In-loop tie.the-claims reads.Pre reads.Post goal.the-invariant-loop-i goal.the-decreases-loop-i

module _ (c : In-loop-i) where
  walk : Onward c.args.s.now (c.args.count - c.loop-i.i) c.loop-i.at
  walk = c.loop-i.invariant.0

  some : 0 < c.args.count - c.loop-i.i
  some = omega arith

  less : c.args.count - c.loop-i.i - 1 ≡ c.args.count - (c.loop-i.i + 1)
  less = omega arith

  inside : c.loop-i.at + record_head ≤ length c.args.s.now
  inside = let q = on-inside walk some in omega arith

pub follow-at-requires : goal.follow-at-requires
follow-at-requires c = (header_long _ c.requires.0, first-index _ c.requires.0)

pub loop-i-init : goal.loop-i-init
loop-i-init c =
    let s = c.args in
    let e : s.count - 0 ≡ s.count = omega arith in (
      subst (λ (n : ℕ). Onward s.s.now n c.follow-at.result) (sym c.requires.1 ∙ sym e) (subst (Onward s.s.now _) (sym c.follow-at.ensures) (onward_begin _ c.requires.0)),
      (λ j. find s.s.now s.store (sym e j) (sym c.follow-at.ensures j)),
    )

pub read_store-requires : goal.read_store-requires
read_store-requires c = let q = inside c in (omega arith, on-words (walk c) (some c))

pub returns-then-read_store-store : goal.returns-then-read_store-store
returns-then-read_store-store c =
    sym (c.loop-i.invariant.1 ∙ finds _ _ _ _ (some c.before.before) (eq-eqb _ _ (sym c.read_store.ensures ∙ c.if-read_store-store.true)))

pub follow-at-requires-in-loop-i : goal.follow-at-requires-in-loop-i
follow-at-requires-in-loop-i c = let q = inside c.before.before in (omega arith, on-index (walk c.before.before) (some c.before.before))

pub loop-i-preserved : goal.loop-i-preserved
loop-i-preserved c =
    let s = c.args in
    let q = c.before.before.before in (
      subst (λ (n : ℕ). Onward s.s.now n c.follow-at-in-loop-i.result) (less q) (subst (Onward s.s.now (s.count - c.loop-i.i - 1)) (sym c.follow-at-in-loop-i.ensures) (on-next (walk q) (some q))),
      c.loop-i.invariant.1 ∙ seeks _ _ _ _ (some q) (ne_eqb _ _ (λ e. c.if-read_store-store.false (c.read_store.ensures ∙ e)))
          ∙ (λ j. find s.s.now s.store (less q j) (sym c.follow-at-in-loop-i.ensures j)),
    )

pub returns : goal.returns
returns c = sym (c.loop-i.invariant.1 ∙ find_none _ _ _ _ (omega arith))
