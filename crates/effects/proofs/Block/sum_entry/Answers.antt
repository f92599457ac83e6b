-- `sum_entry` meets its contract.
use mathlib.Core.Path.{◌≡◌, sym, ap, ◌∙◌, subst}
use mathlib.Core.Bool.{true}
use mathlib.Core.List.{List}
use Prim.Native.Nat.{ℕ, ◌+◌, ◌*◌, ◌/◌, ◌%◌, ◌<◌}
use native.Mathlib.Omega.{arith}
use lib.IntN.{ℤ}
use Rattle.exact.specs.Exact.{well_formed}
use Rattle.verdict.proofs.Questions.{returned}
use Rattle.scalar.specs.Calls.{scalar_of}
use Rattle.channel.specs.Layout.{channels, entry_at, effect_place, side}
use Rattle.effects.specs.Effects.{term}
use Rattle.effects.specs.Inner.Readable.{Readable}
use Rattle.effects.proofs.Summing.{row_below, col_below, place_below, stops, goes_on}
use Rattle.effects.proofs.Entries.{entries_in, entry-formed}
use Rattle.effects.proofs.Block.sum_entry.Goals as goal

-- the term that comes next is one of the block's entries
module _ (l : List ℤ) (at d i o : ℕ) (r : Readable l at d) (h : i < d * d) (k : o < d) where
  below : effect_place d (i / d) (i % d) o < side d * side d
  below = place_below d _ _ o (row_below d i r.dim h) (col_below d i r.dim h) k

  formed : well_formed (term l at d i o) ≡ true
  formed = entry-formed l at d r (effect_place d (i / d) (i % d) o) below

pub read_entry-x-requires : goal.read_entry-x-requires
read_entry-x-requires c =
    let s = c.args in
    let low = below s.self.words.now s.self.at s.self.d s.i c.loop-o.o s.self.readable c.requires c.loop-o-test.true in
    let inside : c.term_place-k.result < side s.self.d * side s.self.d = subst (λ (k : ℕ). k < side s.self.d * side s.self.d) (sym c.term_place-k.ensures) low in
    entries_in s.self.words.now s.self.at s.self.d s.self.readable (c.term_place-k.result + 1) (omega (arith, inside))

pub returns-in_err-acc : goal.returns-in_err-acc
returns-in_err-acc c =
    let s = c.args in
    let read = c.read_entry-x.ensures ∙ ap (λ (k : ℕ). scalar_of (entry_at (channels s.self.d) s.self.words.now s.self.at k)) c.term_place-k.ensures in
    returned _ c.from_residual.ensures.1
    ∙ stops (term s.self.words.now s.self.at s.self.d s.i) c.loop-o.invariant (formed s.self.words.now s.self.at s.self.d s.i c.loop-o.o s.self.readable c.requires c.loop-o-test.true) read s.self.d c.loop-o-test.true c.in_err-acc.ensures

pub loop-o-preserved : goal.loop-o-preserved
loop-o-preserved c =
    let s = c.args in
    let read = c.read_entry-x.ensures ∙ ap (λ (k : ℕ). scalar_of (entry_at (channels s.self.d) s.self.words.now s.self.at k)) c.term_place-k.ensures in
    goes_on (term s.self.words.now s.self.at s.self.d s.i) c.loop-o.invariant (formed s.self.words.now s.self.at s.self.d s.i c.loop-o.o s.self.readable c.requires c.loop-o-test.true) read c.in_ok-acc.ensures
