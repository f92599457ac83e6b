-- `blocks::put_blocks` meets its contract.
use Prim.Native.Nat.{ℕ, ◌+◌, ◌-◌, ◌*◌, ◌<◌, ◌≤◌}
use mathlib.Core.Path.{◌≡◌, sym, ap, subst, subst₂}
use mathlib.Core.Bool.{true, false}
use mathlib.Core.List.{List}
use lib.IntN.{ℤ}
use native.Mathlib.Omega.{arith}
use lib.ListN.{length}
use Rattle.channel.specs.declared.Shape.{Shape}
use Rattle.algebra.specs.Lists.{concat_map}
use Rattle.channel.specs.Layout.{channels, record_head, entry_size, side, dim_at, count_at, chain}
use Rattle.channel.specs.WellFormed.{store_ok}
use Rattle.channel.specs.Inner.Shapes.{Onward, Entries}
use Rattle.channel.proofs.Judging.{formed}
use Rattle.algebra.proofs.Tests.{and_split}
use Rattle.channel.proofs.Chain.{onward_begin, first-index, header_long, on-inside, on_store, on-block, on-next, on-index}
use Rattle.listing.specs.Listing.{block_lines}
use Rattle.text.proofs.Put.{left-all, left_less, left-none, left_is}
use Rattle.listing.proofs.Listing.{chain_more, chain-end}
use Rattle.listing.proofs.blocks.put_blocks.Goals as goal

-- the entries of the record at which the walk stands
entries_held : (l : List ℤ) (n at w : ℕ) → Onward l n at → 0 < n → w ≡ side (dim_at l) → Entries l at (w * w)
entries_held l n at w o h e = record { inside = by (side (dim_at l)) e (on-inside o h); exponent = (and_split _ _ (on-block o h)).0 }
  where
    by : (v : ℕ) → w ≡ v → at + (record_head + v * v * entry_size false) ≤ length l → at + record_head + w * w * entry_size false ≤ length l
    by v e p = subst (λ (u : ℕ). at + record_head + u * u * entry_size false ≤ length l) (sym e) (omega arith)

pub overflow_mul-w : goal.overflow_mul-w
overflow_mul-w c = let r = (formed _ c.requires.0).head.room.width in omega (arith, ap (λ (h : Shape). side h.dim) c.requires.1, r)

pub follow-place-requires : goal.follow-place-requires
follow-place-requires c = let e = c.requires.0 in (header_long _ e, first-index _ e)

pub loop-init : goal.loop-init
loop-init c =
    let l = c.args.s.now in
    let all : count_at l ≡ c.args.shape.count - 0 = omega (arith, ap (λ (h : Shape). h.count) c.requires.1) in
    record {
      walk = subst₂ (Onward l) all (sym c.follow-place.ensures) (onward_begin l c.requires.0);
      rest = left_is (λ i. concat_map (block_lines c.args.shape.bits (side c.args.shape.dim)) (chain (channels (dim_at l)) l (all i) (sym c.follow-place.ensures i))) (left-all _ _);
    }

pub put_block-requires : goal.put_block-requires
put_block-requires c =
    let ws = c.args.s.now in
    let at = c.loop.place in
    let left = c.args.shape.count - c.loop.counter in
    let some : 0 < left = omega arith in (
      subst (λ (w : ℕ). w ≤ 256) (sym (ap (λ (h : Shape). side h.dim) c.requires.1)) (formed _ c.requires.0).head.room.width,
      (
        subst (λ (m : ℕ). store_ok ws at m ≡ true) (sym (ap (λ (h : Shape). h.bits) c.requires.1)) (on_store c.loop.invariant.walk some),
        entries_held ws left at (side c.args.shape.dim) c.loop.invariant.walk some (ap (λ (h : Shape). side h.dim) c.requires.1),
      ),
    )

pub follow-place-requires-in-loop : goal.follow-place-requires-in-loop
follow-place-requires-in-loop c =
    let walk = c.loop.invariant.walk in
    let some : 0 < c.args.shape.count - c.loop.counter = omega arith in
    let q = on-inside walk some in
    (omega arith, on-index walk some)

pub loop-preserved : goal.loop-preserved
loop-preserved c =
    let ws = c.args.s.now in
    let left = c.args.shape.count - c.loop.counter in
    let some : 0 < left = omega arith in
    let less : left - 1 ≡ c.args.shape.count - (c.loop.counter + 1) = omega arith in
    let next = sym c.follow-place-in-loop.ensures in
    record {
      walk = subst₂ (Onward ws) less next (on-next c.loop.invariant.walk some);
      rest = left_is (λ i. concat_map (block_lines c.args.shape.bits (side c.args.shape.dim)) (chain (channels (dim_at ws)) ws (less i) (next i)))
          (left_less (left_is (ap (concat_map (block_lines c.args.shape.bits (side c.args.shape.dim))) (chain_more (channels (dim_at ws)) ws left c.loop.place some)) c.loop.invariant.rest) c.put_block.ensures);
    }

pub returns : goal.returns
returns c =
    let a = c.args in
    left-none (left_is (ap (concat_map (block_lines a.shape.bits (side a.shape.dim))) (chain-end (channels (dim_at a.s.now)) a.s.now (a.shape.count - c.loop.counter) c.loop.place (omega arith))) c.loop.invariant.rest)
