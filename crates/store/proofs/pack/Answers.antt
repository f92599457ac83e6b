-- `pack` meets its contract.
use mathlib.Core.Path.{sym, ap, ◌∙◌, subst}
use mathlib.Core.List.{List}
use Prim.Native.Nat.{ℕ, ◌+◌, ◌*◌}
use native.Mathlib.Omega.{arith}
use Rattle.std.specs.Slice.Iter.{iter_rest}
use Rattle.std.specs.Iterator.Adapters.{rev_source}
use Rattle.store.proofs.Bytes.{Packing, packing-none, packing-next, packing-all, packing-below}
use Rattle.store.proofs.pack.Goals as goal

pub overflow_mul-x : goal.overflow_mul-x
overflow_mul-x c =
    let l = c.args.bits.now in
    omega (arith, packing-below l _ _ c.requires.0 c.requires.1 (packing-next l _ _ c.loop-b.x c.in-Some.field-0.now c.in-Some.ensures.steps c.loop-b.invariant))

pub overflow_add-x : goal.overflow_add-x
overflow_add-x c =
    let l = c.args.bits.now in
    omega (arith, c.from.ensures, packing-below l _ _ c.requires.0 c.requires.1 (packing-next l _ _ c.loop-b.x c.in-Some.field-0.now c.in-Some.ensures.steps c.loop-b.invariant))
