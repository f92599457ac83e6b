-- `pack` meets its contract.
use Rattle.std.specs.Slice.Iter.{iter_rest}
use Rattle.std.specs.Iterator.Adapters.{rev_source}
use Rattle.store.proofs.Bytes.{Packing}
use Rattle.store.proofs.pack.Given as goal

abbrev pub invariant-loop-b : goal.invariant-loop-b
invariant-loop-b l = Packing l.bits (iter_rest (rev_source l.b-iterator)) l.x
