-- `lookup::lookup` meets its contract.
use mathlib.Core.Path.{sym}
use native.Mathlib.Omega.{arith}
use Rattle.channel.proofs.Finding.{part_there}
use Rattle.channel.proofs.lookup.lookup.Goals as goal

pub overflow_add-result : goal.overflow_add-result
overflow_add-result c = let q = (part_there c.args.channel.now c.args.store.now (sym c.in-Some.ensures)).inside in omega arith

pub offset_bounds-channel-p : goal.offset_bounds-channel-p
offset_bounds-channel-p c = let q = (part_there c.args.channel.now c.args.store.now (sym c.in-Some.ensures)).inside in omega arith

pub slice_bounds-result-end : goal.slice_bounds-result-end
slice_bounds-result-end c = let q = (part_there c.args.channel.now c.args.store.now (sym c.in-Some.ensures)).inside in omega arith
