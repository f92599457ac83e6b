-- `compare::taken` meets its contract.
use native.Mathlib.Omega.{arith}
use Rattle.channel.proofs.Chain.{on-inside}
use Rattle.compare.proofs.taken.Goals as goal

pub offset_bounds-s-c : goal.offset_bounds-s-c
offset_bounds-s-c c = let o = c.requires c.in-Some.c c.in-Some.is in let q = on-inside o.walk o.some in omega arith

pub slice_bounds-result-count : goal.slice_bounds-result-count
slice_bounds-result-count c = let o = c.requires c.in-Some.c c.in-Some.is in let q = on-inside o.walk o.some in omega arith

pub slice_bounds-result-start : goal.slice_bounds-result-start
slice_bounds-result-start c = let o = c.requires c.in-Some.c c.in-Some.is in let q = on-inside o.walk o.some in omega arith
