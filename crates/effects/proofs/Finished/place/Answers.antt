-- `Finished::place` meets its contract.
use Prim.Native.Nat.{◌≤◌}
use native.Mathlib.Omega.{arith}
use Rattle.effects.specs.Inner.Strides.{strided}
use Rattle.effects.proofs.Summing.{dim_square}
use Rattle.effects.proofs.Strides.{place_inside}
use Rattle.effects.proofs.Finished.place.Goals as goal
use Rattle.effects.proofs.Finished.place.Goals.{Start}

small : (c : Start) → let s = c.args.self in strided s.sums.block.d s.strides.rows s.strides.cols c.args.i ≤ 256
small c = omega (arith, place_inside c.args.self.fits c.args.i c.requires, dim_square c.args.self.sums.block.readable.dim)

pub overflow_mul-result : goal.overflow_mul-result
overflow_mul-result c = let s = small c in omega arith

pub overflow_mul-result-2 : goal.overflow_mul-result-2
overflow_mul-result-2 c = let s = small c in omega arith

pub overflow_add-result : goal.overflow_add-result
overflow_add-result c = let s = small c in omega arith
