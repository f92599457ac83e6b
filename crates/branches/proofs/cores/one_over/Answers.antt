-- `one_over` meets its contract.
use mathlib.Core.Path.{refl}
use native.Mathlib.Omega.{arith}
use Rattle.algebra.proofs.Signed.{pow_word}
use Rattle.branches.proofs.cores.one_over.Goals as goal

pub overflow_shl-result : goal.overflow_shl-result
overflow_shl-result c = omega arith

pub returns : goal.returns
returns c = rw (pow_word c.args.e (omega arith)) refl
