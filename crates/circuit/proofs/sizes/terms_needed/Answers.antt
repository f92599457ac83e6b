-- `sizes::terms_needed` meets its contract.
use Prim.Native.Nat.{ℕ, ◌+◌, ◌*◌, ◌≤◌}
use native.Mathlib.Nat.{mul-le-mul}
use native.Mathlib.Omega.{arith}
use Rattle.circuit.specs.Inner.Small.{max_branches, max_gates}
use Rattle.circuit.proofs.sizes.terms_needed.Goals as goal

-- small numbers have small products
module _ {g b : ℕ} (h : g ≤ max_gates) (k : b ≤ max_branches) where
  twice : 2 * g ≤ 2048
  twice = omega arith

  pairs : 2 * g * b ≤ 131072
  pairs = mul-le-mul twice k

  firsts : {q : ℕ} → q ≤ 32768 → 2 * g * b * q ≤ 4294967296
  firsts l = mul-le-mul pairs l

seconds : {b f : ℕ} → b ≤ max_branches → f ≤ 1048576 → b * f ≤ 67108864
seconds k l = mul-le-mul k l

pub overflow_mul-result : goal.overflow_mul-result
overflow_mul-result c = omega (arith, c.requires)

pub overflow_mul-result-2 : goal.overflow_mul-result-2
overflow_mul-result-2 c = omega (arith, pairs c.requires c.count.ensures.1)

pub overflow_mul-result-3 : goal.overflow_mul-result-3
overflow_mul-result-3 c = omega (arith, firsts c.requires c.count.ensures.1 c.cube.ensures.1)

pub overflow_mul-result-4 : goal.overflow_mul-result-4
overflow_mul-result-4 c = omega (arith, seconds c.count-2.ensures.1 c.fourth.ensures.1)

pub overflow_add-result : goal.overflow_add-result
overflow_add-result c = omega (arith, firsts c.requires c.count.ensures.1 c.cube.ensures.1, seconds c.count-2.ensures.1 c.fourth.ensures.1)

pub returns : goal.returns
returns c = λ i. 2 * c.args.gates * c.count.ensures.0 i * c.cube.ensures.0 i + c.count-2.ensures.0 i * c.fourth.ensures.0 i
