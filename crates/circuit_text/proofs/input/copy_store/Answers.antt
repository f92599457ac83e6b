-- `input::copy_store` meets its contract.
use Prim.Native.Nat.{ℕ, ◌+◌}
use native.Mathlib.Omega.{arith}
use lib.Dec.{leb}
use lib.ListN.{get_or}
use borrow.Author.Tests.{leb-true}
use Rattle.algebra.proofs.Tests.{all-at}
use Rattle.circuit_text.specs.Input.{max_byte}
use Rattle.circuit_text.proofs.Shapes.{copied_more}
use Rattle.circuit_text.proofs.input.copy_store.Goals as goal

pub overflow_cast-store : goal.overflow_cast-store
overflow_cast-store c =
    omega (arith, leb-true (get_or c.args.numbers.now (2 + c.loop-i.i) 0) max_byte (all-at c.args.m (λ (i : ℕ). leb (get_or c.args.numbers.now (2 + i) 0) max_byte) c.requires.1 c.loop-i.i c.loop-i-test.true))

pub loop-i-preserved : goal.loop-i-preserved
loop-i-preserved c = copied_more c.args.numbers.now c.args.m c.args.store.now c.loop-i.store c.loop-i.invariant c.loop-i-test.true c.requires.0.0
