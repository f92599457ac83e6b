-- `phase_core` meets its contract: a power of ω is over 1 or over 2.
use mathlib.Core.Path.{refl}
use Prim.Native.Nat.{ℕ, ◌%◌, ◌≤◌}
use native.Mathlib.Nat.{mod-lt}
use native.Mathlib.Omega.{arith}
use lib.Dec.{leb, lit<}
use borrow.Author.Tests.{leb-true}
use Rattle.algebra.proofs.Tests.{all-at}
use Rattle.algebra.proofs.Signed.{pow_word}
use Rattle.exact.specs.Exact.{power_of, turn}
use Rattle.gate.specs.Inner.Tables.{phase_core}
use Rattle.gate.proofs.tables.phase_core.Goals as goal

small : (k : ℕ) → (phase_core k).e ≤ 1
small k = leb-true _ 1 (all-at 8 (λ (j : ℕ). leb (power_of turn j).exp 1) refl (k % 8) (mod-lt k (lit< tt)))

pub overflow_shl-result : goal.overflow_shl-result
overflow_shl-result c = rw (c.power-e.ensures) (omega (arith, small c.args.k))

pub returns : goal.returns
returns c = rw (c.power-e.ensures, pow_word (phase_core c.args.k).e (omega (arith, small c.args.k))) refl
