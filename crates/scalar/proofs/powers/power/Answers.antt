-- `powers::power` meets its contract: the test of the whole table is the rule at each entry.
use mathlib.Core.Path.{ap, ◌∙◌}
use Prim.Native.Nat.{◌%◌}
use native.Mathlib.Nat.{mod-lt}
use lib.Dec.{lit<}
use borrow.Author.Tests.{eqb-true}
use Rattle.algebra.proofs.Tests.{all-at, and_split}
use Rattle.exact.proofs.Equal.{equal-true}
use Rattle.scalar.specs.Calls.{scalar_of}
use Rattle.scalar.specs.Inner.Powers.{is_power}
use Rattle.scalar.proofs.Same.{back}
use Rattle.scalar.proofs.powers.power.Goals as goal

pub returns : goal.returns
returns c =
    let k = c.args.k in
    let p = and_split _ _ (all-at 8 (is_power c.table.result.now) c.table.ensures (k % 8) (mod-lt k (lit< tt))) in
    back _ (eqb-true _ 4 p.0) ∙ ap scalar_of (equal-true _ _ p.1)
