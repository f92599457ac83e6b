-- A number that no kind has has no arity.
use mathlib.Core.Path.{sym}
use Prim.Native.Nat.{◌<◌}
use native.Mathlib.Omega.{arith}
use lib.ListN.{get_or-eq_default}
use Rattle.gate.specs.Gate.{arities, last_kind}
use Rattle.gate.proofs.judge.GateWords.qubit_count.Goals as goal

pub returns-in-None-clause-value : goal.returns-in-None-clause-value
returns-in-None-clause-value c =
    let above : last_kind < c.args.self.kind = c.in-None.ensures in
    sym (get_or-eq_default arities 0 {n = c.args.self.kind} (omega arith))
