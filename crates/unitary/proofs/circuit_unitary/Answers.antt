-- An accepted circuit is run; a refusal touches nothing.
use Rattle.std.specs.Prelude.{is_ok}
use mathlib.Core.Path.{sym, ap}
use lib.ListN.{length}
use Rattle.unitary.proofs.Accepting.{unitary-accepted}
use Rattle.unitary.proofs.circuit_unitary.Goals as goal

pub run_unitary-requires : goal.run_unitary-requires
run_unitary-requires c =
    unitary-accepted c.args.qubits c.args.limits c.args.gates.now (length c.args.res.now) (length c.args.work.now)
    (ap is_ok (sym c.in_ok-judge_unitary.ensures))
