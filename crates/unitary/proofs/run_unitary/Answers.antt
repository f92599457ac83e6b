-- The run leaves one branch, whose matrix is written as cells.
use mathlib.Core.Path.{refl, ap}
use Prim.Native.Nat.{ℕ, ◌*◌}
use Rattle.unitary.proofs.Accepting.{dim_small, runs, result_room, factors, written, zeroed}
use Rattle.unitary.proofs.run_unitary.Goals as goal

pub run_gates-at-requires : goal.run_gates-at-requires
run_gates-at-requires c =
    let s = c.args in
    runs s.qubits c.power-d.result s.gates.now s.res.now s.work.now c.requires c.power-d.ensures _ refl

pub write_lowest-requires : goal.write_lowest-requires
write_lowest-requires c =
    let s = c.args in (
      factors s.qubits c.power-d.result s.gates.now s.res.now s.work.now c.requires c.power-d.ensures _ refl _ c.run_gates-at.result c.run_gates-at.ensures,
      result_room s.qubits c.power-d.result s.gates.now s.res.now s.work.now c.requires c.power-d.ensures,
    )

pub slot_size-requires : goal.slot_size-requires
slot_size-requires c =
    let s = c.args in
    dim_small s.qubits c.power-d.result s.gates.now s.res.now s.work.now c.requires c.power-d.ensures

pub returns : goal.returns
returns c =
    let s = c.args in
    let d = c.power-d.result in (
      written s.qubits d s.gates.now s.res.now s.work.now c.requires c.power-d.ensures _ refl _ c.run_gates-at.result c.run_gates-at.ensures c.write_lowest.ensures,
      zeroed s.qubits d s.gates.now s.res.now s.work.now c.requires c.power-d.ensures _ refl _ c.run_gates-at.result c.run_gates-at.ensures
          (4 * c.slot_size.result) (ap (λ (k : ℕ). 4 * k) c.slot_size.ensures) c.clear.ensures,
    )
