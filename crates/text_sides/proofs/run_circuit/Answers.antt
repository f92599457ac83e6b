-- `run_circuit` meets its contract.
use mathlib.Core.Path.{ap}
use mathlib.Core.List.{List, ◌++◌}
use Prim.Native.Nat.{ℕ}
use lib.ListN.{length, drop, replicate}
use Rattle.text_sides.specs.Sides.{max_bits}
use Rattle.text_sides.proofs.Padding.{filled-up, ran}
use Rattle.text_sides.proofs.run_circuit.Goals as goal

pub returns : goal.returns
returns c =
    let a = c.args in
    let k = a.circuit in
    let z = ap (λ (l : List ℕ). l ++ drop (length k.store.now) (replicate max_bits 0)) c.copy_from_slice.ensures.after in
    let e = c.circuit_channel-2.ensures in
    let all = ran k.qubits k.bits a.limits k.gates.now a.res.now a.work.now (filled-up k.store.now k.bits c.min-all.ensures c.if-all-given.false z) _ _ _ (e.value, (e.res_after, e.work_after)) in
    record { value = all.0; res_after = all.1.0; work_after = all.1.1 }
