-- `run_and_deliver` meets its contract.
use mathlib.Core.Path.{◌≡◌, ap, ◌∙◌}
use Prim.Native.Nat.{ℕ, ◌^◌}
use native.Mathlib.Omega.{arith}
use Rattle.judge.proofs.Running.{few_qubits, few-splits, runs, dim_small, count_small, delivers, delivered, used-small, used-room, cleared}
use Rattle.judge.proofs.call.run_and_deliver.Goals as goal

pub power-d-requires : goal.power-d-requires
power-d-requires c = omega (arith, few_qubits c.requires.1)

pub power-banks-requires : goal.power-banks-requires
power-banks-requires c = omega (arith, few-splits c.requires.1, c.requires.0)

-- how many branches there are
many : {b s t : ℕ} → b ≡ 2 ^ s → s ≡ t → b ≡ 2 ^ t
many h e = h ∙ ap (λ (k : ℕ). 2 ^ k) e

pub run_gates-at-requires : goal.run_gates-at-requires
run_gates-at-requires c = runs c.requires.1 c.power-d.ensures (many c.power-banks.ensures c.requires.0)

pub deliver-requires : goal.deliver-requires
deliver-requires c =
    delivers c.requires.1 c.power-d.ensures (many c.power-banks.ensures c.requires.0) c.run_gates-at.ensures

pub overflow_mul-used : goal.overflow_mul-used
overflow_mul-used c =
    omega (arith, count_small c.requires.1 c.power-d.ensures (many c.power-banks.ensures c.requires.0))

pub overflow_add-used : goal.overflow_add-used
overflow_add-used c =
    omega (arith, count_small c.requires.1 c.power-d.ensures (many c.power-banks.ensures c.requires.0))

pub slot_size-requires : goal.slot_size-requires
slot_size-requires c =
    omega (arith, dim_small c.requires.1 c.power-d.ensures (many c.power-banks.ensures c.requires.0))

pub overflow_mul-used-2 : goal.overflow_mul-used-2
overflow_mul-used-2 c =
    omega (arith, used-small c.requires.1 c.power-d.ensures (many c.power-banks.ensures c.requires.0) c.run_gates-at.ensures c.slot_size.ensures)

pub clear-requires : goal.clear-requires
clear-requires c =
    omega (arith, used-room c.requires.1 c.power-d.ensures (many c.power-banks.ensures c.requires.0) c.run_gates-at.ensures c.slot_size.ensures)

pub returns : goal.returns
returns c =
    record {
      res_after = delivered c.requires.1 c.power-d.ensures (many c.power-banks.ensures c.requires.0) c.run_gates-at.ensures c.deliver.ensures;
      work_after = cleared c.requires.1 c.power-d.ensures (many c.power-banks.ensures c.requires.0) c.run_gates-at.ensures c.slot_size.ensures c.clear.ensures;
    }
