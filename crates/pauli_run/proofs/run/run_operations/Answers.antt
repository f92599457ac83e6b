-- `run_operations` meets its contract.
use mathlib.Core.Path.{◌≡◌, refl, sym, ap, ◌∙◌, subst}
use Prim.Native.Nat.{ℕ, ◌+◌, ◌*◌, ◌-◌, ◌^◌, ◌≤◌}
use native.Mathlib.Omega.{arith}
use lib.Pow.{pow_mono}
use Rattle.branches.specs.declared.bank.Bank.{Bank}
use Rattle.pauli_nodes.specs.Operations.{axis}
use Rattle.pauli_nodes.specs.Inner.Masks.{ref_mask}
use Rattle.pauli_words.specs.Words.{operation_of}
use Rattle.pauli_words.specs.Inner.Code.{operation_in}
use Rattle.pauli_run.specs.Inner.Operators.{stepped}
use Rattle.pauli_run.specs.Inner.Run.{Operating}
use Rattle.pauli_run.proofs.Running.{first_fits}
use Rattle.pauli_run.proofs.Handed.{begins, runs, place_le, made_le, ready, more, ends}
use Rattle.pauli_run.proofs.run.run_operations.Goals as goal

dim_small : (n : ℕ) {d : ℕ} → d ≡ 2 ^ n → n ≤ 5 → d ≤ 32
dim_small n e few = omega (arith, e, pow_mono {i = n} {j = 5} few)

pub branch_size-requires : goal.branch_size-requires
branch_size-requires c = dim_small c.args.program.qubits c.requires.1.dim c.requires.1.sound.few

pub start_branch-requires : goal.start_branch-requires
start_branch-requires c = (dim_small c.args.program.qubits c.requires.1.dim c.requires.1.sound.few, (omega (arith, first_fits c.requires.1, c.requires.1.room), (c.requires.1.short, c.requires.1.bytes)))

pub loop-i-init : goal.loop-i-init
loop-i-init c = (refl, λ nodes r. begins r c.args.work.now c.start_branch.ensures)

pub overflow_sub-half : goal.overflow_sub-half
overflow_sub-half c =
    let r = runs c.requires.1 c.start_branch.ensures in
    place_le r (c.loop-i.invariant.1 c.requires.0 r) c.loop-i-test.true c.branch_size.ensures

pub step_operation-bank-requires : goal.step_operation-bank-requires
step_operation-bank-requires c =
    let r = runs c.requires.1 c.start_branch.ensures in
    let l = c.loop-i in
    subst (λ (d : ℕ). Operating l.work c.args.masks.now (operation_in c.of-operation.result) l.made l.bank.at (c.args.banks * c.branch_size.result - l.bank.at) d l.bank.count) (sym l.invariant.0)
    (ready r (l.invariant.1 c.requires.0 r) c.loop-i-test.true c.branch_size.ensures (c.of-operation.ensures ∙ ap operation_of c.read_gate.ensures))

pub overflow_add-made : goal.overflow_add-made
overflow_add-made c =
    let r = runs c.requires.1 c.start_branch.ensures in
    omega (arith, made_le r (c.loop-i.invariant.1 c.requires.0 r) c.loop-i-test.true c.branch_size.ensures, c.splits-made.ensures.1)

pub loop-i-preserved : goal.loop-i-preserved
loop-i-preserved c =
    let l = c.loop-i in
    let e = c.step_operation-bank.ensures.bank in
    let at = ap (λ (b : Bank). b.at) e in
    let o = operation_in c.of-operation.result in (
      ap (λ (b : Bank). b.d) e ∙ l.invariant.0,
      λ nodes r.
          more r (l.invariant.1 nodes r) c.loop-i-test.true c.branch_size.ensures (c.of-operation.ensures ∙ ap operation_of c.read_gate.ensures)
          (ap (λ (b : Bank). b.count) e) (ap (λ (k : ℕ). l.made + k) c.splits-made.ensures.0) at
          (c.step_operation-bank.ensures.words ∙ (λ t. stepped l.work (l.invariant.0 t) (ref_mask c.args.masks.now (axis o)) l.made l.bank.at (sym at t) l.bank.count o)),
    )

pub returns : goal.returns
returns c = λ nodes r. ends r c.start_branch.ensures (c.loop-i.invariant.1 nodes (runs r c.start_branch.ensures)) c.loop-i-test.false
