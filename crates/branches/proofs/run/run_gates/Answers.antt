-- `run_gates` meets its contract.
use mathlib.Core.Path.{◌≡◌, refl, sym, ap, ◌∙◌, subst}
use Prim.Native.Nat.{ℕ, ◌*◌, ◌-◌, ◌^◌, ◌≤◌}
use native.Mathlib.Omega.{arith}
use lib.Pow.{pow_mono, pow_pos}
use Rattle.gate.specs.Gate.{gate_at, gate_size}
use Rattle.branches.specs.Inner.Run.{GateStep, gate_stepped}
use Rattle.branches.specs.declared.bank.Bank.{Bank}
use Rattle.branches.proofs.Runs.{branch_fits, work_room, begins, ready, more, ends}
use Rattle.branches.proofs.run.run_gates.Goals as goal

dim_small : (n : ℕ) {d : ℕ} → d ≡ 2 ^ n → n ≤ 5 → d ≤ 32
dim_small n e few = omega (arith, e, pow_mono {i = n} {j = 5} few)

pub branch_size-requires : goal.branch_size-requires
branch_size-requires c = dim_small c.args.n c.requires.dim c.requires.few

pub start_branch-requires : goal.start_branch-requires
start_branch-requires c =
    let size = ap (λ (k : ℕ). c.args.banks * k) c.branch_size.ensures in
    let some : 1 ≤ c.args.d = omega (arith, c.requires.dim, pow_pos c.args.n) in
    (dim_small c.args.n c.requires.dim c.requires.few, (omega (arith, c.requires.room, work_room c.args.d c.args.banks some, branch_fits c.args.d some, size), (c.requires.short, c.requires.bits)))

pub loop-i-init : goal.loop-i-init
loop-i-init c = (refl, begins c.requires c.start_branch.ensures)

-- what a gate asks of the bank that it is given
pub step_gate-bank-requires-clause-branches : goal.step_gate-bank-requires-clause-branches
step_gate-bank-requires-clause-branches c =
    let l = c.loop-i in
    subst (λ (d : ℕ). GateStep l.work (gate_at c.args.gates.now (l.i * gate_size)) c.args.n d l.bank.at (c.args.banks * c.branch_size.result - l.bank.at) l.bank.count) (sym l.invariant.0)
    (ready c.requires c.start_branch.ensures l.invariant.1 c.loop-i-test.true c.branch_size.ensures)

pub loop-i-preserved : goal.loop-i-preserved
loop-i-preserved c =
    let l = c.loop-i in
    let a = c.args in
    let e = c.step_gate-bank.ensures.bank in
    let at = ap (λ (b : Bank). b.at) e in (
      ap (λ (b : Bank). b.d) e ∙ l.invariant.0,
      more c.requires c.start_branch.ensures l.invariant.1 c.loop-i-test.true c.branch_size.ensures (ap (λ (b : Bank). b.count) e) at
          (c.step_gate-bank.ensures.words ∙ (λ t. gate_stepped l.work a.n (l.invariant.0 t) l.bank.at (sym at t) l.bank.count (gate_at a.gates.now (l.i * gate_size)))),
    )

pub returns : goal.returns
returns c = ends c.requires c.start_branch.ensures c.loop-i.invariant.1 c.loop-i-test.false
