-- The rows of both projectors, then the step.
use Rattle.std.specs.Prelude.{unwrap_or}
use mathlib.Core.Path.{◌≡◌, refl, sym, ap, ◌∙◌, subst, fun_ext}
use mathlib.Core.Bool.{Bool, true, false, cond}
use Prim.Native.Nat.{ℕ, ◌*◌, ◌%◌}
use lib.Dec.{eqb}
use Rattle.algebra.specs.Words.{blocks}
use Rattle.exact.specs.Exact.{exact, half}
use Rattle.gate.specs.Operators.{one}
use Rattle.gate.specs.Inner.Rows.{Form, entry_in}
use Rattle.branches.specs.Inner.Store.{no_bit}
use Rattle.branches.specs.Inner.Bank.{branch_size}
use Rattle.branches.specs.Inner.Step.{Step, operator_in, step_words}
use Rattle.pauli_nodes.specs.Inner.Masks.{Mask}
use Rattle.pauli_program.specs.Operators.{onto}
use Rattle.pauli_steps.specs.declared.coefficients.Pair.{Pair}
use Rattle.pauli_steps.specs.Inner.Rows.{pair_of, rows_about}
use Rattle.pauli_turns.specs.Inner.Turns.{form_of}
use Rattle.pauli_run.specs.Inner.Operators.{projector_in}
use Rattle.pauli_run.proofs.measures.measure.Goals as goal

-- one of both is the projector of its number
both : (m : Mask) {first second : Form} {p q : Pair} → first ≡ rows_about m p → p ≡ pair_of (onto 0) → second ≡ rows_about m q → q ≡ pair_of (onto 1) → operator_in first second ≡ projector_in m
both m e p f q = fun_ext (λ v. (λ i. cond (eqb v 0) ((e ∙ ap (rows_about m) p) i) ((f ∙ ap (rows_about m) q) i)) ∙ go (eqb v 0))
  where
    go : (b : Bool) → cond b (projector_in m 0) (projector_in m 1) ≡ rows_about m (pair_of (record { own = half one; other = half (cond b one (exact.neg one)) }))
    go true = refl
    go false = refl

pub split-requires : goal.split-requires
split-requires c =
    let a = c.args in
    let e = both (form_of a.axis) c.axis_rows.ensures c.projecting.ensures c.axis_rows-2.ensures c.projecting-2.ensures in
    subst (λ (R : ℕ → Form). Step a.work.now a.axis.flips R a.from.at a.to a.from.d a.from.count) (sym e) c.requires

pub returns-clause-words : goal.returns-clause-words
returns-clause-words c =
    let a = c.args in
    let b = a.from in
    let e = both (form_of a.axis) c.axis_rows.ensures c.projecting.ensures c.axis_rows-2.ensures c.projecting-2.ensures in
    c.split.ensures
    ∙ ap (λ (R : ℕ → Form). blocks (branch_size b.d) a.work.now a.to (b.count * 2) (step_words a.work.now a.axis.flips (λ (v : ℕ). entry_in (R v)) (λ (j : ℕ). j % 2) 2 b.at b.d (unwrap_or a.bit no_bit))) e
