-- `turn_by` meets its contract.
use Rattle.std.specs.Prelude.{Option, unwrap_or}
use mathlib.Core.Path.{◌≡◌, refl, sym, ap, ◌∙◌}
use mathlib.Core.Bool.{Bool, cond}
use Prim.Native.Nat.{ℕ}
use Rattle.algebra.proofs.Blocks.{done}
use Rattle.branches.proofs.InPlace.{none_turned, turning, turned_more}
use Rattle.pauli_nodes.specs.Inner.Masks.{Mask}
use Rattle.pauli_program.specs.Operators.{turn_by}
use Rattle.pauli_steps.specs.declared.coefficients.Pair.{Pair}
use Rattle.pauli_steps.specs.Inner.Rows.{pair_of, rows_about}
use Rattle.pauli_steps.proofs.Tables.{turn_small, pair-level}
use Rattle.pauli_turns.specs.Inner.Turns.{form_of, is_turned, outcome_number, rotation_in}
use Rattle.pauli_turns.proofs.turn_by.Goals as goal
use Rattle.pauli_turns.proofs.turn_by.Goals.{then-is_turned, else-is_turned}

-- the rows of the branch's operator, by the test
rows_by : (m : Mask) (k : ℕ) (reads : Option ℕ) (v : ℕ) {p : Pair} {b t : Bool} → b ≡ is_turned reads v → b ≡ t → p ≡ pair_of (turn_by (cond t k 0)) → rows_about m p ≡ rotation_in m k reads v
rows_by m k reads v f g e = ap (rows_about m) (e ∙ ap (λ (t : Bool). pair_of (turn_by (cond t k 0))) (sym g ∙ f))

pub loop-j-init : goal.loop-j-init
loop-j-init g c = none_turned c.requires.step (unwrap_or c.args.reads 0)

pub turn_matrix-requires : goal.turn_matrix-requires
turn_matrix-requires g c =
    let a = c.args in
    let by = rows_by (form_of a.axis) a.k a.reads (outcome_number a.reads c.loop-j.j) c.is_turned.ensures in
    let e = c.turning.ensures in (
      pair-level e (turn_small a.k c.requires.eighths),
      turning c.requires.step (unwrap_or a.reads 0) c.loop-j-test.true c.branch_size-size.ensures c.loop-j.invariant (by c.if-is_turned.true e),
    )

pub keep_matrix-requires : goal.keep_matrix-requires
keep_matrix-requires g c =
    let a = c.args in
    turning c.requires.step (unwrap_or a.reads 0) c.loop-j-test.true c.branch_size-size.ensures c.loop-j.invariant
    (rows_by (form_of a.axis) a.k a.reads (outcome_number a.reads c.loop-j.j) c.is_turned.ensures c.if-is_turned.false refl)

pub loop-j-preserved : goal.loop-j-preserved
loop-j-preserved g c =
    let a = c.args in
    let m = form_of a.axis in
    let v = outcome_number a.reads c.loop-j.j in
    let e = c.is_turned.ensures in
    let p = c.requires.step in
    let h = c.loop-j-test.true in
    let s = c.branch_size-size.ensures in
    let w = c.loop-j.invariant in
    elim c.if-is_turned.branch [
      | then-is_turned t ↦ turned_more p (unwrap_or a.reads 0) h s w (rows_by m a.k a.reads v e t.if-is_turned.true t.turning.ensures) (t.work-is ∙ t.turn_matrix.ensures)
      | else-is_turned t ↦ turned_more p (unwrap_or a.reads 0) h s w (rows_by m a.k a.reads v e t.if-is_turned.false refl) (t.work-is ∙ t.keep_matrix.ensures)
    ]

pub returns : goal.returns
returns g c = done c.loop-j.invariant c.loop-j-test.false
