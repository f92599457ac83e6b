-- `turn_rows` meets its contract.
use mathlib.Core.Path.{◌≡◌, ◌∙◌}
use Prim.Native.Nat.{ℕ}
use native.Mathlib.Omega.{arith}
use lib.Bits.{bit_xor}
use Rattle.branches.proofs.Pairs.{none_paired, all_paired, mixing, folding, mixed_more, folded_more, kept_more}
use Rattle.pauli_nodes.specs.Nodes.{turned}
use Rattle.pauli_steps.specs.declared.coefficients.Pair.{Pair}
use Rattle.pauli_steps.specs.declared.rows.Axis.{Axis}
use Rattle.pauli_steps.specs.Inner.Rows.{axis_entry, row_about, rows_about}
use Rattle.pauli_steps.proofs.Tables.{row_turned}
use Rattle.pauli_turns.specs.Inner.Turns.{form_of}
use Rattle.pauli_turns.proofs.turn_rows.Goals as goal
use Rattle.pauli_turns.proofs.turn_rows.Goals.{then-r-s, else-r-s+then-r-s-2, else-r-s+else-r-s-2}

-- row r by the turns that the code counts
row : (a : Axis) (p : Pair) (r t : ℕ) {P : Type 0} → P × (turned t ≡ axis_entry (form_of a) r) → row_about p t ≡ (rows_about (form_of a) p).row r
row a p r t e = row_turned (form_of a) p r t e.1

pub loop-r-init : goal.loop-r-init
loop-r-init g c = none_paired c.requires.1

pub mix-requires-clause-mixing : goal.mix-requires-clause-mixing
mix-requires-clause-mixing g c =
    let a = c.args.axis in
    let p = c.args.pair in
    let r = c.loop-r.r in
    mixing c.requires.1 c.loop-r-test.true c.loop-r.invariant c.if-r-s.true (row a p r c.turns_in-t.result c.turns_in-t.ensures) (row a p (bit_xor r a.flips) c.turns_in.result c.turns_in.ensures)

pub fold_turned-requires-clause-row : goal.fold_turned-requires-clause-row
fold_turned-requires-clause-row g c = folding c.requires.1 c.loop-r-test.true c.loop-r.invariant c.if-r-s-2.true (row c.args.axis c.args.pair c.loop-r.r c.turns_in-t.result c.turns_in-t.ensures)

pub loop-r-preserved : goal.loop-r-preserved
loop-r-preserved g c =
    let a = c.args.axis in
    let x = c.args.pair in
    let r = c.loop-r.r in
    let p = c.requires.1 in
    let h = c.loop-r-test.true in
    let w = c.loop-r.invariant in
    let own = row a x r c.turns_in-t.result c.turns_in-t.ensures in
    elim c.if-r-s.branch [
      | then-r-s t ↦ t.work-is ∙ mixed_more p h w t.if-r-s.true own (row a x (bit_xor r a.flips) t.turns_in.result t.turns_in.ensures) t.mix.ensures
      | else-r-s+then-r-s-2 t ↦ t.work-is ∙ folded_more p h w t.if-r-s-2.true own t.fold_turned.ensures
      | else-r-s+else-r-s-2 t ↦ t.work-is ∙ kept_more p h w (omega arith)
    ]

pub returns : goal.returns
returns g c = all_paired c.requires.1 c.loop-r-test.false c.loop-r.invariant
