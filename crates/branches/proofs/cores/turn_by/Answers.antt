-- `turn_by` meets its contract.
use mathlib.Core.Path.{◌≡◌, refl}
use mathlib.Core.Bool.{Bool, true, false, cond}
use lib.Dec.{eqb}
use Rattle.algebra.proofs.Blocks.{done}
use Rattle.gate.specs.Inner.Rows.{Form}
use Rattle.gate.specs.Inner.Tables.{rows_by}
use Rattle.branches.specs.Inner.Step.{operator_number}
use Rattle.branches.proofs.InPlace.{none_turned, turning, turned_more}
use Rattle.branches.proofs.cores.turn_by.Goals as goal

-- both operators are one
either : (R : Form) (b : Bool) → R ≡ cond b R R
either R true = refl
either R false = refl

pub loop-j-init : goal.loop-j-init
loop-j-init c = none_turned c.requires.1 0

pub turn_matrix_by-requires : goal.turn_matrix_by-requires
turn_matrix_by-requires c =
    let a = c.args in
    (c.requires.0, turning c.requires.1 0 c.loop-j-test.true c.branch_size-size.ensures c.loop-j.invariant (either (rows_by a.held a.m a.core) (eqb (operator_number 0 0 c.loop-j.j) 0)))

pub loop-j-preserved : goal.loop-j-preserved
loop-j-preserved c =
    let a = c.args in
    turned_more c.requires.1 0 c.loop-j-test.true c.branch_size-size.ensures c.loop-j.invariant (either (rows_by a.held a.m a.core) (eqb (operator_number 0 0 c.loop-j.j) 0)) c.turn_matrix_by.ensures

pub returns : goal.returns
returns c = done c.loop-j.invariant c.loop-j-test.false
