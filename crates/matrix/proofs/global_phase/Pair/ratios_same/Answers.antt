-- `matrix::global_phase::Pair::ratios_same` meets its contract.
use mathlib.Core.Path.{◌≡◌, sym, ◌∙◌}
use mathlib.Core.Bool.{Bool}
use Rattle.algebra.proofs.Tests.{all-step, all_no}
use Rattle.exact.specs.Exact.{Exact, equal}
use Rattle.scalar.specs.declared.Scalar.{Scalar}
use Rattle.scalar.specs.Calls.{value, scalar_of}
use Rattle.matrix.specs.Phase.{◌·◌}
use Rattle.matrix.proofs.Operands.{readable, entry_operand}
use Rattle.matrix.proofs.global_phase.Pair.ratios_same.Goals as goal

-- the test of the products p and q of what was read, x and y
tested : (A B : Exact) {r : Bool} {p q x y : Scalar} {X Y : Exact} → r ≡ equal (value p) (value q) → p ≡ scalar_of (value x · B) → q ≡ scalar_of (value y · A) → x ≡ scalar_of X → y ≡ scalar_of Y → r ≡ equal (X · B) (Y · A)
tested A B e ep eq ex ey = e ∙ (λ i. equal (value (ep i)) (value (eq i))) ∙ (λ i. equal (value (ex i) · B) (value (ey i) · A))

pub returns-then-not-equals : goal.returns-then-not-equals
returns-then-not-equals c =
    sym (all_no c.args.self.n c.loop-j.j _ c.loop-j-test.true (sym (tested (value c.args.a) (value c.args.b) c.equals.ensures c.times.ensures c.times-in-loop-j.ensures c.read_cell-x.ensures c.read_cell-y.ensures) ∙ c.if-not-equals.true))

pub loop-j-preserved : goal.loop-j-preserved
loop-j-preserved c =
    all-step c.loop-j.j _ c.loop-j.invariant (sym (tested (value c.args.a) (value c.args.b) c.equals.ensures c.times.ensures c.times-in-loop-j.ensures c.read_cell-x.ensures c.read_cell-y.ensures) ∙ c.if-not-equals.false)

pub read_cell-x-requires : goal.read_cell-x-requires
read_cell-x-requires c = readable c.args.self.left_operands c.loop-j-test.true

pub read_cell-y-requires : goal.read_cell-y-requires
read_cell-y-requires c = readable c.args.self.right_operands c.loop-j-test.true

pub times-requires : goal.times-requires
times-requires c = (entry_operand c.args.self.left_operands c.loop-j-test.true c.read_cell-x.ensures, c.requires.1)

pub times-requires-in-loop-j : goal.times-requires-in-loop-j
times-requires-in-loop-j c = (entry_operand c.args.self.right_operands c.loop-j-test.true c.read_cell-y.ensures, c.requires.0)
