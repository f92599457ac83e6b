-- `matrix::global_phase::Pair::in_phase_at` meets its contract.
use mathlib.Core.Path.{◌≡◌, sym, ap, ◌∙◌}
use mathlib.Core.Bool.{Bool, ◌&&◌}
use Rattle.exact.specs.Exact.{Exact, conj, equal}
use Rattle.scalar.specs.declared.Scalar.{Scalar}
use Rattle.scalar.specs.Calls.{value, scalar_of}
use Rattle.matrix.specs.Phase.{◌·◌, entry_of, equal_modulus, equal_ratios}
use Rattle.matrix.proofs.Operands.{readable, entry_operand}
use Rattle.matrix.proofs.global_phase.Pair.in_phase_at.Goals as goal

-- the test of the squared moduli p and q of what was read, a and b
tested : {r : Bool} {p q a b : Scalar} {X Y : Exact} → r ≡ equal (value p) (value q) → p ≡ scalar_of (value a · conj (value a)) → q ≡ scalar_of (value b · conj (value b))
    → a ≡ scalar_of X → b ≡ scalar_of Y → r ≡ equal_modulus X Y
tested e ep eq ea eb = e ∙ (λ i. equal (value (ep i)) (value (eq i))) ∙ (λ i. equal_modulus (value (ea i)) (value (eb i)))

pub read_cell-a-requires : goal.read_cell-a-requires
read_cell-a-requires c = readable c.args.self.left_operands c.requires

pub read_cell-b-requires : goal.read_cell-b-requires
read_cell-b-requires c = readable c.args.self.right_operands c.requires

pub squared_modulus-p-requires : goal.squared_modulus-p-requires
squared_modulus-p-requires c = entry_operand c.args.self.left_operands c.requires c.read_cell-a.ensures

pub squared_modulus-q-requires : goal.squared_modulus-q-requires
squared_modulus-q-requires c = entry_operand c.args.self.right_operands c.requires c.read_cell-b.ensures

pub returns-then-not-equals : goal.returns-then-not-equals
returns-then-not-equals c =
    let s = c.args.self in
    let x = entry_of s.left.now in
    let y = entry_of s.right.now in
    let e = tested c.equals.ensures c.squared_modulus-p.ensures c.squared_modulus-q.ensures c.read_cell-a.ensures c.read_cell-b.ensures in
    sym (ap (λ (b : Bool). b && equal_ratios s.n x y (x c.args.i) (y c.args.i)) (sym e ∙ c.if-not-equals.true))

pub ratios_same-requires : goal.ratios_same-requires
ratios_same-requires c =
    let s = c.args.self in
    (entry_operand s.left_operands c.requires c.read_cell-a.ensures, entry_operand s.right_operands c.requires c.read_cell-b.ensures)

pub returns : goal.returns
returns c =
    let s = c.args.self in
    let x = entry_of s.left.now in
    let y = entry_of s.right.now in
    let e = tested c.equals.ensures c.squared_modulus-p.ensures c.squared_modulus-q.ensures c.read_cell-a.ensures c.read_cell-b.ensures in
    c.ratios_same.ensures
    ∙ (λ j. equal_ratios s.n x y (value (c.read_cell-a.ensures j)) (value (c.read_cell-b.ensures j)))
    ∙ sym (ap (λ (b : Bool). b && equal_ratios s.n x y (x c.args.i) (y c.args.i)) (sym e ∙ c.if-not-equals.false))
