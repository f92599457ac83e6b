-- The two operators of an operation, 0 and 1: of the two outcomes of a measure, or of a rotation after each; and the words of a step.
use Rattle.std.specs.Prelude.{cond, List, ℕ, ◌*◌, ◌-◌, ◌/◌, ◌%◌, ◌^◌, ◌<◌, eqb, get_or, ℤ}
use Rattle.algebra.specs.Words.{blocks}
use Rattle.exact.specs.Exact.{Exact}
use Rattle.gate.specs.Inner.Rows.{Form, entry_in}
use Rattle.kraus.specs.Branch.{KrausOperator, write}
use Rattle.branches.specs.Inner.Store.{no_bit}
use Rattle.branches.specs.Inner.Bank.{branch_size}
use Rattle.branches.specs.Inner.Step.{step_words}
use Rattle.pauli_nodes.specs.Nodes.{Node, axis_matrix}
use Rattle.pauli_nodes.specs.Operations.{Operation, rotate, rotate_if, measure, axis, bits, splits}
use Rattle.pauli_nodes.specs.Inner.Masks.{Mask}
use Rattle.pauli_program.specs.Operators.{Coefficients, mixed, turn_by, onto}
use Rattle.pauli_steps.specs.Inner.Rows.{pair_of, axis_row, rows_about}

abbrev pub coefficients_of : Operation → ℕ → Coefficients
coefficients_of (rotate a k) v = turn_by k
coefficients_of (rotate_if a k j) v = turn_by (cond (eqb v 1) k 0)
coefficients_of (measure a bs) v = onto v

abbrev pub operator_of : ℕ → List Node → Operation → ℕ → KrausOperator
operator_of n nodes o v = record { entry = mixed (coefficients_of o v) (axis_matrix n nodes (axis o)); writes = write (bits o) v }

-- the bit of a product's number that chooses its operator, where `made` outcomes were made: a branch's number has the outcomes as its bits, the last one lowest
abbrev pub shift_of : ℕ → Operation → ℕ
shift_of made (rotate a k) = 0
shift_of made (rotate_if a k j) = made - 1 - j
shift_of made (measure a bs) = 0

-- the outcome that it reads was made
abbrev pub Seen : ℕ → Operation → Type 0
Seen made (rotate a k) = Unit {0}
Seen made (rotate_if a k j) = j < made
Seen made (measure a bs) = Unit {0}

-- the number of the operator of product j: that bit of j
abbrev pub chosen : ℕ → ℕ → ℕ
chosen shift j = j / 2 ^ shift % 2

-- the classical bit that it writes
abbrev pub bit_of : Operation → ℕ
bit_of o = get_or (bits o) 0 no_bit

-- ---- rows and words
-- the entries of operator v, by rows
abbrev pub rows_entry : Mask → Operation → ℕ → ℕ → Exact
rows_entry m o v = axis_row m (coefficients_of o v).own (coefficients_of o v).other

-- the projectors of a measure by their rows
abbrev pub projector_in : Mask → ℕ → Form
projector_in m v = rows_about m (pair_of (onto v))

-- where the products of the branches at `from` lie: in their places, or at `to` where the operation splits them
abbrev pub place_after : Operation → ℕ → ℕ → ℕ
place_after o from to = cond (eqb (splits o) 0) from to

-- the words, with the products of `count` branches written
abbrev pub stepped : List ℤ → ℕ → Mask → ℕ → ℕ → ℕ → ℕ → Operation → List ℤ
stepped l d m made from to count o =
    blocks (branch_size d) l to (count * 2 ^ splits o) (step_words l m.x (rows_entry m o) (chosen (shift_of made o)) (2 ^ splits o) from d (bit_of o))

-- of a measure
abbrev pub measured : List ℤ → Mask → ℕ → ℕ → ℕ → ℕ → ℕ → List ℤ
measured l m from to d count bit = blocks (branch_size d) l to (count * 2) (step_words l m.x (λ (v : ℕ). entry_in (projector_in m v)) (λ (j : ℕ). j % 2) 2 from d bit)
