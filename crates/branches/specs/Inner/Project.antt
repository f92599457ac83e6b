-- A measure or a reset of one qubit: each operator keeps the rows whose bit is 0, or those whose bit is 1, in their places or in those of the other half.
use Rattle.std.specs.Prelude.{Bool, false, cond, not, ℕ, eqb}
use Rattle.std.specs.Int.Bits.{bit_and}
use Rattle.gate.specs.declared.rows.Row.{Row}
use Rattle.gate.specs.Inner.Rows.{Form}
use Rattle.gate.specs.Inner.Tables.{zeros, kept_row, exchanged_row}
use Rattle.branches.specs.Inner.Step.{operator_in}

-- a row that is kept has 1 in its own column, or in its partner's where rows move, and any other has zeros
abbrev pub part : Bool → Bool → Row
part moved kept = cond kept (cond moved (exchanged_row 0) (kept_row 0)) (record { own = zeros; other = zeros })

-- rows are kept where the bit is 1, or where it is 0
abbrev pub projection : ℕ → Bool → Bool → Form
projection m high moved = record { row = λ r. part moved (eqb (bit_and r m) (cond high m 0)); exponent = 0 }

-- operator v: the first keeps the rows whose bit is 0; the second of a measure those whose bit is 1, and that of a reset the first's, moved to the others
abbrev pub split_in : ℕ → Bool → ℕ → Form
split_in m resets = operator_in (projection m false false) (projection m (not resets) resets)
