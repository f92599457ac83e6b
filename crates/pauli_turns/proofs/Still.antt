-- The identity, as a rotation by no eighths, leaves numerators as they are.
use mathlib.Core.Path.{◌≡◌, refl, sym, ap, ◌∙◌}
use mathlib.Core.Bool.{true}
use mathlib.Core.List.{List}
use Prim.Native.Nat.{ℕ, ◌+◌, ◌*◌, ◌/◌, ◌%◌}
use native.Mathlib.Nat.{div-add-mod'}
use native.Mathlib.Omega.{arith}
use lib.Bits.{bit_xor}
use lib.IntN.{ℤ}
use Rattle.algebra.proofs.Ring.{semi}
use Rattle.algebra.proofs.Semi.{zero-mul}
use Rattle.algebra.proofs.Quadratic.{ℤ√2i}
use Rattle.exact.specs.Exact.{number_of, is_zero}
use Rattle.share.specs.Share.{number_in, with_numerators}
use Rattle.share.proofs.Numbers.{numbers-there}
use Rattle.rows.proofs.Rows.{left-number}
use Rattle.pauli_steps.specs.declared.coefficients.Pair.{Pair}
use Rattle.branches.specs.Inner.Step.{row_numerators}
use Rattle.branches.proofs.Numerators.{row_made}
use Rattle.pauli_nodes.specs.Nodes.{turned}
use Rattle.pauli_nodes.specs.Inner.Masks.{Mask}
use Rattle.pauli_program.specs.Operators.{turn_by}
use Rattle.pauli_steps.specs.Inner.Rows.{pair_of, turns_in, turned_number, rows_about}
use Rattle.pauli_steps.proofs.Tables.{row_turned}

abbrev none : Pair
none = pair_of (turn_by 0)

-- no part of the axis
nothing : (t : ℕ) → is_zero (turned_number none.other.n t) ≡ true
nothing t = ap is_zero (zero-mul (semi ℤ√2i) (turned t).num)

pub still : (l : List ℤ) (m : Mask) (at d : ℕ) → l ≡ with_numerators l at (d * d) (λ (i : ℕ). row_numerators l m.x (rows_about m none) at d (i / d) (i % d))
still l m at d = sym (numbers-there l at (d * d) _ (λ i h. row (i / d) (i % d) ∙ ap (number_in l) (place i)))
  where
    place : (i : ℕ) → at + i / d * d * 4 + i % d * 4 ≡ at + i * 4
    place i = omega (arith, div-add-mod' i d)

    row : (r c : ℕ) → row_numerators l m.x (rows_about m none) at d r c ≡ number_in l (at + r * d * 4 + c * 4)
    row r c =
        let t = turns_in m r in
        sym (row_made l l m.x (rows_about m none) at d r c (row_turned m none r t refl) refl refl)
        ∙ sym (left-number l (number_of none.own.n) (at + r * d * 4) (turned_number none.other.n t) (at + bit_xor r m.x * d * 4) c (nothing t))
        ∙ ℤ√2i.one-mul (number_in l (at + r * d * 4 + c * 4))
