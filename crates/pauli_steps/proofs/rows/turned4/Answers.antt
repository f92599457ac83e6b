-- i^2 is −1, and i^3 is −i.
use mathlib.Core.Path.{◌≡◌, sym, ap, ◌∙◌, subst}
use mathlib.Core.List.{List}
use Prim.Native.Nat.{ℕ}
use native.Mathlib.Omega.{arith}
use lib.IntN.{ℤ}
use Rattle.algebra.proofs.Ring.{mul-one}
use Rattle.algebra.proofs.Quadratic.{ℤ√2i}
use Rattle.exact.specs.Exact.{Number, numbers, number_of, list_of}
use Rattle.exact.specs.Inner.Sizes.{Within, room_numerator}
use Rattle.scalar.specs.declared.Scalar.{Scalar}
use Rattle.scalar.proofs.Same.{back}
use Rattle.pauli_steps.specs.Inner.Rows.{turned_number}
use Rattle.pauli_steps.proofs.Tables.{turned-within, opposite}
use Rattle.pauli_steps.proofs.rows.turned4.Goals as goal

at : (x : List ℤ) {s t : ℕ} → t ≡ s → list_of (turned_number x s) ≡ list_of (turned_number x t)
at x e = ap (λ (t : ℕ). list_of (turned_number x t)) (sym e)

negated : {x : List ℤ} {z w : Number} → x ≡ list_of (numbers.neg z) → z ≡ w → x ≡ list_of (numbers.neg w)
negated e f = e ∙ ap (λ (z : Number). list_of (numbers.neg z)) f

pub returns-in-0 : goal.returns-in-0
returns-in-0 c =
    let x = c.args.x in
    ap (λ (s : Scalar). s.n) (back (record { n = x; e = 0 }) (omega arith)) ∙ ap list_of (sym (mul-one ℤ√2i (number_of x))) ∙ at x c.in-0.is

pub returns-in-1 : goal.returns-in-1
returns-in-1 c = c.times_i.ensures ∙ at c.args.x c.in-1.is

pub returns-in-2 : goal.returns-in-2
returns-in-2 c =
    let z = number_of c.args.x in
    negated c.neg4.ensures (sym (mul-one ℤ√2i z)) ∙ ap list_of (opposite z 0 (omega arith)) ∙ at c.args.x c.in-2.is

pub neg4-requires-in_default : goal.neg4-requires-in_default
neg4-requires-in_default c = subst (λ (x : List ℤ). Within room_numerator (number_of x)) (sym c.times_i-in_default.ensures) (turned-within room_numerator (number_of c.args.x) 1 c.requires.1)

pub returns-in_default : goal.returns-in_default
returns-in_default c =
    let z = number_of c.args.x in
    let e : c.args.t ≡ 3 = omega arith in
    negated c.neg4-in_default.ensures (ap number_of c.times_i-in_default.ensures) ∙ ap list_of (opposite z 1 (omega arith)) ∙ at c.args.x e
