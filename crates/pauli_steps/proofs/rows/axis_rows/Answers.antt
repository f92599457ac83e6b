-- Numbers from −1 to 1 leave room, and both rows have the pair's numbers over its power of two.
use mathlib.Core.Path.{◌≡◌, sym, ap, ◌∙◌, subst}
use mathlib.Core.Bool.{cond}
use mathlib.Core.List.{List}
use Prim.Native.Nat.{ℕ, zero, suc, ◌+◌, ◌*◌, ◌%◌, ◌<◌}
use native.Mathlib.Nat.{mod-lt}
use native.Mathlib.Omega.{arith}
use lib.Bits.{bit_and, bit_xor}
use lib.Count.{ones}
use lib.Dec.{eqb}
use lib.IntN.{ℤ}
use Rattle.exact.specs.Exact.{numbers, number_of, list_of}
use Rattle.exact.specs.Inner.Sizes.{Within, room_numerator}
use Rattle.gate.specs.declared.rows.Row.{Row}
use Rattle.pauli_nodes.specs.Inner.Masks.{mask}
use Rattle.pauli_words.proofs.Parity.{ones_masked}
use Rattle.pauli_steps.specs.declared.coefficients.Pair.{Pair}
use Rattle.pauli_steps.specs.Inner.Rows.{turns_in, row_about}
use Rattle.pauli_steps.proofs.Tables.{turned-within, opposite, roomy_factor}
use Rattle.pauli_steps.proofs.rows.axis_rows.Goals as goal

pub turned4-plus-requires : goal.turned4-plus-requires
turned4-plus-requires c = (c.args.axis.in_range.1, roomy_factor c.requires.other)

pub neg4-minus-requires : goal.neg4-minus-requires
neg4-minus-requires c =
    let a = c.args in
    subst (λ (x : List ℤ). Within room_numerator (number_of x)) (sym c.turned4-plus.ensures) (turned-within room_numerator (number_of a.pair.now.other.n) a.axis.turns (roomy_factor c.requires.other))

-- a row with the sign of its partner
by_sign : (p : Pair) (t : ℕ) {plus minus : Row} → plus ≡ row_about p t → minus ≡ row_about p (t + 2) → (s : ℕ) → s < 2 → cond (eqb s 0) plus minus ≡ row_about p (t + 2 * s)
by_sign p t e f zero l = let g : t ≡ t + 2 * 0 = omega arith in e ∙ ap (row_about p) g
by_sign p t e f (suc zero) l = f
by_sign p t e f (suc (suc s)) l = absurd (omega arith)

pub returns : goal.returns
returns c =
    let a = c.args.axis in
    let p = c.args.pair.now in
    let x = number_of p.other.n in
    let plus = c.turned4-plus.ensures in
    let minus = c.neg4-minus.ensures ∙ ap (λ (y : List ℤ). list_of (numbers.neg (number_of y))) plus ∙ ap list_of (opposite x a.turns a.in_range.1) in
    let m = mask a.flips a.signs a.turns in
    let signed = λ (r : ℕ). bit_and a.signs (bit_xor r a.flips) in
    let row : (r : ℕ) → cond (eqb (ones (signed r) % 2) 0) (record { own = p.own.n; other = c.turned4-plus.result }) (record { own = p.own.n; other = c.neg4-minus.result }) ≡ row_about p (turns_in m r) =
    λ r.
    by_sign p a.turns (λ i. record { own = p.own.n; other = plus i }) (λ i. record { own = p.own.n; other = minus i }) (ones (signed r) % 2) (mod-lt (ones (signed r)) (omega arith))
    ∙ ap (λ (s : ℕ). row_about p (a.turns + 2 * s)) (ones_masked a.signs (bit_xor r a.flips) a.in_range.0) in
    λ i. record { row = λ r. row r i; exponent = p.own.e }
