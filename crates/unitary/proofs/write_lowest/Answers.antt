-- `write_lowest` meets its contract.
use mathlib.Core.Path.{sym, ap, ◌∙◌}
use Prim.Native.Nat.{ℕ, ◌+◌, ◌*◌}
use native.Mathlib.Nat.{le_refl, zero-add}
use native.Mathlib.Omega.{arith}
use lib.ListN.{get_or}
use lib.Seq.{sets}
use lib.IntN.{pos, nat_abs}
use Rattle.algebra.proofs.Blocks.{begin, again}
use Rattle.algebra.proofs.Signed.{word_is, back}
use Rattle.exact.specs.Exact.{lowest, number_of, narrow_exponent}
use Rattle.scalar.specs.declared.Scalar.{Scalar}
use Rattle.scalar.specs.Calls.{value}
use Rattle.cells.specs.Cells.{cell_size, cell_words}
use Rattle.unitary.proofs.write_lowest.Goals as goal

pub loop-i-init : goal.loop-i-init
loop-i-init c = begin (λ k. le_refl cell_size)

pub loop-i-preserved : goal.loop-i-preserved
loop-i-preserved c =
    let a = c.args in
    let z = get_or a.work.now (a.at + a.n * 4) (pos 0) in
    let e = back z (omega (arith, (word_is narrow_exponent z c.requires.0.exponent).1)) in
    let x = cell_words (value c.reduce-x.result) in
    again c.loop-i.invariant c.loop-i-test.true (c.write_cell.ensures ∙ ap (λ (k : ℕ). sets c.loop-i.res k x) (sym (zero-add (c.loop-i.i * cell_size))))
    (ap (λ (x : Scalar). cell_words (value x)) c.reduce-x.ensures ∙ (λ i. cell_words (lowest (number_of (c.numerators_at.ensures i)) (nat_abs (e i)))))
