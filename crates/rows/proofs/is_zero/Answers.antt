-- `is_zero` meets its contract.
use mathlib.Core.Path.{sym, ap, ◌∙◌}
use mathlib.Core.List.{List}
use Prim.Native.Nat.{ℕ, ◌+◌, ◌*◌}
use lib.IntN.{ℤ}
use Rattle.algebra.proofs.Tests.{all_no}
use Rattle.exact.specs.Exact.{is_zero, number_of}
use Rattle.share.specs.Share.{number_in}
use Rattle.rows.proofs.is_zero.Goals as goal

pub returns-then-not-all_zero : goal.returns-then-not-all_zero
returns-then-not-all_zero c =
    let a = c.args in
    sym (all_no a.n c.loop-i.i (λ (i : ℕ). is_zero (number_in a.s.now (a.at + i * 4))) c.loop-i-test.true
    (ap (λ (v : List ℤ). is_zero (number_of v)) (sym c.numerators_at.ensures) ∙ sym c.all_zero.ensures ∙ c.if-not-all_zero.true))
