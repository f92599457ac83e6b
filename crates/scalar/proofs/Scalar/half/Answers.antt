-- `Scalar::half` meets its contract: the numerators over the next power of two, reduced and checked.
use mathlib.Core.Path.{ap, sym, ◌∙◌}
use Prim.Native.Nat.{ℕ}
use native.Mathlib.Numerals.{add-one}
use Rattle.exact.specs.Exact.{lowest, half, number_of}
use Rattle.scalar.specs.Calls.{value, fitting, scalar_of}
use Rattle.scalar.specs.Inner.Fitting.{fitting_scalar}
use Rattle.scalar.proofs.Questions.{asked-yes}
use Rattle.scalar.proofs.Scalar.half.Goals as goal

pub returns : goal.returns
returns c =
    let s = c.args.self in
    c.checked.ensures
    ∙ ap fitting_scalar (c.reduce.ensures ∙ ap (λ (e : ℕ). scalar_of (lowest (number_of s.n) e)) (add-one s.e))
    ∙ sym (asked-yes (value s) (fitting (half (value s))) (sym c.is_well_formed.ensures ∙ c.if-not-is_well_formed.false))
