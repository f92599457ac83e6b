-- `share_matrix` meets its contract.
use mathlib.Core.Path.{ap, ◌∙◌}
use Prim.Native.Nat.{ℕ, ◌+◌, ◌*◌}
use native.Mathlib.Omega.{arith}
use lib.ListN.{set}
use lib.IntN.{ℤ, pos}
use mir.Syntax.{w64}
use mir.Val.{to_z, of_z}
use Rattle.algebra.proofs.Signed.{back}
use Rattle.exact.specs.Exact.{lowest}
use Rattle.share.specs.Share.{number_in}
use Rattle.rows.proofs.Held.{shared_sets}
use Rattle.branches.proofs.bank.share_matrix.Goals as goal

pub returns : goal.returns
returns c =
    let a = c.args in
    let s = c.share_numbers-e in
    let written = set s.new.s (a.at + a.n * 4) in
    shared_sets a.work.now a.at a.n (λ (k : ℕ). lowest (number_in a.work.now (a.at + k * 4)) a.e) s.ensures.numerators
    (ap (λ (z : ℤ). written (to_z w64 (of_z w64 z))) c.from.ensures ∙ ap written (back (pos s.result) (omega (arith, s.type_inv)) ∙ ap pos s.ensures.exponent))
