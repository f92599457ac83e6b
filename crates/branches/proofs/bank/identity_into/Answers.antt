-- `identity_into` meets its contract.
use mathlib.Core.Path.{◌≡◌, refl, ap, ◌∙◌}
use mathlib.Core.List.{[], ◌∷◌}
use Prim.Native.Nat.{ℕ, ◌+◌, ◌*◌}
use native.Mathlib.Omega.{arith}
use lib.ListN.{set}
use lib.IntN.{pos}
use Rattle.algebra.specs.Words.{fill_words}
use Rattle.algebra.proofs.Blocks.{begin, again, done}
use Rattle.branches.proofs.Identity.{identity_written}
use Rattle.branches.proofs.bank.identity_into.Goals as goal

pub loop-r-init : goal.loop-r-init
loop-r-init c = begin (λ i. omega arith)

pub loop-r-preserved : goal.loop-r-preserved
loop-r-preserved c =
    let l = c.loop-r in
    let place : c.args.at + (l.r * c.args.d + l.r) * 4 ≡ c.args.at + l.r * ((c.args.d + 1) * 4) = omega arith in
    again l.invariant {ws = pos 1 ∷ []} c.loop-r-test.true (ap (λ (w : ℕ). set l.work w (pos 1)) place) refl

pub returns : goal.returns
returns c =
    let a = c.args in
    identity_written a.d a.work.now a.at c.requires.1 (c.clear.ensures ∙ ap (λ (n : ℕ). fill_words a.work.now a.at n (λ (i : ℕ). pos 0)) c.matrix_size.ensures) (done c.loop-r.invariant c.loop-r-test.false)
