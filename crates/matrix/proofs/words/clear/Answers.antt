-- `matrix::words::clear` meets its contract: n zeros are written as one run.
use mathlib.Core.Path.{◌≡◌, refl, sym, ap, ◌∙◌}
use mathlib.Core.List.{List, [], ◌∷◌, ◌++◌}
use Prim.Native.Nat.{ℕ, zero, suc, ◌+◌}
use native.Mathlib.Numerals.{add-one}
use native.Mathlib.Omega.{arith}
use lib.ListN.{replicate, length-replicate}
use lib.IntN.{ℤ, pos}
use lib.Seq.{sets}
use Rattle.std.proofs.Common.{rules}
use Rattle.std.proofs.lemmas.List.{replicate_more}
use Rattle.algebra.specs.Words.{joined}
use Rattle.algebra.proofs.Blocks.{blocks-joined}
use Rattle.algebra.proofs.Copying.{copied_here}
use Rattle.matrix.proofs.words.clear.Goals as goal

zeros : (n : ℕ) → replicate n (pos 0) ≡ joined n (λ i. pos 0 ∷ [])
unfolding joined
zeros zero = refl
zeros (suc n) = ap (λ (k : ℕ). replicate k (pos 0)) (sym (add-one n)) ∙ sym (replicate_more n (pos 0)) ∙ ap (λ (l : List ℤ). l ++ pos 0 ∷ []) (zeros n)

pub returns : goal.returns
returns c =
    let a = c.args in
    copied_here a.s.now _ (replicate a.n (pos 0)) a.at (a.at + a.n) (search rules) (omega (arith, length-replicate a.n (pos 0))) c.requires
    ∙ ap (sets a.s.now a.at) (zeros a.n) ∙ sym (blocks-joined 1 (λ i. pos 0 ∷ []) (λ i. refl) a.s.now a.at a.n)
