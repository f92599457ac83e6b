-- Each entry is asked.
use mathlib.Core.Path.{refl, ◌∙◌}
use mathlib.Core.Bool.{Bool}
use Prim.Native.Nat.{ℕ, ◌*◌}
use native.Mathlib.Omega.{arith}
use Rattle.std.proofs.Common.{rules}
use Rattle.std.proofs.lemmas.Iterator.{YieldsList-from_range, serves_from_Range}
use Rattle.std.proofs.lemmas.Iterator.Search.{all_from_yields_List}
use Rattle.algebra.proofs.Tests.{and_split, all-at}
use Rattle.exact.specs.Exact.{well_formed, narrow}
use Rattle.cells.specs.Cells.{exponent_at, cell_size}
use Rattle.matrix.specs.Phase.{entry_of}
use Rattle.matrix.proofs.Asked.{all_asked}
use Rattle.matrix.proofs.global_phase.all_narrow.Goals as goal

pub all-requires-clause-callable : goal.all-requires-clause-callable
all-requires-clause-callable c =
    let a = c.args in
    serves_from_Range (λ x q k. search rules) (λ i _ l.
    let h = (and_split (exponent_at a.s.now (i * cell_size)) (well_formed (entry_of a.s.now i)) (all-at a.n _ c.requires.1 i l)).0 in
    search (rules, h))

pub returns : goal.returns
returns c =
    let a = c.args in
    let test : ℕ → Bool = λ i. narrow (entry_of a.s.now i) in
    all_from_yields_List test _ _ _ c.all.ensures.ran (YieldsList-from_range 0 a.n a.n refl (omega arith)) (λ x b q k. search rules) ∙ all_asked test a.n
