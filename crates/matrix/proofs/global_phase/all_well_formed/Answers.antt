-- Each entry is asked.
use mathlib.Core.Path.{refl, ◌∙◌}
use mathlib.Core.Bool.{Bool}
use Prim.Native.Nat.{ℕ, ◌*◌}
use native.Mathlib.Omega.{arith}
use Rattle.std.proofs.Common.{rules}
use Rattle.std.proofs.lemmas.Iterator.{YieldsList-from_range}
use Rattle.std.proofs.lemmas.Iterator.Search.{all_from_yields_List}
use Rattle.cells.specs.Cells.{well_formed_at, cell_size}
use Rattle.matrix.proofs.Asked.{all_asked}
use Rattle.matrix.proofs.global_phase.all_well_formed.Goals as goal

pub returns : goal.returns
returns c =
    let a = c.args in
    let test : ℕ → Bool = λ i. well_formed_at a.s.now (i * cell_size) in
    all_from_yields_List test _ _ _ c.all.ensures.ran (YieldsList-from_range 0 a.n a.n refl (omega arith)) (λ x b q k. search rules) ∙ all_asked test a.n
