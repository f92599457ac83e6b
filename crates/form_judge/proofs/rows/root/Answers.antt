-- `rows::root` meets its contract.
use mathlib.Core.Path.{◌≡◌, refl, ◌∙◌}
use mathlib.Core.Bool.{Bool, true, false, not, ◌&&◌}
use Prim.Native.Nat.{ℕ}
use lib.ListN.{get_or}
use lib.IntN.{pos}
use mir.Syntax.{w64}
use mir.Val.{SFits}
use mir.Facts.{Fits-of_z}
use Rattle.std.proofs.Common.{rules}
use Rattle.channel.proofs.Words.{eq_small}
use Rattle.form_judge.proofs.Gathered.{either}
use Rattle.form_judge.proofs.rows.root.Goals as goal

twice : (b : Bool) → b ≡ not (not b)
twice true = refl
twice false = refl

pub returns : goal.returns
returns c =
    let x = λ (i : ℕ). get_or c.args.x i (pos 0) in
    let x1 : SFits w64 (x 1) = search rules in
    let x3 : SFits w64 (x 3) = search rules in
    either (Fits-of_z x1).fits (Fits-of_z x3).fits ∙ (λ i. eq_small 0 tt (x 1) x1 i && eq_small 0 tt (x 3) x3 i) ∙ twice _
