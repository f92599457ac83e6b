-- `rows::apart` meets its contract.
use mathlib.Core.Path.{◌∙◌}
use mathlib.Core.Bool.{◌&&◌}
use Prim.Native.Nat.{ℕ, ◌+◌, ◌%◌, ◌^◌}
use lib.Bits.{bit_xor}
use lib.ListN.{get_or}
use lib.IntN.{pos}
use mir.Syntax.{w64}
use mir.Val.{SFits, of_z}
use Rattle.std.proofs.Common.{rules}
use Rattle.gather.proofs.Laws.{xor_words}
use Rattle.form_judge.proofs.Gathered.{bits-abs}
use Rattle.form_judge.proofs.rows.apart.Goals as goal

pub returns : goal.returns
returns c =
    let x = λ (i : ℕ). get_or c.args.x i (pos 0) in
    let y = λ (i : ℕ). get_or c.args.y i (pos 0) in
    let x0 : SFits w64 (x 0) = search rules in
    let x1 : SFits w64 (x 1) = search rules in
    let y0 : SFits w64 (y 0) = search rules in
    let y1 : SFits w64 (y 1) = search rules in
    let same = λ (i : ℕ) (f : SFits w64 (x i)) (g : SFits w64 (y i)). bits-abs (bit_xor (of_z w64 (x i)) (of_z w64 (y i))) ∙ xor_words (x i) (y i) f g in
    let sum = λ (i : ℕ). bits-abs ((of_z w64 (x i) + of_z w64 (y i)) % 2 ^ 64) in
    λ i. ((same 0 x0 y0 i && same 1 x1 y1 i) && sum 2 i) && sum 3 i
