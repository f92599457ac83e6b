-- `are_apart` meets its contract: each difference and sum fits.
use mathlib.Core.Bool.{◌&&◌}
use mathlib.Core.Path.{ap, ◌∙◌}
use mathlib.Core.List.{[], ◌∷◌}
use lib.IntN.{pos}
use mir.Syntax.{w64}
use Rattle.algebra.proofs.Solver.{con, var, ◌⊞◌, ⊟}
use Rattle.algebra.proofs.Machine.{machine_is}
use Rattle.exact.specs.Exact.{number, number_of, is_zero, narrow_numerator}
use Rattle.exact.specs.Inner.Sizes.{room_numerator}
use Rattle.pauli_turns.proofs.sums.are_apart.Goals as goal

pub returns : goal.returns
returns c =
    let x = number_of c.args.x in
    let y = number_of c.args.y in
    let h = c.requires in
    let p0 = machine_is w64 (x.re.re ∷ []) (narrow_numerator ∷ []) (h.0.w0, tt) (var 0 ⊞ ⊟ (con (pos 2))) tt in
    let p1 = machine_is w64 (x.im.re ∷ []) (narrow_numerator ∷ []) (h.0.w2, tt) (var 0) tt in
    let p2 = machine_is w64 (y.re.re ∷ []) (room_numerator ∷ []) (h.1.w0, tt) (var 0 ⊞ ⊟ (con (pos 2))) tt in
    let p3 = machine_is w64 (y.im.re ∷ []) (room_numerator ∷ []) (h.1.w2, tt) (var 0) tt in
    let q0 = machine_is w64 (x.re.im ∷ y.re.im ∷ []) (narrow_numerator ∷ room_numerator ∷ []) (h.0.w1, (h.1.w1, tt)) (var 0 ⊞ var 1) tt in
    let q1 = machine_is w64 (x.im.im ∷ y.im.im ∷ []) (narrow_numerator ∷ room_numerator ∷ []) (h.0.w3, (h.1.w3, tt)) (var 0 ⊞ var 1) tt in
    let a = c.all_zero.ensures ∙ ap is_zero (λ i. number (p0 i) (p1 i) (p2 i) (p3 i)) in
    let b = c.all_zero-2.ensures ∙ ap is_zero (λ i. number (q0 i) (q1 i) (pos 0) (pos 0)) in
    λ i. a i && b i
