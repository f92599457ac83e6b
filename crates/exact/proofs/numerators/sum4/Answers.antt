-- `sum4` meets its contract.
use mathlib.Core.Path.{◌≡◌}
use mathlib.Core.List.{[], ◌∷◌}
use Prim.Native.Nat.{◌≤◌}
use lib.IntN.{ℤ, nat_abs, ◌+ℤ◌}
use mir.Syntax.{w64}
use mir.Val.{to_z, of_z}
use Rattle.algebra.proofs.Solver.{var, ◌⊞◌}
use Rattle.algebra.proofs.Machine.{machine_is}
use Rattle.exact.specs.Exact.{max_numerator, number_of}
use Rattle.exact.specs.Inner.Sizes.{room_numerator}
use Rattle.exact.proofs.numerators.sum4.Goals as goal

-- one sum
is : (x y : ℤ) → nat_abs x ≤ room_numerator → nat_abs y ≤ max_numerator → to_z w64 (of_z w64 (to_z w64 (of_z w64 x) +ℤ to_z w64 (of_z w64 y))) ≡ x +ℤ y
is x y h k = machine_is w64 (x ∷ y ∷ []) (room_numerator ∷ max_numerator ∷ []) (h, (k, tt)) (var 0 ⊞ var 1) tt

pub returns : goal.returns
returns c =
    let x = number_of c.args.x in
    let y = number_of c.args.y in
    let p0 = is x.re.re y.re.re c.requires.0.w0 c.requires.1.w0 in
    let p1 = is x.re.im y.re.im c.requires.0.w1 c.requires.1.w1 in
    let p2 = is x.im.re y.im.re c.requires.0.w2 c.requires.1.w2 in
    let p3 = is x.im.im y.im.im c.requires.0.w3 c.requires.1.w3 in
    λ i. p0 i ∷ p1 i ∷ p2 i ∷ p3 i ∷ []
