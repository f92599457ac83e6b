-- Equal numbers: the test is that of equality.
use mathlib.Core.Path.{◌≡◌, refl, sym, ap, ◌∙◌}
use mathlib.Core.Bool.{Bool, true, false, ◌&&◌}
use lib.Dec.{eqb}
use borrow.Author.Tests.{eqb-true, eq-eqb}
use Rattle.algebra.specs.Dyadic.{frac}
use Rattle.algebra.proofs.Tests.{and_split}
use Rattle.algebra.proofs.Signed.{eqℤ-true, eqℤ-refl}
use Rattle.exact.specs.Exact.{Exact, number, equal}

pub equal-true : (x y : Exact) → equal x y ≡ true → x ≡ y
equal-true x y e =
    let a = and_split _ (eqb x.exp y.exp) e in
    let b = and_split _ _ a.0 in
    let c = and_split _ _ b.0 in
    let d = and_split _ _ b.1 in
    let p0 = eqℤ-true x.num.re.re y.num.re.re c.0 in
    let p1 = eqℤ-true x.num.re.im y.num.re.im c.1 in
    let p2 = eqℤ-true x.num.im.re y.num.im.re d.0 in
    let p3 = eqℤ-true x.num.im.im y.num.im.im d.1 in
    λ i. frac (number (p0 i) (p1 i) (p2 i) (p3 i)) (eqb-true x.exp y.exp a.1 i)

pub equal_of : (x y : Exact) → x ≡ y → equal x y ≡ true
equal_of x y e = ap (equal x) (sym e) ∙ (λ i. ((eqℤ-refl x.num.re.re i && eqℤ-refl x.num.re.im i) && (eqℤ-refl x.num.im.re i && eqℤ-refl x.num.im.im i)) && eq-eqb x.exp x.exp refl i)

pub equal-swap : (x y : Exact) → equal x y ≡ equal y x
equal-swap x y = go (equal x y) refl (equal y x) refl
  where
    go : (a : Bool) → equal x y ≡ a → (b : Bool) → equal y x ≡ b → equal x y ≡ equal y x
    go true e b f = e ∙ sym (equal_of y x (sym (equal-true x y e)))
    go false e true f = equal_of x y (sym (equal-true y x f)) ∙ sym f
    go false e false f = e ∙ sym f
