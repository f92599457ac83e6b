-- R[√d] is a commutative ring, and conjugation respects its operations; ℤ[√2] and ℤ[√2, i].
use mathlib.Core.Path.{◌≡◌, refl, sym, ◌∙◌, ap, ap₂}
use mathlib.Core.List.{List, [], ◌∷◌}
use lib.IntN.{pos, negsuc}
use Rattle.algebra.specs.Ops.{Ops}
use Rattle.algebra.specs.Quadratic.{Pair, pair, quadratic, conjugate}
use Rattle.algebra.proofs.Semi.{zero-mul}
use Rattle.algebra.proofs.Ring.{CommRing, ℤR, semi, add-zero, mul_zero, neg_zero, neg_neg, neg_add, neg_mul, mul_neg, neg_both}
use Rattle.algebra.proofs.Solver.{Expr, var, expr_ops, eqn}

-- three pairs of variables, and the number under the root
abbrev X : Pair Expr
X = pair (var 0) (var 1)

abbrev Y : Pair Expr
Y = pair (var 2) (var 3)

abbrev Z : Pair Expr
Z = pair (var 4) (var 5)

abbrev E : Ops (Pair Expr)
E = quadratic expr_ops (var 6)

module _ (𝓚 : CommRing) (d : 𝓚.K) where
  open 𝓚 use {K, add_assoc, add_comm, zero-add, add_neg, one-mul, int_zero, int_one, int_add, int_mul, int_neg}
  open 𝓚.ops use {𝟘, 𝟙, ◌⊕◌ as add, ◌⊗◌ as mul, neg, int}

  abbrev Q : Ops (Pair K)
  Q = quadratic 𝓚.ops d

  abbrev vals : Pair K → Pair K → Pair K → List K
  vals x y z = x.re ∷ x.im ∷ y.re ∷ y.im ∷ z.re ∷ z.im ∷ d ∷ []

  -- a number of the ring below times a pair
  pub scale : (a : K) (x : Pair K) → Q.◌⊗◌ (pair a 𝟘) x ≡ pair (mul a x.re) (mul a x.im)
  scale a x = ap₂ pair
      (ap (λ (t : K). add (mul a x.re) t) (ap (λ (t : K). mul d t) (zero-mul (semi 𝓚) x.im) ∙ mul_zero 𝓚 d) ∙ add-zero 𝓚 (mul a x.re))
      (ap (λ (t : K). add (mul a x.im) t) (zero-mul (semi 𝓚) x.re) ∙ add-zero 𝓚 (mul a x.im))

  abbrev pub quad : CommRing
  quad = record {
    K = Pair K;
    ops = Q;
    add_assoc = λ x y z. ap₂ pair (add_assoc x.re y.re z.re) (add_assoc x.im y.im z.im);
    add_comm = λ x y. ap₂ pair (add_comm x.re y.re) (add_comm x.im y.im);
    zero-add = λ x. ap₂ pair (zero-add x.re) (zero-add x.im);
    add_neg = λ x. ap₂ pair (add_neg x.re) (add_neg x.im);
    mul_assoc = λ x y z. ap₂ pair
        (eqn 𝓚 (vals x y z) (E.◌⊗◌ (E.◌⊗◌ X Y) Z).re (E.◌⊗◌ X (E.◌⊗◌ Y Z)).re tt)
        (eqn 𝓚 (vals x y z) (E.◌⊗◌ (E.◌⊗◌ X Y) Z).im (E.◌⊗◌ X (E.◌⊗◌ Y Z)).im tt);
    mul_comm = λ x y. ap₂ pair
        (eqn 𝓚 (vals x y x) (E.◌⊗◌ X Y).re (E.◌⊗◌ Y X).re tt)
        (eqn 𝓚 (vals x y x) (E.◌⊗◌ X Y).im (E.◌⊗◌ Y X).im tt);
    one-mul = λ x. scale 𝟙 x ∙ ap₂ pair (one-mul x.re) (one-mul x.im);
    mul-add = λ x y z. ap₂ pair
        (eqn 𝓚 (vals x y z) (E.◌⊗◌ X (E.◌⊕◌ Y Z)).re (E.◌⊕◌ (E.◌⊗◌ X Y) (E.◌⊗◌ X Z)).re tt)
        (eqn 𝓚 (vals x y z) (E.◌⊗◌ X (E.◌⊕◌ Y Z)).im (E.◌⊕◌ (E.◌⊗◌ X Y) (E.◌⊗◌ X Z)).im tt);
    int_zero = ap₂ pair int_zero refl;
    int_one = ap₂ pair int_one refl;
    int_add = λ a b. ap₂ pair (int_add a b) (sym (zero-add 𝟘));
    int_mul = λ a b. ap₂ pair (int_mul a b) (sym (mul_zero 𝓚 (int a))) ∙ sym (scale (int a) (pair (int b) 𝟘));
    int_neg = λ a. ap₂ pair (int_neg a) (sym (neg_zero 𝓚));
  }

  abbrev bar : Pair K → Pair K
  bar = conjugate 𝓚.ops

  pub conj_add : (x y : Pair K) → bar (Q.◌⊕◌ x y) ≡ Q.◌⊕◌ (bar x) (bar y)
  conj_add x y = ap (pair (add x.re y.re)) (neg_add 𝓚 x.im y.im)

  pub conj_mul : (x y : Pair K) → bar (Q.◌⊗◌ x y) ≡ Q.◌⊗◌ (bar x) (bar y)
  conj_mul x y = ap₂ pair
      (ap (λ (z : K). add (mul x.re y.re) (mul d z)) (sym (neg_both 𝓚 x.im y.im)))
      (neg_add 𝓚 (mul x.re y.im) (mul x.im y.re) ∙ ap₂ add (sym (mul_neg 𝓚 x.re y.im)) (sym (neg_mul 𝓚 x.im y.re)))

  pub conj-conj : (x : Pair K) → bar (bar x) ≡ x
  conj-conj x = ap (pair x.re) (neg_neg 𝓚 x.im)

  pub conj-one : bar Q.𝟙 ≡ Q.𝟙
  conj-one = ap (pair 𝟙) (neg_zero 𝓚)

abbrev pub ℤ√2 : CommRing
ℤ√2 = quad ℤR (pos 2)

abbrev pub ℤ√2i : CommRing
ℤ√2i = quad ℤ√2 (ℤ√2.ops.int (negsuc 0))
