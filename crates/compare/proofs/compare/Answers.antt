-- `compare::compare` meets its contract.
use Rattle.std.specs.Prelude.{Option, Ok}
use Rattle.std.specs.Result.{result_and}
use mathlib.Core.Path.{◌≡◌, sym, ap, ◌∙◌}
use mathlib.Core.Bool.{Bool, true, cond, ◌&&◌}
use mathlib.Core.List.{List}
use Prim.Native.Nat.{◌*◌}
use native.Mathlib.Omega.{arith}
use lib.Dec.{eqb}
use lib.IntN.{ℤ}
use borrow.Author.Tests.{eqb-true}
use Rattle.algebra.proofs.Tests.{and_split}
use Rattle.channel.specs.declared.Shape.{Shape}
use Rattle.channel.specs.Layout.{side, dim_at, bits_at, read_back}
use Rattle.channel.specs.Inner.Shapes.{shape_of}
use Rattle.channel.proofs.Words.{square_small}
use Rattle.channel.proofs.Judging.{Passed, passed_is}
use Rattle.compare.specs.declared.Comparison.TheVariants.{Dimensions}
use Rattle.compare.specs.declared.Difference.{Difference}
use Rattle.compare.specs.Compare.{first, found, merge, compare_of}
use Rattle.compare.proofs.compare.Goals as goal

pub overflow_mul-g : goal.overflow_mul-g
overflow_mul-g c = omega (arith, square_small _ (passed_is c.args.left.now c.in_ok-g.ensures).narrow)

-- two channels that are accepted
module _ (l r : List ℤ) {g h : Shape} (p : Ok g ≡ shape_of l) (q : Ok h ≡ shape_of r) where
  a : Passed l g
  a = passed_is l p

  b : Passed r h
  b = passed_is r q

  abbrev both : Option Difference
  both = first (side (dim_at l)) (merge (read_back l) (read_back r))

  judged : {t : Bool} → (eqb g.dim h.dim && eqb g.bits h.bits) ≡ t → Ok (cond t (found both) Dimensions) ≡ compare_of l r
  judged e = sym (λ i. result_and (a.verdict i) (result_and (b.verdict i) (Ok (cond ((sym same ∙ e) i) (found both) Dimensions))))
    where
      same : (eqb g.dim h.dim && eqb g.bits h.bits) ≡ (eqb (dim_at l) (dim_at r) && eqb (bits_at l) (bits_at r))
      same = λ i. eqb (a.is i).dim (b.is i).dim && eqb (a.is i).bits (b.is i).bits

  told : {o : Option Difference} → o ≡ first (g.dim * g.dim) (merge (read_back l) (read_back r)) → (eqb g.dim h.dim && eqb g.bits h.bits) ≡ true → Ok (found o) ≡ compare_of l r
  told f e = ap (λ (o : Option Difference). Ok (found o)) (f ∙ ap (λ (s : Shape). first (s.dim * s.dim) (merge (read_back l) (read_back r))) a.is) ∙ judged e

pub compare_chains-requires : goal.compare_chains-requires
compare_chains-requires c =
    let a = passed_is c.args.left.now c.in_ok-g.ensures in
    let b = passed_is c.args.right.now c.in_ok-h.ensures in
    let d = eqb-true _ _ (and_split (eqb c.in_ok-g.g.dim c.in_ok-h.h.dim) _ c.if-not-g-h.false).0 in
    record {
      left = a.right;
      right = b.right;
      left_count = ap (λ (s : Shape). s.count) a.is;
      right_count = ap (λ (s : Shape). s.count) b.is;
      left_side = ap (λ (s : Shape). s.dim * s.dim) a.is;
      right_side = ap side d ∙ ap (λ (s : Shape). s.dim * s.dim) b.is;
    }

pub returns-then-not-g-h : goal.returns-then-not-g-h
returns-then-not-g-h c = judged c.args.left.now c.args.right.now c.in_ok-g.ensures c.in_ok-h.ensures c.if-not-g-h.true

pub returns-in-Some : goal.returns-in-Some
returns-in-Some c = told c.args.left.now c.args.right.now c.in_ok-g.ensures c.in_ok-h.ensures c.in-Some.ensures c.if-not-g-h.false

pub returns-in-None : goal.returns-in-None
returns-in-None c = told c.args.left.now c.args.right.now c.in_ok-g.ensures c.in_ok-h.ensures c.in-None.ensures c.if-not-g-h.false
