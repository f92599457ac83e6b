-- The operands of the rule: conjugates and products of them, and the tests as code makes them.
use Rattle.std.specs.Prelude.{Ok}
use mathlib.Core.Path.{◌≡◌, refl, sym, ◌∙◌, subst}
use mathlib.Core.Bool.{Bool, true, false, ◌&&◌, ◌||◌}
use mathlib.Core.List.{List}
use Prim.Native.Nat.{ℕ, ◌+◌, ◌*◌, ◌≤◌, ◌<◌}
use native.Mathlib.Omega.{arith}
use lib.Dec.{leb}
use lib.ListN.{length}
use lib.IntN.{ℤ, nat_abs}
use Rattle.algebra.specs.Lists.{all_below}
use Rattle.algebra.proofs.Tests.{and_split, all-at}
use Rattle.algebra.proofs.Parts.{abs_neg}
use Rattle.exact.specs.Exact.{Exact, conj, within, max_numerator, max_exponent, narrow_numerator, narrow_exponent, well_formed, narrow}
use Rattle.exact.proofs.Exact.{conj-form}
use Rattle.scalar.specs.declared.Scalar.{Scalar}
use Rattle.scalar.specs.Calls.{Answer, value, scalar_of, mul_answer, conj_answer}
use Rattle.scalar.proofs.Questions.{asked-yes, mul-yes}
use Rattle.cells.specs.Cells.{exponent_at, well_formed_at, cell_size}
use Rattle.matrix.specs.Phase.{◌·◌, entry_of}
use Rattle.matrix.specs.Inner.Operands.{Operand, Operands}

-- ---- a conjugate is an operand where the number is
conj-within : (m : ℕ) (x : Exact) → within m (conj x).num ≡ within m x.num
conj-within m x = λ i. ((leb (nat_abs x.num.re.re) m && leb (nat_abs x.num.re.im) m) && leb (abs_neg x.num.im.re i) m) && leb (abs_neg x.num.im.im i) m

pub conj_operand : {x : Exact} → Operand x → Operand (conj x)
conj_operand {x} o =
    record {
      form = (λ i. (conj-within max_numerator x i && leb x.exp max_exponent) && conj-form x i) ∙ o.form;
      small = (λ i. conj-within narrow_numerator x i && leb x.exp narrow_exponent) ∙ o.small;
    }

-- ---- the calls accept operands
pub mul_value : {x y : Exact} → Operand x → Operand y → mul_answer x y ≡ Ok (scalar_of (x · y))
mul_value {x} {y} p q = mul-yes x y (λ i. p.form i && q.form i) (λ i. p.small i && q.small i)

pub conj_value : {x : Exact} → Operand x → conj_answer x ≡ Ok (scalar_of (conj x))
conj_value {x} p = asked-yes x _ p.form

-- what a conjugate that was given is
pub conj_is : (x : Scalar) {y : Scalar} {r : Answer} → Operand (value x) → r ≡ conj_answer (value x) → r ≡ Ok y → y ≡ scalar_of (conj (value x))
conj_is x {y} o e f = let q : Ok y ≡ Ok (scalar_of (conj (value x))) = sym f ∙ e ∙ conj_value o in cc

-- ---- entries that are operands
module _ {l : List ℤ} {n i : ℕ} (o : Operands l n) (h : i < n) where
  -- one can be read
  pub readable : (i * cell_size + cell_size ≤ length l) × (exponent_at l (i * cell_size) ≡ true)
  readable = (omega (arith, o.room), o.exponent i h)

  -- what was read is one
  pub entry_operand : {x : Scalar} → x ≡ scalar_of (entry_of l i) → Operand (value x)
  entry_operand e = subst (λ (x : Scalar). Operand (value x)) (sym e) (o.operand i h)

-- ---- entries that passed the questions
pub operands : (l : List ℤ) (n : ℕ) → n * cell_size ≤ length l → all_below n (λ (i : ℕ). well_formed_at l (i * cell_size)) ≡ true → all_below n (λ (i : ℕ). narrow (entry_of l i)) ≡ true → Operands l n
operands l n h f g =
    record {
      room = h;
      exponent = λ i p. (both i p).0;
      operand = λ i p. record { form = (both i p).1; small = all-at n (λ (i : ℕ). narrow (entry_of l i)) g i p };
    }
  where
    both : (i : ℕ) → i < n → (exponent_at l (i * cell_size) ≡ true) × (well_formed (entry_of l i) ≡ true)
    both i p = and_split (exponent_at l (i * cell_size)) (well_formed (entry_of l i)) (all-at n (λ (i : ℕ). well_formed_at l (i * cell_size)) f i p)

-- ---- tests
pub or-false : (b : Bool) → b ≡ (b || false)
or-false true = refl
or-false false = refl
