-- `matrix::global_phase::equivalent_up_to_global_phase` meets its contract.
use mathlib.Core.Path.{◌≡◌, refl, sym, ap, ◌∙◌}
use mathlib.Core.Bool.{Bool, true, ◌&&◌}
use Prim.Native.Nat.{ℕ}
use native.Mathlib.Omega.{arith}
use borrow.Author.Tests.{eq-eqb, ne_eqb}
use Rattle.algebra.proofs.Tests.{and_split}
use Rattle.matrix.specs.Phase.{well_formed_matrix, narrow_matrix, phase_answer}
use Rattle.matrix.proofs.Questions.{square_small, Formed, formed, formed_operands, replied, agreeing}
use Rattle.matrix.proofs.global_phase.equivalent_up_to_global_phase.Lts as lts
use Rattle.matrix.proofs.global_phase.equivalent_up_to_global_phase.Reads as reads
use Rattle.matrix.proofs.global_phase.equivalent_up_to_global_phase.Tie as tie
use Rattle.matrix.proofs.global_phase.equivalent_up_to_global_phase.Goals as goal

abbrev Start : Type 0
Start = lts.Start tie.the-claims reads.Pre reads.Post

abbrev After-is_matrix-2 : Type 0
After-is_matrix-2 = lts.After-is_matrix2 tie.the-claims reads.Pre reads.Post

abbrev Else-not-formed : Type 0
Else-not-formed = lts.Else1 tie.the-claims reads.Pre reads.Post

abbrev Else-left_dim-right_dim : Type 0
Else-left_dim-right_dim = lts.Else2 tie.the-claims reads.Pre reads.Post

abbrev After-all_narrow-2 : Type 0
After-all_narrow-2 = lts.After-all_narrow2 tie.the-claims reads.Pre reads.Post

abbrev Else-not-narrow : Type 0
Else-not-narrow = lts.Else3 tie.the-claims reads.Pre reads.Post

-- the questions of the left matrix, and of the right one at a dim
module _ (s : Start) where
  abbrev left_formed : Bool
  left_formed = well_formed_matrix s.args.left_dim s.args.left.now

  abbrev right_formed : ℕ → Bool
  right_formed k = well_formed_matrix k s.args.right.now

  abbrev left_narrow : Bool
  left_narrow = narrow_matrix s.args.left_dim s.args.left.now

  abbrev right_narrow : Bool
  right_narrow = narrow_matrix s.args.left_dim s.args.right.now

-- what the tests before each place say
both_is : (t : After-is_matrix-2) → (t.is_matrix.result && t.is_matrix-2.result) ≡ (left_formed t.before.before && right_formed t.before.before t.args.right_dim)
both_is t = λ i. t.is_matrix.ensures i && t.is_matrix-2.ensures i

passed : (t : Else-not-formed) → (left_formed t.before.before.before && right_formed t.before.before.before t.args.right_dim) ≡ true
passed t = sym (both_is t.before) ∙ t.if-not-formed.false

module _ (e : Else-left_dim-right_dim) where
  abbrev start : Start
  start = e.before.before.before.before

  parts : (left_formed start ≡ true) × (right_formed start start.args.right_dim ≡ true)
  parts = and_split (left_formed start) (right_formed start start.args.right_dim) (passed e.before)

  right_is : right_formed start start.args.left_dim ≡ true
  right_is = ap (right_formed start) e.if-left_dim-right_dim.false ∙ parts.1

  left-formed : Formed start.args.left_dim start.args.left.now
  left-formed = formed parts.0

  right-formed : Formed start.args.left_dim start.args.right.now
  right-formed = formed right_is

  passed_same : (left_formed start && right_formed start start.args.left_dim) ≡ true
  passed_same = λ i. parts.0 i && right_is i

narrow-is : (w : After-all_narrow-2) → (w.all_narrow.result && w.all_narrow-2.result) ≡ (left_narrow (start w.before.before) && right_narrow (start w.before.before))
narrow-is w = λ i. w.all_narrow.ensures i && w.all_narrow-2.ensures i

narrow_both : (t : Else-not-narrow) → (left_narrow (start t.before.before.before) ≡ true) × (right_narrow (start t.before.before.before) ≡ true)
narrow_both t = let s = start t.before.before.before in and_split (left_narrow s) (right_narrow s) (sym (narrow-is t.before) ∙ t.if-not-narrow.false)

pub returns-then-left_dim-right_dim : goal.returns-then-left_dim-right_dim
returns-then-left_dim-right_dim c =
    let s = c.args in
    sym (replied s.left_dim s.left.now s.right_dim s.right.now (passed c.before) (ne_eqb s.left_dim s.right_dim c.if-left_dim-right_dim.true) refl)

pub overflow_mul-n : goal.overflow_mul-n
overflow_mul-n c = let s = c.args in omega (arith, square_small s.left_dim (left-formed c).dim)

pub all_narrow-requires : goal.all_narrow-requires
all_narrow-requires c = (omega (arith, (left-formed c).long), (left-formed c).entries)

pub all_narrow-requires-2 : goal.all_narrow-requires-2
all_narrow-requires-2 c = (omega (arith, (right-formed c.before).long), (right-formed c.before).entries)

pub returns-then-not-narrow : goal.returns-then-not-narrow
returns-then-not-narrow c =
    let s = c.args in
    sym (ap (λ (k : ℕ). phase_answer s.left_dim s.left.now k s.right.now) (sym c.if-left_dim-right_dim.false)
    ∙ replied s.left_dim s.left.now s.left_dim s.right.now (passed_same c.before.before.before) (eq-eqb s.left_dim s.left_dim refl) (sym (narrow-is c.before) ∙ c.if-not-narrow.true))

pub invariant_of-pair : goal.invariant_of-pair
invariant_of-pair c =
    let p = narrow_both c in record { left_operands = formed_operands (left-formed c.before.before.before) p.0; right_operands = formed_operands (right-formed c.before.before.before) p.1 }

pub returns : goal.returns
returns c =
    let s = c.args in
    agreeing c.phase_of.ensures c.in_phase.ensures ∙ sym (ap (λ (k : ℕ). phase_answer s.left_dim s.left.now k s.right.now) (sym c.if-left_dim-right_dim.false)
    ∙ replied s.left_dim s.left.now s.left_dim s.right.now (passed_same c.before.before.before.before.before.before) (eq-eqb s.left_dim s.left_dim refl) (sym (narrow-is c.before.before.before.before) ∙ c.if-not-narrow.false))
