-- A rotation about an axis by eighths, of all branches of a bank, or of those where an earlier outcome was 1.
use Rattle.std.specs.Prelude.{Bool, true, cond, List, ℕ, ◌+◌, ◌*◌, ◌<◌, ◌≤◌, eqb, length, Option, Some, None, unwrap_or, ℤ, pos, negsuc, ◌+ℤ◌, ◌&&◌, IfSome}
use Rattle.algebra.specs.Words.{blocks}
use Rattle.exact.specs.Exact.{Number, number, numbers, is_zero, narrow_numerator}
use Rattle.exact.specs.Inner.Sizes.{Within}
use Rattle.share.specs.Share.{number_in}
use Rattle.gate.specs.Inner.Rows.{Form, entry_in}
use Rattle.branches.specs.Inner.Store.{no_bit}
use Rattle.branches.specs.Inner.Bank.{branch_size}
use Rattle.branches.specs.Inner.Step.{operator_number, step_words, StepInPlace}
use Rattle.pauli_nodes.specs.Inner.Masks.{Mask, mask}
use Rattle.pauli_program.specs.Operators.{turn_by}
use Rattle.pauli_steps.specs.declared.rows.Axis.{Axis}
use Rattle.pauli_steps.specs.Inner.Rows.{pair_of, rows_about}

-- a row of d narrow numbers at p, and narrow numbers whose multiples of it are added
abbrev pub Folding : List ℤ → Number → Number → ℕ → ℕ → Type 0
Folding l x y p d = Within narrow_numerator x × (Within narrow_numerator y × ((p + d * 4 ≤ length l) × ((c : ℕ) → c < d → Within narrow_numerator (number_in l (p + c * 4)))))

-- ---- the numbers of a rotation by an odd number of eighths, over four: 2 + w and 2 − w
-- the part of a number that is √2 times whole numbers
abbrev pub root_part : Number → Number
root_part z = number (pos 0) z.re.im (pos 0) z.im.im

-- 2 + w and 2 − w, where w is that part
abbrev pub more : Number → Number
more z = numbers.◌⊕◌ (numbers.int (pos 2)) (root_part z)

abbrev pub less : Number → Number
less z = numbers.◌⊕◌ (numbers.int (pos 2)) (numbers.neg (root_part z))

-- x is 2 + w, and y is 2 − w
abbrev pub are_apart : Number → Number → Bool
are_apart x y = is_zero (number (x.re.re +ℤ negsuc 1) x.im.re (y.re.re +ℤ negsuc 1) y.im.re) && is_zero (number (x.re.im +ℤ y.re.im) (x.im.im +ℤ y.im.im) (pos 0) (pos 0))

-- ---- an axis as a mask form
abbrev pub form_of : Axis → Mask
form_of a = mask a.flips a.signs a.turns

-- is a branch turned whose operator has the number v? Any is, or where an outcome is read, the one where that was 1
abbrev pub is_turned : Option ℕ → ℕ → Bool
is_turned None v = true
is_turned (Some shift) v = eqb v 1

-- operator v by its rows, by k eighths or by none
abbrev pub rotation_in : Mask → ℕ → Option ℕ → ℕ → Form
rotation_in m k reads v = rows_about m (pair_of (turn_by (cond (is_turned reads v) k 0)))

-- the number of branch j's operator: the bit of j from which an outcome is read
abbrev pub outcome_number : Option ℕ → ℕ → ℕ
outcome_number reads = operator_number (unwrap_or reads 0) 1

-- what it asks
pub record Rotating (l : List ℤ) (m : Mask) (k : ℕ) (reads : Option ℕ) (at d count : ℕ) : Type 0 where
  pub eighths : k < 8
  pub shift : IfSome reads (λ (s : ℕ). s < 64)
  pub step : StepInPlace l m.x (rotation_in m k reads) 1 at d count

-- `count` branches, each times its operator
abbrev pub rotated : List ℤ → Mask → ℕ → Option ℕ → ℕ → ℕ → ℕ → List ℤ
rotated l m k reads at d count = blocks (branch_size d) l at count (step_words l m.x (λ (v : ℕ). entry_in (rotation_in m k reads v)) (outcome_number reads) 1 at d no_bit)
