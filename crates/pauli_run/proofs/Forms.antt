-- What operations are known for: small coefficients, entries in lowest form, and the words of a step.
use mathlib.Core.Path.{◌≡◌, refl, sym, ap, ◌∙◌, subst, fun_ext}
use mathlib.Core.Bool.{Bool, true, false, cond}
use mathlib.Core.List.{List}
use Prim.Native.Nat.{ℕ, suc, ◌+◌, ◌*◌, ◌/◌, ◌%◌, ◌^◌, ◌<◌, ◌≤◌}
use native.Mathlib.Omega.{arith}
use lib.Bits.{bit_xor}
use lib.Dec.{eqb}
use lib.ListN.{length}
use lib.IntN.{ℤ}
use Rattle.algebra.specs.Words.{blocks}
use Rattle.algebra.specs.Inner.Apart.{Apart}
use Rattle.exact.specs.Exact.{Exact, exact, numbers, half, is_lowest, omega as root}
use Rattle.exact.proofs.Exact.{lowest-form}
use Rattle.gate.specs.Operators.{one}
use Rattle.gate.specs.Inner.Rows.{Form, entry_in, Represents}
use Rattle.gate.proofs.Represented.{represented, sized}
use Rattle.branches.specs.Inner.Bank.{branch_size}
use Rattle.branches.specs.Inner.Step.{Step, StepInPlace, product_words, step_words}
use Rattle.branches.proofs.Products.{product_same}
use Rattle.pauli_nodes.specs.Operations.{Operation, rotate, rotate_if, measure, axis, splits}
use Rattle.pauli_nodes.specs.Inner.Masks.{Mask, ref_mask}
use Rattle.pauli_program.specs.Operators.{turn_by}
use Rattle.pauli_program.specs.Claims.{Eighths}
use Rattle.pauli_steps.specs.Inner.Rows.{pair_of, axis_entry, rows_about}
use Rattle.pauli_steps.proofs.Tables.{Small, turn_small, onto-small, pair-level, row-small, axis_represented}
use Rattle.pauli_run.specs.Inner.Operators.{chosen, coefficients_of, shift_of, bit_of, rows_entry, place_after, stepped}
use Rattle.pauli_run.specs.Inner.Run.{Operating}

-- eighths are below 8
pub coefficients_small : (o : Operation) → Eighths o → (v : ℕ) → Small (coefficients_of o v)
coefficients_small (rotate a k) h v = turn_small k h
coefficients_small (rotate_if a k j) h v = go (eqb v 1)
  where
    go : (b : Bool) → Small (turn_by (cond b k 0))
    go true = turn_small k h
    go false = turn_small 0 (omega arith)
coefficients_small (measure a bs) h v = onto-small v

-- entries are in lowest form
half-lowest : (x : Exact) → is_lowest (half x) ≡ true
half-lowest x = lowest-form x.num (suc x.exp)

pub own-lowest : (o : Operation) (v : ℕ) → is_lowest (coefficients_of o v).own ≡ true
own-lowest (rotate a k) v = half-lowest (exact.◌⊕◌ one (root k))
own-lowest (rotate_if a k j) v = half-lowest (exact.◌⊕◌ one (root (cond (eqb v 1) k 0)))
own-lowest (measure a bs) v = half-lowest one

entry-lowest : (m : Mask) (o : Operation) (v i : ℕ) → is_lowest (rows_entry m o v i) ≡ true
entry-lowest m o v i = go (eqb (i % 2) 0)
  where
    q : Exact
    q = (coefficients_of o v).other

    y : Exact
    y = axis_entry m (i / 2)

    go : (b : Bool) → is_lowest (cond b (coefficients_of o v).own (exact.◌⊗◌ q y)) ≡ true
    go true = own-lowest o v
    go false = lowest-form (numbers.◌⊗◌ q.num y.num) (q.exp + y.exp)

-- ---- the operators by their rows, where the axis has the mask form m
abbrev pub rows_of : Mask → Operation → ℕ → Form
rows_of m o v = rows_about m (pair_of (coefficients_of o v))

rows_represent : (m : Mask) (o : Operation) → Eighths o → (v k : ℕ) → Represents (rows_of m o v) k (rows_entry m o v)
rows_represent m o h v k = axis_represented m (pair_of (coefficients_of o v)) (pair-level refl (coefficients_small o h v)) k

-- ---- the step of an operation; w is the operation, told by its kind, and R v the rows of its operator v
module _ {l : List ℤ} {ms : List Mask} {o : Operation} {made from to d count : ℕ} (p : Operating l ms o made from to d count) {m : Mask} (e : m ≡ ref_mask ms (axis o))
    {w : Operation} (is : o ≡ w) {R : ℕ → Form} (are : (v : ℕ) → R v ≡ rows_of m w v) where
  rows : (v k : ℕ) → Represents (R v) k (rows_entry m o v)
  rows v k = subst (λ (x : Form). Represents x k (rows_entry m o v)) (sym (are v ∙ ap (λ (o : Operation). rows_of m o v) (sym is))) (rows_represent m o p.fits.eighths v k)

  pub operating_in_place : StepInPlace l m.x R 1 from d count
  operating_in_place = record {
    dim = p.dim;
    below = λ r h. subst (λ (m : Mask). bit_xor r m.x < d) (sym e) (p.below r h);
    sized = λ v h. sized (rows v (d * 2)) (λ i k. row-small (coefficients_small o p.fits.eighths v) m i);
    room = p.from_room;
    factors = p.factors;
  }

  pub operating_splits : splits w ≡ 1 → Step l m.x R from to d count
  operating_splits one =
      let ops = ap (λ (o : Operation). 2 ^ splits o) is ∙ ap (λ (k : ℕ). 2 ^ k) one in
      record {
        branches = operating_in_place;
        to_room = subst (λ (k : ℕ). to + count * k * branch_size d ≤ length l) ops p.to_room;
        from_apart = subst (λ (k : ℕ). Apart from (count * branch_size d) to (count * k * branch_size d)) ops p.from_apart;
        stores = p.stores;
      }

  words : (j : ℕ) → step_words l m.x (λ (v : ℕ). entry_in (R v)) (chosen (shift_of made o)) (2 ^ splits o) from d (bit_of o) j
      ≡ step_words l (ref_mask ms (axis o)).x (rows_entry (ref_mask ms (axis o)) o) (chosen (shift_of made o)) (2 ^ splits o) from d (bit_of o) j
  words j =
      let v = chosen (shift_of made o) j in
      let old = from + j / 2 ^ splits o * branch_size d in
      (λ i. product_words l (e i).x (entry_in (R v)) old d (bit_of o) v)
      ∙ product_same l (ref_mask ms (axis o)).x old d (bit_of o) v (λ i k. represented (rows v (d * 2)) i k (entry-lowest m o v i) ∙ ap (λ (m : Mask). rows_entry m o v i) e)

  -- `total` products, from `at` on
  pub operating_done : {at total ops bit : ℕ} {number : ℕ → ℕ} → at ≡ place_after w from to → total ≡ count * ops → ops ≡ 2 ^ splits w → number ≡ chosen (shift_of made w) → bit ≡ bit_of w
      → {b : List ℤ} → b ≡ blocks (branch_size d) l at total (step_words l m.x (λ (v : ℕ). entry_in (R v)) number ops from d bit)
      → b ≡ stepped l d (ref_mask ms (axis o)) made from (place_after o from to) count o
  operating_done {ops = k} a t q v h r =
      r
      ∙ (λ i. blocks (branch_size d) l ((a ∙ ap (λ (o : Operation). place_after o from to) (sym is)) i) ((t ∙ ap (λ (k : ℕ). count * k) ops) i)
      (step_words l m.x (λ (v : ℕ). entry_in (R v)) ((v ∙ ap (λ (o : Operation). chosen (shift_of made o)) (sym is)) i) (ops i) from d ((h ∙ ap bit_of (sym is)) i)))
      ∙ ap (blocks (branch_size d) l (place_after o from to) (count * 2 ^ splits o)) (fun_ext words)
    where
      ops : k ≡ 2 ^ splits o
      ops = q ∙ ap (λ (o : Operation). 2 ^ splits o) (sym is)
