-- A block of surviving branches is not zero: the rational part of a diagonal entry adds up squares, and a branch that survives has one that is positive.
use mathlib.Core.Path.{◌≡◌, refl, sym, ap, ◌∙◌}
use mathlib.Core.Bool.{Bool, true, false, not, cond, ◌&&◌, ◌||◌, true≢false}
use mathlib.Core.List.{List, [], ◌∷◌}
use Prim.Native.Nat.{ℕ, zero, suc, ◌+◌, ◌*◌, ◌<◌, ◌≤◌}
use native.Mathlib.Omega.{arith}
use lib.Dec.{eqb}
use lib.ListN.{length, get_or}
use lib.IntN.{ℤ, pos, nat_abs, ◌+ℤ◌}
use borrow.Author.Tests.{eq-eqb}
use Rattle.algebra.specs.Dyadic.{low, power}
use Rattle.algebra.specs.Lists.{All, every, some, total, filter_by}
use Rattle.algebra.proofs.Tests.{or_right}
use Rattle.algebra.proofs.Lists.{all_imp, all_both, all-turn, filter_all}
use Rattle.algebra.proofs.Totals.{total_each}
use Rattle.algebra.proofs.Perm.{gather}
use Rattle.algebra.proofs.Ring.{mul_zero}
use Rattle.algebra.proofs.Quadratic.{ℤ√2i}
use Rattle.algebra.proofs.Dyadic.{low-zero, lowest_is, num_at}
use Rattle.exact.specs.Exact.{Exact, exact, Number, numbers, number_halves, is_zero}
use Rattle.exact.proofs.Exact.{exact_halving}
use Rattle.exact.proofs.IsZero.{zero_is}
use Rattle.gate.specs.Operators.{same_bits}
use Rattle.gate.proofs.Complete.{conjugation}
use Rattle.gate.proofs.Bits.{same_refl}
use Rattle.kraus.specs.Branch.{Store, Branch}
use Rattle.kraus.specs.Blocks.{alive, having, block, stores}
use Rattle.kraus.proofs.Stores.{stores_some}
use Rattle.kraus.proofs.Enough.{Fit}
use Rattle.kraus.proofs.Size.{cross, block-value}
use Rattle.kraus.proofs.Measured.{form, rational, size, size_square, measure}

-- ---- a number by its quadratic form
no_square : (a : ℕ) → a * a ≤ 0 → a ≡ 0
no_square zero h = refl
no_square (suc a) h = absurd (omega arith)

form-zero : (z : Number) → form z ≤ 0 → z ≡ numbers.𝟘
form-zero z h = zero_is z (λ i. ((none 0 i && none 1 i) && none 2 i) && none 3 i)
  where
    none : (i : ℕ) → eqb (size i z) 0 ≡ true
    none i = eq-eqb (size i z) 0 (no_square (size i z) (omega (arith, h, size_square i z)))

-- the value over 2^e of a number is zero only where the number is
low_no : (z : Number) (e : ℕ) → (low number_halves z e).num ≡ numbers.𝟘 → z ≡ numbers.𝟘
low_no z e h =
    let (k, p, q) = lowest_is ℤ√2i exact_halving z e in
    p ∙ ℤ√2i.mul_comm (low number_halves z e).num (power numbers k) ∙ ap (λ (y : Number). numbers.◌⊗◌ (power numbers k) y) h ∙ mul_zero ℤ√2i (power numbers k)

-- ---- a diagonal entry of a block: x b is the entry of the branch b
module _ (E : ℕ) (x : Branch → Exact) where
  abbrev at : Branch → Number
  at b = num_at ℤ√2i exact_halving E (x b)

  abbrev squared : Branch → Number
  squared = cross ℤ√2i exact_halving conjugation measure E x x

  squared-form : (b : Branch) → (squared b).re.re ≡ pos (form (at b))
  squared-form b = ap (λ (z : Number). z.re.re) (ℤ√2i.mul_comm (at b) _) ∙ rational (at b)

  gather-form : (xs : List Branch) (m : Number) (k : ℕ) → m.re.re ≡ pos k → (gather numbers.◌⊕◌ squared m xs).re.re ≡ pos (k + total (λ (b : Branch). form (at b)) xs)
  gather-form [] m k e = let z : k ≡ k + 0 = omega arith in e ∙ ap pos z
  gather-form (b ∷ xs) m k e =
      let t = total (λ (b : Branch). form (at b)) xs in
      let z : (k + form (at b)) + t ≡ k + (form (at b) + t) = omega arith in
      gather-form xs (numbers.◌⊕◌ m (squared b)) (k + form (at b)) (λ i. e i +ℤ squared-form b i) ∙ ap pos z

  -- where it is zero, each branch has a zero there
  zero-each : (xs : List Branch) → All (λ (b : Branch). Fit E (x b)) xs → is_zero (gather exact.◌⊕◌ (λ (b : Branch). exact.◌⊗◌ (x b) (conjugation.conj (x b))) exact.𝟘 xs).num ≡ true
      → All (λ (b : Branch). is_zero (x b).num ≡ true) xs
  zero-each xs fits e = all_both (λ (b : Branch). Fit E (x b)) (λ (b : Branch). form (at b) ≤ total (λ (b : Branch). form (at b)) xs) _ xs one fits (total_each (λ (b : Branch). form (at b)) xs)
    where
      whole : gather numbers.◌⊕◌ squared numbers.𝟘 xs ≡ numbers.𝟘
      whole =
          low_no _ (E + E)
          (ap (λ (y : Exact). y.num) (sym (block-value ℤ√2i exact_halving conjugation measure E x x xs fits fits)) ∙ zero_is _ e)

      none : total (λ (b : Branch). form (at b)) xs ≡ 0
      none =
          let e : 0 + total (λ (b : Branch). form (at b)) xs ≡ 0 = ap nat_abs (sym (gather-form xs numbers.𝟘 0 refl) ∙ ap (λ (z : Number). z.re.re) whole) in
          omega arith

      one : (b : Branch) → Fit E (x b) → form (at b) ≤ total (λ (b : Branch). form (at b)) xs → is_zero (x b).num ≡ true
      one b f h =
          ap (λ (y : Exact). is_zero y.num) (f ∙ ap (λ (z : Number). low number_halves z E) (form-zero (at b) (omega (arith, h, none))) ∙ low-zero ℤ√2i exact_halving E)

-- ---- all of them
all-zero : (xs : List Exact) → ((i : ℕ) → i < length xs → is_zero (get_or xs i exact.𝟘).num ≡ true) → every (λ (x : Exact). is_zero x.num) xs ≡ true
all-zero [] h = refl
all-zero (x ∷ xs) h = λ i. h 0 (omega arith) i && all-zero xs (λ j p. h (suc j) (omega arith)) i

-- a store of a branch is that of some branch
not_none : {A : Type 0} (p : A → Bool) (xs : List A) → some p xs ≡ true → All (λ (x : A). ⊥) (filter_by p xs) → ⊥
not_none p [] e h = true≢false (sym e)
not_none p (x ∷ xs) e h = go (p x) e h (not_none p xs)
  where
    go : (b : Bool) → (b || some p xs) ≡ true → All (λ (x : _). ⊥) (cond b (x ∷ filter_by p xs) (filter_by p xs)) → (some p xs ≡ true → All (λ (x : _). ⊥) (filter_by p xs) → ⊥) → ⊥
    go true e h r = h.0
    go false e h r = r e h

module _ (E w : ℕ) (bs : List Branch) (fits : All (λ (b : Branch). (i : ℕ) → Fit E (get_or b.matrix i exact.𝟘)) bs)
    (square : All (λ (b : Branch). length b.matrix ≡ w) bs) (living : All (λ (b : Branch). alive b ≡ true) bs) where
  block-not-zero : (τ : Store) → some (having τ) bs ≡ true → ((i : ℕ) → i < w → is_zero (block bs τ i i).num ≡ true) → ⊥
  block-not-zero τ e h =
      not_none (having τ) bs e
      (all_both (λ (b : Branch). (length b.matrix ≡ w) × (alive b ≡ true)) (λ (b : Branch). (i : ℕ) → i < w → is_zero (get_or b.matrix i exact.𝟘).num ≡ true) _ (filter_by (having τ) bs)
      (λ b s z. true≢false (sym s.1 ∙ ap not (all-zero b.matrix (λ i p. z i (omega (arith, s.0))))))
      (filter_all _ (having τ) bs (all_both (λ (b : Branch). length b.matrix ≡ w) (λ (b : Branch). alive b ≡ true) _ bs (λ b s a. (s, a)) square living))
      (all-turn w (λ (i : ℕ) (b : Branch). is_zero (get_or b.matrix i exact.𝟘).num ≡ true) (filter_by (having τ) bs)
      (λ i p. zero-each E (λ (b : Branch). get_or b.matrix i exact.𝟘) (filter_by (having τ) bs) (filter_all _ (having τ) bs (all_imp _ (λ (b : Branch). Fit E (get_or b.matrix i exact.𝟘)) bs (λ b f. f i) fits)) (h i p))))

  -- each store has a branch
  listed : (xs ys : List Store) → ((τ : Store) → some (same_bits τ) xs ≡ true → some (same_bits τ) ys ≡ true) → All (λ (τ : Store). some (same_bits τ) ys ≡ true) xs
  listed [] ys h = tt
  listed (τ ∷ xs) ys h = (h τ (ap (λ (b : Bool). b || some (same_bits τ) xs) (same_refl τ)), listed xs ys (λ ρ e. h ρ (or_right (same_bits ρ τ) (some (same_bits ρ) xs) e)))

  -- no block of theirs is zero
  pub blocks-not-zero : All (λ (τ : Store). ((i : ℕ) → i < w → is_zero (block bs τ i i).num ≡ true) → ⊥) (stores bs)
  blocks-not-zero = all_imp _ _ (stores bs) (λ τ e. block-not-zero τ (sym (stores_some bs τ) ∙ e)) (listed (stores bs) (stores bs) (λ τ e. e))
