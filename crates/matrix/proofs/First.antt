-- The first number at which a test fails: what a loop finds, and none where the test holds of all.
use Rattle.std.specs.Prelude.{Option, Some, None, is_some}
use native.Mathlib.Nat.{le_refl}
use mathlib.Core.Path.{◌≡◌, refl, sym, ap, ◌∙◌, subst}
use mathlib.Core.Bool.{Bool, true, false, cond, not}
use mathlib.Core.Logic.{◌⊎◌, inl, inr}
use Prim.Native.Nat.{ℕ, zero, suc, ◌+◌, ◌-◌, ◌<◌, ◌≤◌}
use native.Mathlib.Numerals.{add-one}
use native.Mathlib.Decide.{ℕ_discrete}
use native.Mathlib.Omega.{arith}
use lib.Dec.{T, ltb}
use borrow.Author.Tests.{lt-ltb, le-ltb, ltb-true, ltb-false}
use Rattle.algebra.specs.Lists.{all_below}
use Rattle.algebra.proofs.Tests.{all-at, all-by}
use Rattle.matrix.specs.Phase.{first_not}
use Rattle.matrix.specs.Inner.Written.{one_of}

pub record First (k i : ℕ) (p : ℕ → Bool) (j : ℕ) : Type 0 where
  pub below : j < i + k
  pub fails : p j ≡ false

pub first-from : (k i : ℕ) (p : ℕ → Bool) → First k i p (first_not k i p) ⊎ (first_not k i p ≡ i + k) × ((j : ℕ) → i ≤ j → j < i + k → p j ≡ true)
unfolding first_not
first-from zero i p = inr (omega arith, λ j g h. absurd (omega arith))
first-from (suc k) i p = go (p i) refl (first-from k (suc i) p)
  where
    go : (b : Bool) → p i ≡ b → First k (suc i) p (first_not k (suc i) p) ⊎ (first_not k (suc i) p ≡ suc i + k) × ((j : ℕ) → suc i ≤ j → j < suc i + k → p j ≡ true)
        → First (suc k) i p (cond b (first_not k (suc i) p) i) ⊎ (cond b (first_not k (suc i) p) i ≡ i + suc k) × ((j : ℕ) → i ≤ j → j < i + suc k → p j ≡ true)
    go true e (inl f) = inl (record { below = omega (arith, f.below); fails = f.fails })
    go true e (inr f) = inr (omega (arith, f.0), λ j g h. at (ℕ_discrete j i) (f.1 j) g h)
      where
        at : {j : ℕ} → Dec (j ≡ i) → (suc i ≤ j → j < suc i + k → p j ≡ true) → i ≤ j → j < i + suc k → p j ≡ true
        at (yes q) r g h = ap p q ∙ e
        at (no q) r g h = r (omega arith) (omega arith)
    go false e r = inl (record { below = omega arith; fails = e })

-- a search from i on, as a loop makes it
module _ (n i : ℕ) (p : ℕ → Bool) where
  one-step : i < n → first_not (n - i) i p ≡ cond (p i) (first_not (n - (i + 1)) (i + 1) p) i
  unfolding first_not
  one-step h = ap (λ (k : ℕ). first_not k i p) left ∙ ap (λ (k : ℕ). cond (p i) (first_not (n - (i + 1)) k p) i) (sym (add-one i))
    where
      left : n - i ≡ suc (n - (i + 1))
      left = omega arith

  pub first_next : i < n → p i ≡ true → first_not (n - i) i p ≡ first_not (n - (i + 1)) (i + 1) p
  first_next h e = one-step h ∙ ap (λ (b : Bool). cond b (first_not (n - (i + 1)) (i + 1) p) i) e

  pub first-here : i < n → p i ≡ false → first_not (n - i) i p ≡ i
  first-here h e = one-step h ∙ ap (λ (b : Bool). cond b (first_not (n - (i + 1)) (i + 1) p) i) e

  pub first-end : i ≤ n → n ≤ i → first_not (n - i) i p ≡ n
  unfolding first_not
  first-end h k = ap (λ (m : ℕ). first_not m i p) none ∙ all
    where
      none : n - i ≡ 0
      none = omega arith

      all : i ≡ n
      all = omega arith

-- ---- where it is one of n
pub is_one : {n i : ℕ} → i < n → one_of n i ≡ Some i
is_one {n} {i} h = ap (λ (b : Bool). cond b (Some i) None) (lt-ltb i n h)

pub is_none : (n : ℕ) → one_of n n ≡ None
is_none n = ap (λ (b : Bool). cond b (Some n) None) (le-ltb n n (le_refl n))

module _ {n k : ℕ} where
  pub found-some : {i : ℕ} → Some i ≡ one_of n k → (i ≡ k) × (k < n)
  found-some {i} h = go (ltb k n) refl h
    where
      go : (b : Bool) → ltb k n ≡ b → Some i ≡ cond b (Some k) None → (i ≡ k) × (k < n)
      go true e f = (cc, ltb-true k n e)
      go false e f = cc

  pub found-none : None ≡ one_of n k → n ≤ k
  found-none h = go (ltb k n) refl h
    where
      go : (b : Bool) → ltb k n ≡ b → ◌≡◌ {A = Option ℕ} None (cond b (Some k) None) → n ≤ k
      go true e f = cc
      go false e f = ltb-false k n e

-- ---- of all n
module _ (n : ℕ) (p : ℕ → Bool) where
  -- the first that fails, or that all hold
  abbrev Found : Type 0
  Found = First n 0 p (first_not n 0 p) ⊎ (first_not n 0 p ≡ 0 + n) × ((j : ℕ) → 0 ≤ j → j < 0 + n → p j ≡ true)

  pub first_is : all_below n p ≡ false → (first_not n 0 p < n) × (p (first_not n 0 p) ≡ false)
  first_is z = go (first-from n 0 p)
    where
      go : Found → (first_not n 0 p < n) × (p (first_not n 0 p) ≡ false)
      go (inl f) = (omega (arith, f.below), f.fails)
      go (inr f) = absurd (subst T (sym (all-by n p (λ j l. f.1 j (omega arith) (omega arith))) ∙ z) tt)

  pub first-none : all_below n p ≡ true → first_not n 0 p ≡ n
  first-none z = go (first-from n 0 p)
    where
      go : Found → first_not n 0 p ≡ n
      go (inl f) = absurd (subst T (sym (all-at n p z (first_not n 0 p) (omega (arith, f.below))) ∙ f.fails) tt)
      go (inr f) = omega (arith, f.0)

  -- as a loop that starts at 0 makes it
  pub first-whole : first_not (n - 0) 0 p ≡ first_not n 0 p
  first-whole = let e : n - 0 ≡ n = omega arith in ap (λ (k : ℕ). first_not k 0 p) e

  -- none is found exactly where all hold
  pub none-all : not (is_some (one_of n (first_not (n - 0) 0 p))) ≡ all_below n p
  none-all = ap (λ (k : ℕ). not (is_some (one_of n k))) first-whole ∙ go (all_below n p) refl
    where
      go : (b : Bool) → all_below n p ≡ b → not (is_some (one_of n (first_not n 0 p))) ≡ all_below n p
      go true z = ap (λ (k : ℕ). not (is_some (one_of n k))) (first-none z) ∙ ap (λ (o : Option ℕ). not (is_some o)) (is_none n) ∙ sym z
      go false z = ap (λ (o : Option ℕ). not (is_some o)) (is_one (first_is z).0) ∙ sym z
