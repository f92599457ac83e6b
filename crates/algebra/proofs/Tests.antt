-- Tests: what a joined test says, tests that agree, and a test computed at every number below a bound, or along a table.
use mathlib.Core.Path.{◌≡◌, refl, sym, ap, ◌∙◌, subst}
use mathlib.Core.Bool.{Bool, true, false, not, ◌&&◌, ◌||◌, true≢false}
use Prim.Native.Nat.{ℕ, zero, suc, ◌+◌, ◌<◌, ◌≤◌}
use native.Mathlib.Nat.{not-suc-le-zero, lt_of_not-le, not-le_of_lt}
use native.Mathlib.Numerals.{add-one}
use native.Mathlib.Decide.{dec_lt}
use native.Mathlib.Omega.{arith}
use lib.Dec.{T, leb, eqb, eqb→eq}
use borrow.Author.Tests.{leb-true, leb-false, le-leb, lt-leb, eqb-true, eqb-false, eq-eqb, ne_eqb}
use Rattle.algebra.specs.Lists.{all_below}

pub and_split : (a b : Bool) → (a && b) ≡ true → (a ≡ true) × (b ≡ true)
and_split true b e = (refl, e)
and_split false b e = absurd (subst (λ (t : Bool). T (not t)) e tt)

pub or_no : (a b : Bool) → a || b ≡ false → (a ≡ false) × (b ≡ false)
or_no true b e = absurd (true≢false e)
or_no false b e = (refl, e)

pub or_right : (a b : Bool) → b ≡ true → a || b ≡ true
or_right true b e = refl
or_right false b e = e

pub and_no : (a b : Bool) → b ≡ false → (a && b) ≡ false
and_no true b e = e
and_no false b e = refl

pub holds-true : {b : Bool} → T b → b ≡ true
holds-true {b = true} t = refl
holds-true {b = false} t = absurd t

pub true-holds : {b : Bool} → b ≡ true → T b
true-holds e = subst T (sym e) tt

-- ---- two tests that say the same
pub test_same : (a b : Bool) → (a ≡ true → b ≡ true) → (b ≡ true → a ≡ true) → a ≡ b
test_same true b f g = sym (f refl)
test_same false true f g = g refl
test_same false false f g = refl

pub leb_same : (a b c d : ℕ) → (a ≤ b → c ≤ d) → (c ≤ d → a ≤ b) → leb a b ≡ leb c d
leb_same a b c d f g = go (leb a b) refl
  where
    go : (t : Bool) → leb a b ≡ t → leb a b ≡ leb c d
    go true e = e ∙ sym (le-leb c d (f (leb-true a b e)))
    go false e = e ∙ sym (lt-leb c d (lt_of_not-le (λ k. not-le_of_lt (leb-false a b e) (g k))))

pub eqb_same : (a b c d : ℕ) → (a ≡ b → c ≡ d) → (c ≡ d → a ≡ b) → eqb a b ≡ eqb c d
eqb_same a b c d f g = go (eqb a b) refl
  where
    go : (t : Bool) → eqb a b ≡ t → eqb a b ≡ eqb c d
    go true e = e ∙ sym (eq-eqb c d (f (eqb-true a b e)))
    go false e = e ∙ sym (ne_eqb c d (λ q. eqb-false a b e (g q)))

-- ---- all numbers below n
pub all-at : (n : ℕ) (p : ℕ → Bool) → all_below n p ≡ true → (i : ℕ) → i < n → p i ≡ true
all-at zero p e i h = absurd (not-suc-le-zero h)
all-at (suc n) p e i h = go (dec_lt i n) (all-at n p (and_split (all_below n p) (p n) e).0 i)
  where
    go : Dec (i < n) → (i < n → p i ≡ true) → p i ≡ true
    go (yes l) r = r l
    go (no l) r = let m : i ≡ n = omega arith in ap p m ∙ (and_split (all_below n p) (p n) e).1

pub all-by : (n : ℕ) (p : ℕ → Bool) → ((i : ℕ) → i < n → p i ≡ true) → all_below n p ≡ true
all-by zero p h = refl
all-by (suc n) p h = λ i. all-by n p (λ j l. h j (omega arith)) i && h n (omega arith) i

pub all-step : (n : ℕ) (p : ℕ → Bool) → all_below n p ≡ true → p n ≡ true → all_below (n + 1) p ≡ true
all-step n p e f = ap (λ (k : ℕ). all_below k p) (add-one n) ∙ (λ i. e i && f i)

pub all_no : (n i : ℕ) (p : ℕ → Bool) → i < n → p i ≡ false → all_below n p ≡ false
all_no zero i p h e = absurd (not-suc-le-zero h)
all_no (suc n) i p h e = go (dec_lt i n) (λ l. all_no n i p l e)
  where
    go : Dec (i < n) → (i < n → all_below n p ≡ false) → (all_below n p && p n) ≡ false
    go (yes l) r = ap (λ (b : Bool). b && p n) (r l)
    go (no l) r = let m : n ≡ i = omega arith in and_no (all_below n p) (p n) (ap p m ∙ e)

-- ---- facts by computation: the test is `tt`
pub exhaust : (p : ℕ → Bool) (n : ℕ) → T (all_below n p) → (i : ℕ) → i < n → T (p i)
exhaust p n t i h = true-holds (all-at n p (holds-true t) i h)

-- two functions of one number, or of two, agree below the bounds
pub equal1 : (f g : ℕ → ℕ) (n : ℕ) → T (all_below n (λ (b : ℕ). eqb (f b) (g b))) → (b : ℕ) → b < n → f b ≡ g b
equal1 f g n t b h = eqb→eq (f b) (g b) (exhaust (λ (b : ℕ). eqb (f b) (g b)) n t b h)

pub equal2 : (f g : ℕ → ℕ → ℕ) (m n : ℕ) → T (all_below m (λ (a : ℕ). all_below n (λ (b : ℕ). eqb (f a b) (g a b)))) → (a b : ℕ) → a < m → b < n → f a b ≡ g a b
equal2 f g m n t a b ha hb = equal1 (f a) (g a) n (exhaust (λ (a : ℕ). all_below n (λ (b : ℕ). eqb (f a b) (g a b))) m t a ha) b hb
