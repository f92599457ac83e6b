-- Shared forms: scaling to the largest exponent loses nothing, the form is unique, and taking out the common power of two reaches it.
use mathlib.Core.Path.{◌≡◌, refl, sym, ap, ap₂, ◌∙◌}
use mathlib.Core.Bool.{Bool, true, false, cond, not, ◌&&◌, ◌||◌, true≢false}
use Prim.Native.Nat.{ℕ, zero, suc, ◌+◌, ◌-◌, max, ◌<◌, ◌≤◌}
use native.Mathlib.Nat.{not-suc-le-zero}
use native.Mathlib.Decide.{dec_lt}
use native.Mathlib.Omega.{arith}
use lib.Dec.{eqb}
use borrow.Author.Tests.{eq-eqb, ne_eqb, not-true}
use Rattle.algebra.specs.Dyadic.{frac, power}
use Rattle.algebra.specs.Sum.{sum}
use Rattle.algebra.specs.Lists.{all_below}
use Rattle.algebra.proofs.Tests.{all-at, all_no, or_right}
use Rattle.algebra.proofs.Ring.{mul-one}
use Rattle.algebra.proofs.Quadratic.{ℤ√2i}
use Rattle.algebra.proofs.Dyadic.{lowest-up, lowest_is, low_exp, low-odd, sum-value}
use Rattle.exact.specs.Exact.{Number, numbers, number_halves, Exact, exact, lowest, is_lowest}
use Rattle.exact.proofs.Exact.{exact_halving, is_lowest_lem, lowest-odd}
use Rattle.channel.specs.Shared.{Shared, entry, all_halves, is_shared, shared_exponent, scaled, shared, reduced}
use Rattle.channel.specs.Forms.{Alike, GivesBack, IsShared, Unique, Reduced, SumsReduced}

-- ---- the largest exponent
pub exp_le : (n : ℕ) (x : ℕ → Exact) (k : ℕ) → k < n → (x k).exp ≤ shared_exponent n x
exp_le zero x k h = absurd (not-suc-le-zero h)
exp_le (suc n) x k h = go (dec_lt k n) (exp_le n x k)
  where
    go : Dec (k < n) → (k < n → (x k).exp ≤ shared_exponent n x) → (x k).exp ≤ max (shared_exponent n x) (x n).exp
    go (yes l) r = let z = r l in omega arith
    go (no l) r = let e : k ≡ n = omega arith in let f = ap (λ (j : ℕ). (x j).exp) e in omega arith

-- some number has it, where it is not 0
data Reached (n : ℕ) (x : ℕ → Exact) (e : ℕ) : Type 0 where
  whole : e ≡ 0 → Reached n x e
  at : (k : ℕ) → k < n → (x k).exp ≡ e → Reached n x e

reached : (n : ℕ) (x : ℕ → Exact) → Reached n x (shared_exponent n x)
reached zero x = whole refl
reached (suc n) x = go (dec_lt (shared_exponent n x) (x n).exp) (reached n x)
  where
    go : Dec (shared_exponent n x < (x n).exp) → Reached n x (shared_exponent n x) → Reached (suc n) x (max (shared_exponent n x) (x n).exp)
    go (yes l) r = at n (omega arith) (omega arith)
    go (no l) (whole z) = whole (omega arith)
    go (no l) (at k h e) = at k (omega arith) (omega arith)

pub exponent-up : (n : ℕ) (x : ℕ → Exact) (e : ℕ) → ((k : ℕ) → k < n → (x k).exp ≤ e) → shared_exponent n x ≤ e
exponent-up n x e f = go (reached n x)
  where
    go : Reached n x (shared_exponent n x) → shared_exponent n x ≤ e
    go (whole z) = omega arith
    go (at k h q) = let z = f k h in omega arith

pub exponent_same : (n : ℕ) (x y : ℕ → Exact) → ((k : ℕ) → k < n → x k ≡ y k) → shared_exponent n x ≡ shared_exponent n y
exponent_same zero x y h = refl
exponent_same (suc n) x y h = λ i. max (exponent_same n x y (λ k l. h k (omega arith)) i) (h n (omega arith) i).exp

-- ---- scaled, and back
scaled-lowest : (e : ℕ) (x : Exact) → is_lowest x ≡ true → x.exp ≤ e → lowest (scaled e x) e ≡ x
scaled-lowest e x h l =
    let n : e ≡ x.exp + (e - x.exp) = omega arith in
    ap (lowest (scaled e x)) n ∙ lowest-up ℤ√2i exact_halving (e - x.exp) x ∙ is_lowest_lem x h

lowest-scaled : (e : ℕ) (z : Number) → scaled e (lowest z e) ≡ z
lowest-scaled e z =
    let (k, h, g) = lowest_is ℤ√2i exact_halving z e in
    let d : e - (lowest z e).exp ≡ k = omega arith in
    ap (λ (j : ℕ). numbers.◌⊗◌ (lowest z e).num (power numbers j)) d ∙ sym h

scaled-whole : (e : ℕ) (x : Exact) → x.exp ≡ e → scaled e x ≡ x.num
scaled-whole e x q =
    let d : e - x.exp ≡ 0 = omega arith in
    ap (λ (j : ℕ). numbers.◌⊗◌ x.num (power numbers j)) d ∙ mul-one ℤ√2i x.num

pub gives_back : GivesBack
gives_back n x h k l = scaled-lowest (shared_exponent n x) (x k) (h k l) (exp_le n x k l)

-- ---- the test
pub shared-zero : (n : ℕ) (b : Shared) → b.exp ≡ 0 → is_shared n b ≡ true
shared-zero n b e = ap (λ (t : Bool). t || not ((all_halves n).even b.num)) (eq-eqb b.exp 0 e)

shared-odd : (n : ℕ) (b : Shared) (k : ℕ) → k < n → number_halves.even (b.num k) ≡ false → is_shared n b ≡ true
shared-odd n b k l e = or_right (eqb b.exp 0) _ (ap not (all_no n k (λ (j : ℕ). number_halves.even (b.num j)) l e))

-- some number that fails a test, where not all pass
data Some (n : ℕ) (p : ℕ → Bool) : Type 0 where
  one : (k : ℕ) → k < n → p k ≡ false → Some n p

some : (n : ℕ) (p : ℕ → Bool) → all_below n p ≡ false → Some n p
some zero p e = absurd (true≢false e)
some (suc n) p e = go (p n) refl (all_below n p) refl (some n p)
  where
    go : (a : Bool) → p n ≡ a → (b : Bool) → all_below n p ≡ b → (all_below n p ≡ false → Some n p) → Some (suc n) p
    go false f b g r = one n (omega arith) f
    go true f true g r = absurd (true≢false (sym (λ i. g i && f i) ∙ e))
    go true f false g r = up (r g)
      where
        up : Some n p → Some (suc n) p
        up (one k l q) = one k (omega arith) q

-- what the test says
data Odd (n : ℕ) (b : Shared) : Type 0 where
  whole : b.exp ≡ 0 → Odd n b
  odd : (k : ℕ) → k < n → number_halves.even (b.num k) ≡ false → Odd n b

says : (n : ℕ) (b : Shared) → is_shared n b ≡ true → Odd n b
says n b h = go (dec_lt 0 b.exp)
  where
    go : Dec (0 < b.exp) → Odd n b
    go (no l) = whole (omega arith)
    go (yes l) = by (some n (λ (k : ℕ). number_halves.even (b.num k)) (not-true _ (sym (ap (λ (t : Bool). t || not ((all_halves n).even b.num)) (ne_eqb b.exp 0 (λ q. omega arith))) ∙ h)))
      where
        by : Some n (λ (k : ℕ). number_halves.even (b.num k)) → Odd n b
        by (one k q e) = odd k q e

pub is_shared_lem : IsShared
is_shared_lem n x h = go (reached n x) (dec_lt 0 (shared_exponent n x))
  where
    go : Reached n x (shared_exponent n x) → Dec (0 < shared_exponent n x) → is_shared n (shared n x) ≡ true
    go (whole z) d = shared-zero n (shared n x) z
    go (at k l q) (no d) = shared-zero n (shared n x) (omega arith)
    go (at k l q) (yes d) = shared-odd n (shared n x) k l (ap number_halves.even (scaled-whole (shared_exponent n x) (x k) q) ∙ lowest-odd (x k) (h k l) (omega arith))

-- ---- a shared form is that of its numbers
alike_trans : {n : ℕ} {a b c : Shared} → Alike n a b → Alike n b c → Alike n a c
alike_trans p q = record { exp = p.exp ∙ q.exp; num = λ k l. p.num k l ∙ q.num k l }

alike_sym : {n : ℕ} {a b : Shared} → Alike n a b → Alike n b a
alike_sym p = record { exp = sym p.exp; num = λ k l. sym (p.num k l) }

pub shared_same : (n : ℕ) (x y : ℕ → Exact) → ((k : ℕ) → k < n → x k ≡ y k) → Alike n (shared n x) (shared n y)
shared_same n x y h = record { exp = exponent_same n x y h; num = λ k l. ap₂ scaled (exponent_same n x y h) (h k l) }

exponent_is : (n : ℕ) (b : Shared) → is_shared n b ≡ true → b.exp ≡ shared_exponent n (entry b)
exponent_is n b h = go (says n b h) (exponent-up n (entry b) b.exp (λ k l. low_exp ℤ√2i exact_halving (b.num k) b.exp))
  where
    go : Odd n b → shared_exponent n (entry b) ≤ b.exp → b.exp ≡ shared_exponent n (entry b)
    go (whole z) up = omega arith
    go (odd k l e) up = let q = exp_le n (entry b) k l in let r = ap (λ (x : Exact). x.exp) (low-odd ℤ√2i exact_halving (b.num k) b.exp e) in omega (arith, q, r)

pub shared_is : (n : ℕ) (b : Shared) → is_shared n b ≡ true → Alike n b (shared n (entry b))
shared_is n b h = record {
  exp = exponent_is n b h;
  num = λ k l. sym (ap (λ (e : ℕ). scaled e (entry b k)) (sym (exponent_is n b h)) ∙ lowest-scaled b.exp (b.num k));
}

-- a shared form of given numbers is the one that scaling gives
pub shared_of : (n : ℕ) (b : Shared) (x : ℕ → Exact) → is_shared n b ≡ true → ((k : ℕ) → k < n → entry b k ≡ x k) → Alike n b (shared n x)
shared_of n b x h f = alike_trans (shared_is n b h) (shared_same n (entry b) x f)

pub unique : Unique
unique n a b h g = (
  (λ f. alike_trans (shared_of n a (entry b) h f) (alike_sym (shared_is n b g))),
  λ f k l. ap₂ lowest (f.num k l) f.exp,
)

-- ---- the common power of two
pub reduced-shared : (n e : ℕ) (z : ℕ → Number) → is_shared n (reduced n z e) ≡ true
reduced-shared n zero z = refl
reduced-shared n (suc e) z = go ((all_halves n).even z) refl (reduced-shared n e ((all_halves n).half z))
  where
    go : (b : Bool) → (all_halves n).even z ≡ b → is_shared n (reduced n ((all_halves n).half z) e) ≡ true → is_shared n (cond b (reduced n ((all_halves n).half z) e) (frac z (suc e))) ≡ true
    go true h r = r
    go false h r = or_right (eqb (suc e) 0) _ (ap not h)

pub reduced-entry : (n e : ℕ) (z : ℕ → Number) (k : ℕ) → k < n → entry (reduced n z e) k ≡ lowest (z k) e
reduced-entry n zero z k l = refl
reduced-entry n (suc e) z k l = go ((all_halves n).even z) refl (reduced-entry n e ((all_halves n).half z) k l)
  where
    go : (b : Bool) → (all_halves n).even z ≡ b → entry (reduced n ((all_halves n).half z) e) k ≡ lowest (number_halves.half (z k)) e
        → entry (cond b (reduced n ((all_halves n).half z) e) (frac z (suc e))) k ≡ lowest (z k) (suc e)
    go true h r = r ∙ sym (ap (λ (b : Bool). cond b (lowest (number_halves.half (z k)) e) (frac (z k) (suc e))) (all-at n (λ (j : ℕ). number_halves.even (z j)) h k l))
    go false h r = refl

pub reduced_is : Reduced
reduced_is n e z = shared_of n (reduced n z e) (λ (k : ℕ). lowest (z k) e) (reduced-shared n e z) (reduced-entry n e z)

-- ---- sums at one exponent
pub sums-reduced : SumsReduced
sums-reduced n e t f =
    shared_of n (reduced n (λ (k : ℕ). sum numbers t (λ (i : ℕ). f i k)) e) (λ (k : ℕ). sum exact t (λ (i : ℕ). lowest (f i k) e)) (reduced-shared n e _)
    (λ k l. reduced-entry n e (λ (k : ℕ). sum numbers t (λ (i : ℕ). f i k)) k l ∙ sym (sum-value ℤ√2i exact_halving e t (λ (i : ℕ). f i k)))
