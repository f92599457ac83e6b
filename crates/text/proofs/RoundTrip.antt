-- The digits of a number say it.
use mathlib.Core.Path.{◌≡◌, refl, ap, ◌∙◌}
use mathlib.Core.Bool.{Bool, true, false, cond, not, ◌&&◌, ◌||◌}
use mathlib.Core.List.{List, [], ◌∷◌, ◌++◌, foldl-append}
use Prim.Native.Nat.{ℕ, zero, suc, ◌+◌, ◌*◌, ◌-◌, ◌/◌, ◌%◌, ◌^◌, ◌<◌, ◌≤◌}
use native.Mathlib.Nat.{pow-suc}
use native.Mathlib.Omega.{arith}
use lib.Dec.{eqb, leb, ltb}
use lib.ListN.{length, get_or, length-append}
use borrow.Author.Tests.{lt-ltb, ltb-true, ltb-false, le-leb, ne_eqb}
use Rattle.algebra.specs.Lists.{every}
use Rattle.algebra.proofs.Tests.{and_split, or_right}
use Rattle.text.specs.Decimal.{is_digit, digit, value, max_digits, max_number, is_number, digits, decimal}
use Rattle.text.specs.Claims.{Says, RoundTrip, Reads}

every_append : (xs ys : List ℕ) → every is_digit xs ≡ true → every is_digit ys ≡ true → every is_digit (xs ++ ys) ≡ true
every_append [] ys e f = f
every_append (x ∷ xs) ys e f = let t = and_split (is_digit x) (every is_digit xs) e in λ i. t.0 i && every_append xs ys t.1 f i

is_digit_lem : (n : ℕ) → n < 10 → is_digit (48 + n) ≡ true
is_digit_lem n h = λ i. le-leb 48 (48 + n) (omega arith) i && le-leb (48 + n) 57 (omega arith) i

-- the digits d say n, and the first of them is 0 for n = 0 alone
record First (n : ℕ) (d : List ℕ) : Type 0 where
  pub says : Says n d
  pub no_zero : 1 ≤ n → eqb (get_or d 0 0) 48 ≡ false

one : (n : ℕ) → n < 10 → First n ((48 + n) ∷ [])
unfolding value
one n h = record {
  says = record { some = omega arith; digits = λ i. is_digit_lem n h i && true; is = omega arith; lead = or_right (not (eqb (48 + n) 48)) true refl };
  no_zero = λ l. ne_eqb (48 + n) 48 (λ e. omega arith);
}

first-kept : (d ys : List ℕ) → 1 ≤ length d → get_or (d ++ ys) 0 0 ≡ get_or d 0 0
first-kept [] ys h = absurd (omega arith)
first-kept (x ∷ d) ys h = refl

more : (n : ℕ) (d : List ℕ) → 10 ≤ n → First (n / 10) d → First n (d ++ ((48 + n % 10) ∷ []))
unfolding value
more n d h f =
    let s = f.says in
    let last = (48 + n % 10) ∷ [] in
    let nz = ap (λ (b : ℕ). eqb b 48) (first-kept d last s.some) ∙ f.no_zero (omega arith) in
    record {
      says = record {
        some = omega (arith, length-append d last);
        digits = every_append d last s.digits (λ i. is_digit_lem (n % 10) (omega arith) i && true);
        is = foldl-append digit 0 d last ∙ ap (λ (v : ℕ). v * 10 + (48 + n % 10 - 48)) s.is ∙ omega arith;
        lead = λ i. not (nz i) || eqb (length (d ++ last)) 1;
      };
      no_zero = λ l. nz;
    }

says_digits : (k n : ℕ) → n < 10 ^ suc k → First n (digits (suc k) n)
unfolding digits
says_digits zero n h = by (ltb n 10) refl
  where
    by : (t : Bool) → ltb n 10 ≡ t → First n (cond t ((48 + n) ∷ []) ([] ++ ((48 + n % 10) ∷ [])))
    by true e = one n (ltb-true n 10 e)
    by false e = absurd (omega (arith, ltb-false n 10 e))
says_digits (suc k) n h = by (ltb n 10) refl (λ l. says_digits k (n / 10) (omega (arith, pow-suc 10 (suc k))))
  where
    by : (t : Bool) → ltb n 10 ≡ t → (10 ≤ n → First (n / 10) (digits (suc k) (n / 10))) → First n (cond t ((48 + n) ∷ []) (digits (suc k) (n / 10) ++ ((48 + n % 10) ∷ [])))
    by true e r = one n (ltb-true n 10 e)
    by false e r = let l = ltb-false n 10 e in more n (digits (suc k) (n / 10)) l (r l)

pub round_trip : RoundTrip
round_trip n h = (says_digits 19 n h).says

-- ---- how many digits there are
module _ (k n m : ℕ) (h : length (digits k (n / 10)) ≤ m) where
  one_more : (t : Bool) → length (cond t ((48 + n) ∷ []) (digits k (n / 10) ++ ((48 + n % 10) ∷ []))) ≤ suc m
  one_more true = omega arith
  one_more false = omega (arith, length-append (digits k (n / 10)) ((48 + n % 10) ∷ []))

pub digits-most : (k n : ℕ) → length (digits k n) ≤ k
unfolding digits
digits-most zero n = omega arith
digits-most (suc k) n = one_more k n k (digits-most k (n / 10)) (ltb n 10)

pub digits-few : (k j n : ℕ) → n < 10 ^ suc j → length (digits k n) ≤ suc j
unfolding digits
digits-few zero j n h = omega arith
digits-few (suc k) zero n h =
    let e = ap (λ (t : Bool). length (cond t ((48 + n) ∷ []) (digits k (n / 10) ++ ((48 + n % 10) ∷ [])))) (lt-ltb n 10 (omega arith)) in
    omega (arith, e)
digits-few (suc k) (suc j) n h = one_more k n (suc j) (digits-few k j (n / 10) (omega (arith, pow-suc 10 (suc j)))) (ltb n 10)

pub reads : Reads
unfolding is_number
reads n h =
    let s = round_trip n (omega arith) in
    let few = digits-few 20 9 n (omega arith) in
    λ i. (le-leb 1 (length (decimal n)) s.some i && le-leb (length (decimal n)) max_digits (omega arith) i) && (s.digits i && (ap (λ (v : ℕ). leb v max_number) s.is ∙ le-leb n max_number h) i)
