-- What the digits of a piece say, and which pieces are numbers.
use mathlib.Core.Path.{◌≡◌, refl, sym, ap, ◌∙◌}
use mathlib.Core.Bool.{Bool, true, false, cond, ◌&&◌}
use mathlib.Core.List.{List, ◌∷◌, foldl}
use Prim.Native.Nat.{ℕ, ◌+◌, ◌^◌, ◌<◌, ◌≤◌}
use native.Mathlib.Numerals.{add-one}
use native.Mathlib.Omega.{arith}
use lib.Dec.{leb}
use lib.ListN.{length, get_or, drop, drop_of_length-le}
use lib.Seq.{drop-cons}
use borrow.Author.Tests.{leb-true, le-leb, lt-leb}
use Rattle.algebra.specs.Lists.{every}
use Rattle.algebra.proofs.Tests.{and_split}
use Rattle.text.specs.Decimal.{is_digit, digit, value, max_digits, max_number, is_number, number_of}
use Rattle.std.specs.Prelude.{Option, Some, None, Result, Ok, Err, OkIff}
use Rattle.std.specs.Result.{result_ok}

pub digit-range : (b : ℕ) → is_digit b ≡ true → (48 ≤ b) × (b ≤ 57)
digit-range b e = let t = and_split (leb 48 b) (leb b 57) e in (leb-true 48 b t.0, leb-true b 57 t.1)

-- the first i bytes of p are digits, and say v
pub record Reading (p : List ℕ) (v i : ℕ) : Type 0 where
  pub count : i ≤ length p
  pub digits : every is_digit p ≡ every is_digit (drop i p)
  pub is : value p ≡ foldl digit v (drop i p)
  pub small : v < 10 ^ i

module _ (p : List ℕ) where
  pub read_none : Reading p 0 0
  unfolding value
  read_none = record { count = omega arith; digits = refl; is = refl; small = omega arith }

  module _ {v i : ℕ} (r : Reading p v i) where
    module _ (h : i < length p) where
      abbrev b : ℕ
      b = get_or p i 0

      rest : drop i p ≡ b ∷ drop (i + 1) p
      rest = drop-cons p i 0 h ∙ ap (λ (k : ℕ). b ∷ drop k p) (sym (add-one i))

      pub read_bad : is_digit b ≡ false → every is_digit p ≡ false
      read_bad e = r.digits ∙ ap (every is_digit) rest ∙ ap (λ (c : Bool). c && every is_digit (drop (i + 1) p)) e

    module _ (h : length p ≤ i) where
      pub read-digits : every is_digit p ≡ true
      read-digits = r.digits ∙ ap (every is_digit) (drop_of_length-le p h)

      pub read-value : value p ≡ v
      read-value = r.is ∙ ap (foldl digit v) (drop_of_length-le p h)

  -- ---- pieces that are numbers, and others
  no_number : is_number p ≡ false → None ≡ number_of p
  no_number e = ap (λ (c : Bool). cond c (Some (value p)) None) (sym e)

  -- what an answer says of the piece
  pub some_number : is_number p ≡ true → number_of p ≡ Some (value p)
  some_number e = ap (λ (c : Bool). cond c (Some (value p)) None) e

  pub number_none : None ≡ number_of p → is_number p ≡ false
  number_none e = by (is_number p) e
    where
      by : (c : Bool) → ◌≡◌ {A = Option ℕ} None (cond c (Some (value p)) None) → c ≡ false
      by true e = absurd (cc)
      by false e = refl

  pub number_some : {n : ℕ} → Some n ≡ number_of p → (is_number p ≡ true) × (n ≡ value p)
  number_some {n} e = by (is_number p) e
    where
      by : (c : Bool) → Some n ≡ cond c (Some (value p)) None → (c ≡ true) × (n ≡ value p)
      by true e = (refl, cc)
      by false e = absurd (cc)

  pub too_short : length p ≡ 0 → None ≡ number_of p
  unfolding is_number
  too_short e = no_number (ap (λ (n : ℕ). (leb 1 n && leb n max_digits) && (every is_digit p && leb (value p) max_number)) e)

  pub too_long : max_digits < length p → None ≡ number_of p
  unfolding is_number
  too_long h = no_number (ap (λ (c : Bool). (leb 1 (length p) && c) && (every is_digit p && leb (value p) max_number)) (lt-leb (length p) max_digits h) ∙ and_false (leb 1 (length p)))
    where
      and_false : (b : Bool) → ((b && false) && (every is_digit p && leb (value p) max_number)) ≡ false
      and_false true = refl
      and_false false = refl

  module _ (few : 1 ≤ length p) (most : length p ≤ max_digits) where
    sized : (leb 1 (length p) && leb (length p) max_digits) ≡ true
    sized = λ i. le-leb 1 (length p) few i && le-leb (length p) max_digits most i

    pub no_digits : every is_digit p ≡ false → None ≡ number_of p
    unfolding is_number
    no_digits f = no_number (λ i. sized i && (f i && leb (value p) max_number))

    -- all are digits, and r is the number that they say, if it has 32 bits
    pub judged : {E : Type 0} (r : Result ℕ E) → every is_digit p ≡ true → OkIff r (value p < 4294967296) (value p) → result_ok r ≡ number_of p
    unfolding is_number
    judged r f o = narrow r o ∙ ap (λ (c : Bool). cond c (Some (value p)) None) (sym (λ i. sized i && (f i && leb (value p) max_number)))
      where
        narrow : {E : Type 0} (r : Result ℕ E) → OkIff r (value p < 4294967296) (value p) → result_ok r ≡ cond (leb (value p) max_number) (Some (value p)) None
        narrow (Ok x) o = ap (λ (n : ℕ). Some n) o.1 ∙ ap (λ (c : Bool). cond c (Some (value p)) None) (sym (le-leb (value p) max_number (omega (arith, o.0))))
        narrow (Err x) o = ap (λ (c : Bool). cond c (Some (value p)) None) (sym (lt-leb (value p) max_number (omega (arith, o))))
