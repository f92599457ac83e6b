-- Laws of numbers in words: words read back, signs, and sums term by term, with a flag that says whether no term stands in front.
use mathlib.Core.Path.{◌≡◌, refl, sym, ap, ◌∙◌}
use mathlib.Core.Bool.{Bool, true, false, cond, not, ◌&&◌, true≢false}
use mathlib.Core.List.{List, [], ◌∷◌, ◌++◌}
use Prim.Native.Nat.{ℕ, ◌+◌, ◌*◌, ◌%◌, ◌^◌, ◌<◌, ◌≤◌}
use native.Mathlib.Omega.{arith}
use lib.Dec.{eqb, ltb}
use lib.ListN.{length}
use lib.IntN.{ℤ, pos, negsuc}
use lib.Signed.{lt_z, mag}
use mir.Syntax.{w64}
use mir.Val.{SFits, to_z, of_z}
use mir.Facts.{to_z-of_z}
use borrow.Author.Tests.{le-leb, lt-leb, eq-eqb, ne_eqb}
use Rattle.algebra.specs.Dyadic.{frac}
use Rattle.algebra.specs.Lists.{concat_map, filter_by, total}
use Rattle.algebra.proofs.Signed.{is_neg, not_neg}
use Rattle.exact.specs.Exact.{Number, number, max_exponent}
use Rattle.text.specs.Decimal.{decimal}
use Rattle.text.specs.declared.page.Writer.{Writer}
use Rattle.text.specs.Inner.Puts.{Puts}
use Rattle.text.proofs.Put as Put
use Rattle.text.proofs.Put.{text, then}
use Rattle.answers.specs.Utf8.{utf8}
use Rattle.answers.specs.Numbers.{Term, term, is_zero, terms, sign, sized, term_text, is_sum, sum_text, numerator, denominator, number_text}
use Rattle.answers.specs.Inner.Sums.{shown, count_of}
use Rattle.answers.proofs.Bits.{power}

-- ---- signs
below : (f : Bool) (m n : ℕ) → sign f (negsuc m) ≡ sign f (negsuc n)
below true m n = refl
below false m n = refl

above : (f : Bool) (m n : ℕ) → sign f (pos m) ≡ sign f (pos n)
above true m n = refl
above false m n = refl

signed : (f : Bool) (z : ℤ) (b : Bool) → lt_z z (pos 0) ≡ b → sign f (cond b (negsuc 0) (pos 0)) ≡ sign f z
signed f z true e = below f 0 (mag z) ∙ ap (sign f) (sym (is_neg z e))
signed f z false e = above f 0 _ ∙ ap (sign f) (sym (not_neg z e))

-- the sign by two tests
pub sign_is : (first : Bool) (z : ℤ) {f b : Bool} → SFits w64 z → first ≡ f → lt_z (to_z w64 (of_z w64 z)) (pos 0) ≡ b → sign f (cond b (negsuc 0) (pos 0)) ≡ sign first z
sign_is first z {f} {b} s e g = signed f (to_z w64 (of_z w64 z)) b g ∙ (λ i. sign (sym e i) (to_z-of_z s i))

-- ---- terms
pub sized_is : (n : ℕ) (unit : List ℕ) {b : Bool} → (eqb n 1 && ltb 0 (length unit)) ≡ b → cond b unit (decimal n ++ unit) ≡ sized n unit
unfolding sized
sized_is n unit e = ap (λ (b : Bool). cond b unit (decimal n ++ unit)) (sym e)

pub shown_is : (first : Bool) (z : ℤ) (unit : List ℕ) {b : Bool} → SFits w64 z → is_zero (to_z w64 (of_z w64 z)) ≡ b
    → cond b [] (term_text first (record { coefficient = to_z w64 (of_z w64 z); unit = unit })) ≡ shown first (record { coefficient = z; unit = unit })
shown_is first z unit s e =
    ap (λ (b : Bool). cond b [] (term_text first (record { coefficient = to_z w64 (of_z w64 z); unit = unit }))) (sym e) ∙ ap (λ (y : ℤ). shown first (record { coefficient = y; unit = unit })) (to_z-of_z s)

pub read-absent : {b : Bool} {z : ℤ} → SFits w64 z → b ≡ is_zero (to_z w64 (of_z w64 z)) → b ≡ is_zero z
read-absent s e = e ∙ ap is_zero (to_z-of_z s)

pub read-term : (first : Bool) (unit : List ℕ) {z : ℤ} {p q : Writer} → SFits w64 z → Puts p (shown first (record { coefficient = to_z w64 (of_z w64 z); unit = unit })) q
    → Puts p (shown first (record { coefficient = z; unit = unit })) q
read-term first unit s w = text (ap (λ (y : ℤ). shown first (record { coefficient = y; unit = unit })) (to_z-of_z s)) w

-- ---- fractions
pub numerator_is : (z : Number) {b : Bool} → is_sum (terms z) ≡ b → cond b (40 ∷ [] ++ sum_text (terms z) ++ 41 ∷ []) (sum_text (terms z)) ≡ numerator (terms z)
unfolding numerator
numerator_is z f = ap (λ (b : Bool). cond b (40 ∷ [] ++ sum_text (terms z) ++ 41 ∷ []) (sum_text (terms z))) (sym f)

pub denominator-small : (e : ℕ) → e ≤ max_exponent → 47 ∷ decimal (1 * 2 ^ e % 2 ^ 64) ≡ denominator e
unfolding denominator
denominator-small e h =
    ap (λ (n : ℕ). 47 ∷ decimal n) (power e (omega arith))
    ∙ ap (λ (b : Bool). cond b (47 ∷ decimal (2 ^ e)) (47 ∷ 50 ∷ 94 ∷ decimal e)) (sym (le-leb e max_exponent h))

pub denominator_large : (e : ℕ) → max_exponent < e → 47 ∷ 50 ∷ 94 ∷ decimal e ≡ denominator e
unfolding denominator
denominator_large e h = ap (λ (b : Bool). cond b (47 ∷ decimal (2 ^ e)) (47 ∷ 50 ∷ 94 ∷ decimal e)) (sym (lt-leb e max_exponent h))

module _ (z : Number) (e : ℕ) where
  abbrev by : Bool → List ℕ
  by b = cond b (sum_text (terms z)) (numerator (terms z) ++ denominator e)

  pub fraction_whole : e ≡ 0 → sum_text (terms z) ≡ number_text (frac z e)
  unfolding number_text
  fraction_whole q = ap by (sym (eq-eqb e 0 q))

  pub fraction_parts : (e ≡ 0 → ⊥) → numerator (terms z) ++ denominator e ≡ number_text (frac z e)
  unfolding number_text
  fraction_parts q = ap by (sym (ne_eqb e 0 q))

-- ---- sums
abbrev absent : Term → Bool
absent t = is_zero t.coefficient

abbrev present : List Term → List Term
present = filter_by (λ (t : Term). not (absent t))

-- the terms, and whether none of them is there
abbrev run : Bool → List Term → List ℕ
run first [] = []
run first (t ∷ ts) = shown first t ++ run (first && absent t) ts

abbrev none : Bool → List Term → Bool
none first [] = first
none first (t ∷ ts) = none (first && absent t) ts

later : (ts : List Term) → run false ts ≡ concat_map (term_text false) (present ts)
later [] = refl
later (t ∷ ts) = by (absent t) (later ts)
  where
    by : (b : Bool) → run false ts ≡ concat_map (term_text false) (present ts) → cond b [] (term_text false t) ++ run false ts ≡ concat_map (term_text false) (cond (not b) (t ∷ present ts) (present ts))
    by true e = e
    by false e = ap (λ (bs : List ℕ). term_text false t ++ bs) e

all_shown : (ts : List Term) → none true ts ≡ false → run true ts ≡ sum_text (present ts)
unfolding sum_text
all_shown [] e = absurd (true≢false e)
all_shown (t ∷ ts) e = by (absent t) e (all_shown ts)
  where
    by : (b : Bool) → none b ts ≡ false → (none true ts ≡ false → run true ts ≡ sum_text (present ts))
        → cond b [] (term_text true t) ++ run b ts ≡ sum_text (cond (not b) (t ∷ present ts) (present ts))
    by true e r = r e
    by false e r = ap (λ (bs : List ℕ). term_text true t ++ bs) (later ts)

no_more : (ts : List Term) → none false ts ≡ false
no_more [] = refl
no_more (t ∷ ts) = no_more ts

none-shown : (ts : List Term) → none true ts ≡ true → 48 ∷ [] ≡ sum_text (present ts)
unfolding sum_text
none-shown [] e = refl
none-shown (t ∷ ts) e = by (absent t) e (none-shown ts)
  where
    by : (b : Bool) → none b ts ≡ true → (none true ts ≡ true → 48 ∷ [] ≡ sum_text (present ts)) → 48 ∷ [] ≡ sum_text (cond (not b) (t ∷ present ts) (present ts))
    by true e r = r e
    by false e r = absurd (true≢false (sym e ∙ no_more ts))

-- how many are there
counted : (ts : List Term) → length (present ts) ≡ total (λ (t : Term). count_of t.coefficient) ts
counted [] = refl
counted (t ∷ ts) = by (absent t) (counted ts)
  where
    by : (b : Bool) → length (present ts) ≡ total (λ (t : Term). count_of t.coefficient) ts
        → length (cond (not b) (t ∷ present ts) (present ts)) ≡ cond b 0 1 + total (λ (t : Term). count_of t.coefficient) ts
    by true e = omega arith
    by false e = omega arith

-- ---- the four terms of a number
module _ (w x y z : ℤ) where
  abbrev four : List Term
  four = term w "" ∷ term x "√2" ∷ term y "i" ∷ term z "i√2" ∷ []

  module _ {f g h k : Bool} (e : f ≡ is_zero w) (p : g ≡ is_zero x) (q : h ≡ is_zero y) (r : k ≡ is_zero z) where
    flag : ((f && g) && h) && k ≡ none true four
    flag = λ i. ((e i && p i) && q i) && r i

    pub sum-none : (((f && g) && h) && k) ≡ true → 48 ∷ [] ≡ sum_text (terms (number w x y z))
    unfolding terms
    sum-none t = none-shown four (sym flag ∙ t)

    pub sum_is : (((f && g) && h) && k) ≡ false
        → shown true (term w "") ++ (shown f (term x "√2") ++ (shown (f && g) (term y "i") ++ (shown ((f && g) && h) (term z "i√2") ++ []))) ≡ sum_text (terms (number w x y z))
    unfolding terms
    sum_is t =
        (λ i. shown true (term w "") ++ (shown (e i) (term x "√2") ++ (shown (e i && p i) (term y "i") ++ (shown ((e i && p i) && q i) (term z "i√2") ++ []))))
        ∙ all_shown four (sym flag ∙ t)

  pub sum-counted : {a b c d : ℕ} → a ≡ count_of w → b ≡ count_of x → c ≡ count_of y → d ≡ count_of z → ltb 1 (a + b + c + d) ≡ is_sum (terms (number w x y z))
  unfolding terms
  sum-counted {a} {b} {c} {d} e f g h = let t : a + b + c + d ≡ length (terms (number w x y z)) = omega (arith, counted four) in ap (ltb 1) t

-- ---- the four words of a number, which the code reads
pub record Fitting (v : Number) : Type 0 where
  pub w : SFits w64 v.re.re
  pub x : SFits w64 v.re.im
  pub y : SFits w64 v.im.re
  pub z : SFits w64 v.im.im

pub fitting : (v : Number) → mag v.re.re < 2 ^ 63 → mag v.re.im < 2 ^ 63 → mag v.im.re < 2 ^ 63 → mag v.im.im < 2 ^ 63 → Fitting v
fitting v w x y z = record { w = record { sfits = w }; x = record { sfits = x }; y = record { sfits = y }; z = record { sfits = z } }

abbrev read : ℤ → ℤ
read z = to_z w64 (of_z w64 z)

module _ (v : Number) (fit : Fitting v) where
  module _ {f g h k : Bool} (e : f ≡ is_zero (read v.re.re)) (p : g ≡ is_zero (read v.re.im)) (q : h ≡ is_zero (read v.im.re)) (r : k ≡ is_zero (read v.im.im)) where
    pub none_read : (((f && g) && h) && k) ≡ true → 48 ∷ [] ≡ sum_text (terms v)
    none_read = sum-none v.re.re v.re.im v.im.re v.im.im (read-absent fit.w e) (read-absent fit.x p) (read-absent fit.y q) (read-absent fit.z r)

    pub sum_read : (((f && g) && h) && k) ≡ false → {o a b c d : Writer} → Puts o (shown true (term (read v.re.re) "")) a → Puts a (shown f (term (read v.re.im) "√2")) b
        → Puts b (shown (f && g) (term (read v.im.re) "i")) c → Puts c (shown ((f && g) && h) (term (read v.im.im) "i√2")) d → Puts o (sum_text (terms v)) d
    sum_read t a b c d =
        text (sum_is v.re.re v.re.im v.im.re v.im.im (read-absent fit.w e) (read-absent fit.x p) (read-absent fit.y q) (read-absent fit.z r) t)
        (then (read-term true (utf8 "") fit.w a) (then (read-term f (utf8 "√2") fit.x b) (then (read-term (f && g) (utf8 "i") fit.y c) (then (read-term ((f && g) && h) (utf8 "i√2") fit.z d) (Put.none _)))))

  pub counted_read : {a b c d : ℕ} → a ≡ count_of (read v.re.re) → b ≡ count_of (read v.re.im) → c ≡ count_of (read v.im.re) → d ≡ count_of (read v.im.im) → ltb 1 (a + b + c + d) ≡ is_sum (terms v)
  counted_read a b c d =
      sum-counted v.re.re v.re.im v.im.re v.im.im (a ∙ ap count_of (to_z-of_z fit.w)) (b ∙ ap count_of (to_z-of_z fit.x)) (c ∙ ap count_of (to_z-of_z fit.y)) (d ∙ ap count_of (to_z-of_z fit.z))
