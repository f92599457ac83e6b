-- The claims on the comparison of two channels.
use Rattle.std.specs.Prelude.{is_ok, Option, Some, None, Result, Ok, Err}
use Rattle.std.specs.Option.{option_or, option_map}
use Rattle.std.specs.Result.{result_and, result_map_both}
use mathlib.Core.Path.{◌≡◌, refl, sym, ap, ◌∙◌, subst}
use mathlib.Core.Bool.{Bool, true, false, cond, ◌&&◌, ◌||◌, true≢false}
use mathlib.Core.List.{List, [], ◌∷◌, map}
use Prim.Native.Nat.{ℕ, zero, suc, ◌+◌, ◌*◌, ◌/◌, ◌%◌, ◌≤◌, ◌<◌}
use native.Mathlib.Nat.{div-add-mod', div-lt_iff_lt-mul, mod-lt}
use native.Mathlib.Omega.{arith}
use lib.Dec.{eqb}
use lib.IntN.{ℤ}
use borrow.Author.Tests.{eq-eqb, eqb-true}
use Rattle.algebra.proofs.Tests.{and_split, eqb_same}
use Rattle.exact.specs.Exact.{equal}
use Rattle.exact.proofs.Equal.{equal-swap}
use Rattle.scalar.specs.Calls.{scalar_of}
use Rattle.verdict.specs.Questions.{Verdict}
use Rattle.verdict.specs.declared.Refusal.{Refusal}
use Rattle.compare.specs.declared.Comparison.{Comparison}
use Rattle.compare.specs.declared.Comparison.TheVariants.{Same, Dimensions, Differs}
use Rattle.compare.specs.declared.Difference.{Difference}
use Rattle.channel.specs.Layout.{side, dim_at, bits_at, read_back}
use Rattle.channel.specs.WellFormed.{some_zero, verdict_by, form_verdict}
use Rattle.compare.specs.Compare.{Both, entry, scan, first, found, merge, compare_of}
use Rattle.channel.specs.Claims.{Sound}
use Rattle.compare.specs.Claims.{entry_of, earlier, Comparable, Agree, SameExactly, Alike, AlikeExactly, swapped, turned, Symmetric, FirstAt, FirstEntry}
use Rattle.channel.proofs.Judging.{formed, form-right}
use Rattle.channel.proofs.Sorted.{sorted}
use Rattle.compare.proofs.Merged.{swap, merge-swap, merge-left, merge-right, merge_sorted, look_left, look_right}
use Rattle.compare.proofs.Stores.{same-stores}
use Rattle.compare.proofs.First.{Compared, alike, differs, compared}

pub sound : (l : List ℤ) → Sound l → form_verdict l ≡ Ok tt
sound l s = λ i. verdict_by (s.right i) (s.full i)

module _ (l r : List ℤ) where
  abbrev both : List Both
  both = merge (read_back l) (read_back r)

  -- the answer by the two verdicts and the two tests
  abbrev by : Verdict → Verdict → Bool → Bool → Result Comparison Refusal
  by p q s t = result_and p (result_and q (Ok (cond (s && t) (found (first (side (dim_at l)) both)) Dimensions)))

  module _ (c : Comparable l r) where
    is_first : compare_of l r ≡ Ok (found (first (side (dim_at l)) both))
    is_first = λ i. by (sound l c.left i) (sound r c.right i) (eq-eqb (dim_at l) (dim_at r) c.dims i) (eq-eqb (bits_at l) (bits_at r) c.bits i)

    left_is : (s k : ℕ) → look_left both s k ≡ entry_of l s k
    left_is = merge-left (read_back l) (read_back r) (sorted l c.left.right) (sorted r c.right.right)

    right_is : (s k : ℕ) → look_right both s k ≡ entry_of r s k
    right_is = merge-right (read_back l) (read_back r) (sorted l c.left.right) (sorted r c.right.right)

    outcome : Compared (side (dim_at l)) both (first (side (dim_at l)) both)
    outcome = compared (side (dim_at l)) both (merge_sorted (read_back l) (read_back r) (sorted l c.left.right) (sorted r c.right.right))

    across : (s k : ℕ) → look_left both s k ≡ look_right both s k → entry_of l s k ≡ entry_of r s k
    across s k e = sym (left_is s k) ∙ e ∙ right_is s k

    back : (s k : ℕ) → entry_of l s k ≡ entry_of r s k → look_left both s k ≡ look_right both s k
    back s k e = left_is s k ∙ e ∙ sym (right_is s k)

-- the answers are three different ones
same_differs : {X : Type 0} {d : Difference} → ◌≡◌ {A = Result Comparison Refusal} (Ok Same) (Ok (Differs d)) → X
same_differs e = absurd (cc)

same_dimensions : {X : Type 0} → ◌≡◌ {A = Result Comparison Refusal} (Ok Same) (Ok Dimensions) → X
same_dimensions e = absurd (cc)

pub same_exactly : SameExactly
same_exactly l r c = (to (outcome l r c), from (outcome l r c))
  where
    to : Compared (side (dim_at l)) (both l r) (first (side (dim_at l)) (both l r)) → compare_of l r ≡ Ok Same → Agree l r
    to (alike d f) e = λ s k q. across l r c s k (f s k q)
    to (differs s q p f u d) e = same_differs (sym e ∙ is_first l r c ∙ ap (λ (o : Option Difference). Ok (found o)) d)

    from : Compared (side (dim_at l)) (both l r) (first (side (dim_at l)) (both l r)) → Agree l r → compare_of l r ≡ Ok Same
    from (alike d f) a = is_first l r c ∙ ap (λ (o : Option Difference). Ok (found o)) d
    from (differs s q p f u d) a = absurd (u (back l r c s q (a s q p)))

pub alike_exactly : AlikeExactly
alike_exactly l r p q = (λ e. go (eqb (dim_at l) (dim_at r) && eqb (bits_at l) (bits_at r)) refl e, λ a. (same_exactly l r (comparable a.dims a.bits)).1 a.entries)
  where
    comparable : dim_at l ≡ dim_at r → bits_at l ≡ bits_at r → Comparable l r
    comparable d b = record { left = p; right = q; dims = d; bits = b }

    go : (t : Bool) → (eqb (dim_at l) (dim_at r) && eqb (bits_at l) (bits_at r)) ≡ t → compare_of l r ≡ Ok Same → Alike l r
    go true t e =
        let u = and_split (eqb (dim_at l) (dim_at r)) (eqb (bits_at l) (bits_at r)) t in
        let d = eqb-true (dim_at l) (dim_at r) u.0 in
        let b = eqb-true (bits_at l) (bits_at r) u.1 in
        let a = (same_exactly l r (comparable d b)).0 e in
        record {
          dims = d;
          bits = b;
          stores = same-stores (side (dim_at l)) (read_back l) (read_back r) (sorted l p.right) (sorted r q.right) p.full (ap (λ (k : ℕ). some_zero (side k) (read_back r)) d ∙ q.full) a;
          entries = a;
        }
    go false t e = same_dimensions (sym e ∙ is)
      where
        is : compare_of l r ≡ Ok Dimensions
        is = λ i. result_and (sound l p i) (result_and (sound r q i) (Ok (cond (t i) (found (first (side (dim_at l)) (both l r))) Dimensions)))

same : {a b : Difference} → ◌≡◌ {A = Result Comparison Refusal} (Ok (Differs a)) (Ok (Differs b)) → a ≡ b
same e = cc

pub first_entry : FirstEntry
first_entry l r c d e = go (outcome l r c)
  where
    w : ℕ
    w = side (dim_at l)

    some : 0 < w
    some = by (dim_at l) (formed l c.left.right).head.some
      where
        by : (d : ℕ) → 1 ≤ d → 0 < d * d
        by zero h = absurd (omega arith)
        by (suc d) h = omega arith

    go : Compared w (both l r) (first w (both l r)) → FirstAt l r d
    go (alike g f) = same_differs (ap (λ (o : Option Difference). Ok (found o)) (sym g) ∙ sym (is_first l r c) ∙ e)
    go (differs s q h f u g) = subst (FirstAt l r) there at
      where
        found_there : Difference
        found_there = entry s (q / w) (q % w) (look_left (both l r) s q) (look_right (both l r) s q)

        there : found_there ≡ d
        there = same (ap (λ (o : Option Difference). Ok (found o)) (sym g) ∙ sym (is_first l r c) ∙ e)

        k : q / w * w + q % w ≡ q
        k = div-add-mod' q w

        at : FirstAt l r found_there
        at = record {
          row = (div-lt_iff_lt-mul some).1 h;
          col = mod-lt q some;
          left = ap scalar_of (left_is l r c s q) ∙ ap (λ (j : ℕ). scalar_of (entry_of l s j)) (sym k);
          right = ap scalar_of (right_is l r c s q) ∙ ap (λ (j : ℕ). scalar_of (entry_of r s j)) (sym k);
          unequal = λ v. u (back l r c s q (subst (λ (j : ℕ). entry_of l s j ≡ entry_of r s j) k v));
          agree = λ t j m z. across l r c t j (f t j m (subst (λ (i : ℕ). earlier t j s i ≡ true) k z));
        }

-- ---- the other way round
scan-swap : (b : Both) (w n k : ℕ) → scan (swap b) w n k ≡ option_map swapped (scan b w n k)
unfolding scan
scan-swap b w zero k = refl
scan-swap b w (suc n) k = ap (λ (t : Bool). cond t (scan (swap b) w n (suc k)) (Some there)) (equal-swap (b.right k) (b.left k)) ∙ go (equal (b.left k) (b.right k)) (scan-swap b w n (suc k))
  where
    there : Difference
    there = entry b.store (k / w) (k % w) (b.right k) (b.left k)

    go : (t : Bool) → scan (swap b) w n (suc k) ≡ option_map swapped (scan b w n (suc k))
        → cond t (scan (swap b) w n (suc k)) (Some there) ≡ option_map swapped (cond t (scan b w n (suc k)) (Some (entry b.store (k / w) (k % w) (b.left k) (b.right k))))
    go true e = e
    go false e = refl

or_swap : (a b : Option Difference) → option_or (option_map swapped a) (option_map swapped b) ≡ option_map swapped (option_or a b)
or_swap None b = refl
or_swap (Some d) b = refl

first-swap : (w : ℕ) (bs : List Both) → first w (map swap bs) ≡ option_map swapped (first w bs)
first-swap w [] = refl
first-swap w (b ∷ bs) = (λ i. option_or (scan-swap b w (w * w) 0 i) (first-swap w bs i)) ∙ or_swap (scan b w (w * w) 0) (first w bs)

found-swap : (o : Option Difference) → found (option_map swapped o) ≡ turned (found o)
found-swap None = refl
found-swap (Some d) = refl

abbrev turned_answer : Result Comparison Refusal → Result Comparison Refusal
turned_answer = result_map_both turned (λ (r : Refusal). r)

pub symmetric : Symmetric
symmetric l r h = go (form_verdict l) refl (form_verdict r) refl h (eqb (dim_at l) (dim_at r)) refl (eqb (bits_at l) (bits_at r)) refl
  where
    mine : (p q : Verdict) (s t : Bool) → form_verdict l ≡ p → form_verdict r ≡ q → eqb (dim_at l) (dim_at r) ≡ s → eqb (bits_at l) (bits_at r) ≡ t → compare_of l r ≡ by l r p q s t
    mine p q s t a b c d = λ i. by l r (a i) (b i) (c i) (d i)

    theirs : (p q : Verdict) (s t : Bool) → form_verdict l ≡ p → form_verdict r ≡ q → eqb (dim_at l) (dim_at r) ≡ s → eqb (bits_at l) (bits_at r) ≡ t → compare_of r l ≡ by r l q p s t
    theirs p q s t a b c d = λ i. by r l (b i) (a i) ((around (dim_at r) (dim_at l) ∙ c) i) ((around (bits_at r) (bits_at l) ∙ d) i)
      where
        around : (m n : ℕ) → eqb m n ≡ eqb n m
        around m n = eqb_same m n n m sym sym

    go : (p : Verdict) → form_verdict l ≡ p → (q : Verdict) → form_verdict r ≡ q → (is_ok (form_verdict l) || is_ok (form_verdict r)) ≡ true
        → (s : Bool) → eqb (dim_at l) (dim_at r) ≡ s → (t : Bool) → eqb (bits_at l) (bits_at r) ≡ t → compare_of r l ≡ turned_answer (compare_of l r)
    go (Err x) a (Ok y) b h s c t d = theirs (Err x) (Ok y) s t a b c d ∙ sym (ap turned_answer (mine (Err x) (Ok y) s t a b c d))
    go (Err x) a (Err y) b h s c t d = absurd (true≢false (sym h ∙ (λ i. is_ok (a i) || is_ok (b i))))
    go (Ok x) a (Err y) b h s c t d = theirs (Ok x) (Err y) s t a b c d ∙ sym (ap turned_answer (mine (Ok x) (Err y) s t a b c d))
    go (Ok x) a (Ok y) b h false c t d = theirs (Ok x) (Ok y) false t a b c d ∙ sym (ap turned_answer (mine (Ok x) (Ok y) false t a b c d))
    go (Ok x) a (Ok y) b h true c false d = theirs (Ok x) (Ok y) true false a b c d ∙ sym (ap turned_answer (mine (Ok x) (Ok y) true false a b c d))
    go (Ok x) a (Ok y) b h true c true d =
        theirs (Ok x) (Ok y) true true a b c d
        ∙ (λ i. Ok (found (first (side (sym (eqb-true (dim_at l) (dim_at r) c) i)) (merge-swap (read_back l) (read_back r) (sorted l (form-right l (ap is_ok a))) (sorted r (form-right r (ap is_ok b))) i))))
        ∙ ap (λ (o : Option Difference). Ok (found o)) (first-swap (side (dim_at l)) (both l r))
        ∙ ap (λ (o : Comparison). Ok o) (found-swap (first (side (dim_at l)) (both l r)))
        ∙ sym (ap turned_answer (mine (Ok x) (Ok y) true true a b c d))
