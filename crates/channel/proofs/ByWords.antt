-- A block is judged by one pass over its words: what is not kept passes where its mirror does.
use mathlib.Core.Path.{◌≡◌, refl, sym, ap, ◌∙◌, subst}
use mathlib.Core.Bool.{Bool, true, false, cond, not, ◌&&◌, ◌||◌, true≢false}
use mathlib.Core.List.{List, [], ◌∷◌, ◌++◌}
use Prim.Native.Nat.{ℕ, zero, suc, ◌+◌, ◌*◌, ◌-◌, ◌/◌, ◌%◌, ◌<◌, ◌≤◌, zero-le}
use native.Mathlib.Nat.{div-add-mod', mod-lt, div-lt_iff_lt-mul, zero-add}
use native.Mathlib.Omega.{arith}
use lib.Dec.{eqb, leb}
use lib.IntN.{ℤ, pos, negsuc, nat_abs, neg_ℤ}
use borrow.Author.Tests.{leb-true, leb-false, le-leb, ne_eqb}
use Rattle.algebra.specs.Quadratic.{conjugate}
use Rattle.algebra.specs.Dyadic.{evenℤ}
use Rattle.algebra.specs.Lists.{all_below, every}
use Rattle.algebra.specs.Words.{joined, up_to, eqℤ}
use Rattle.algebra.proofs.Tests.{test_same, all-at, all-by}
use Rattle.algebra.proofs.Parts.{abs_neg}
use Rattle.exact.specs.Exact.{Number, root2, number_halves, within, max_numerator, max_exponent}
use Rattle.channel.specs.Layout.{word, Form, entry_words, entries, from, block_size, row_words, block_from}
use Rattle.channel.specs.WellFormed.{diagonal_ok}
use Rattle.channel.specs.Claims.{Plain}
use Rattle.channel.specs.Forms.{ByWords}
use Rattle.channel.proofs.Restore.{cell_below}
use Rattle.channel.proofs.RoundTrip.{all_same}
use Rattle.channel.proofs.Canonical.{read-block, read_plain, upper, lower}

-- ---- a test of every word
and-true : (a : Bool) → (a && true) ≡ a
and-true true = refl
and-true false = refl

and_assoc : (a b c : Bool) → (a && (b && c)) ≡ ((a && b) && c)
and_assoc true b c = refl
and_assoc false b c = refl

module _ (q : ℤ → Bool) where
  every_append : (xs ys : List ℤ) → every q (xs ++ ys) ≡ (every q xs && every q ys)
  every_append [] ys = refl
  every_append (x ∷ xs) ys = ap (λ (b : Bool). q x && b) (every_append xs ys) ∙ and_assoc (q x) (every q xs) (every q ys)

  every-joined : (n : ℕ) (f : ℕ → List ℤ) → every q (joined n f) ≡ all_below n (λ (i : ℕ). every q (f i))
  unfolding joined
  every-joined zero f = refl
  every-joined (suc n) f = every_append (joined n f) (f n) ∙ ap (λ (b : Bool). b && every q (f n)) (every-joined n f)

  abbrev four : Number → Bool
  four z = ((q z.re.re && q z.re.im) && q z.im.re) && q z.im.im

  module _ (q-neg : (x : ℤ) → q (neg_ℤ x) ≡ q x) (q-zero : q (pos 0) ≡ true) where
    -- an entry passes where its words do
    entry_test : (b : Bool) (z : Number) → Plain b z → every q (entry_words b z) ≡ four z
    entry_test false z p = two (q z.re.re) (q z.re.im) (q z.im.re) (q z.im.im)
      where
        two : (a b c d : Bool) → (a && (b && (c && (d && true)))) ≡ (((a && b) && c) && d)
        two true true true d = and-true d
        two true true false d = refl
        two true false c d = refl
        two false b c d = refl
    entry_test true z p =
        let h = p refl in
        two (q z.re.re) (q z.im.re)
        ∙ sym (λ i. ((q z.re.re && (ap q h.0 ∙ q-zero) i) && q z.im.re) && (ap q h.1 ∙ q-zero) i)
      where
        two : (a c : Bool) → (a && (c && true)) ≡ (((a && true) && c) && true)
        two true true = refl
        two true false = refl
        two false c = refl

    conj_test : (z : Number) → four (conjugate root2 z) ≡ four z
    conj_test z = λ i. ((q z.re.re && q z.re.im) && q-neg z.im.re i) && q-neg z.im.im i

    module _ (F : Form) (v : ℕ → ℤ) where
      abbrev w : ℕ
      w = F.side

      abbrev z : ℕ → Number
      z = block_from F v

      abbrev cell : ℕ → ℕ → Bool
      cell r j = every q (entry_words F.plain (z (r * w + (from F r + j))))

      cell_is : (r j : ℕ) → cell r j ≡ four (z (r * w + (from F r + j)))
      cell_is r j = entry_test F.plain _ (read_plain F v (r * w + (from F r + j)))

      module _ (e : all_below w (λ (r : ℕ). all_below (w - from F r) (cell r)) ≡ true) where
        at : (r c : ℕ) → r < w → c < w → from F r ≤ c → four (z (r * w + c)) ≡ true
        at r c p l h =
            let t : from F r + (c - from F r) ≡ c = omega arith in
            ap (λ (k : ℕ). four (z (r * w + k))) (sym t) ∙ sym (cell_is r (c - from F r))
            ∙ all-at (w - from F r) (cell r) (all-at w (λ (r : ℕ). all_below (w - from F r) (cell r)) e r p) (c - from F r) (omega arith)

        either : (b : Bool) → F.half ≡ b → (r c : ℕ) → r < w → c < w → (t : Bool) → leb (from F r) c ≡ t → four (z (r * w + c)) ≡ true
        either b h r c p l true t = at r c p l (leb-true (from F r) c t)
        either false h r c p l false t = absurd (omega (arith, leb-false (from F r) c t, ap (λ (b : Bool). cond b r 0) h))
        either true h r c p l false t =
            let u : c < r = subst (λ (b : Bool). c < cond b r 0) h (leb-false (from F r) c t) in
            ap four (lower F v h r c l u ∙ sym (ap (conjugate root2) (upper F v h c r p (omega arith))))
            ∙ conj_test (z (c * w + r))
            ∙ at c r l p (subst (λ (b : Bool). cond b c 0 ≤ r) (sym h) (omega arith))

      -- all that are kept, or all
      rows_test : all_below w (λ (r : ℕ). all_below (w - from F r) (cell r)) ≡ all_below (entries F) (λ (k : ℕ). four (z k))
      rows_test = test_same _ _ there back
        where
          back : all_below (entries F) (λ (k : ℕ). four (z k)) ≡ true → all_below w (λ (r : ℕ). all_below (w - from F r) (cell r)) ≡ true
          back e = all-by w _ (λ r h. all-by (w - from F r) (cell r) (λ j p. cell_is r j ∙ all-at (entries F) (λ (k : ℕ). four (z k)) e (r * w + (from F r + j)) (cell_below F r (from F r + j) h (omega arith))))

          there : all_below w (λ (r : ℕ). all_below (w - from F r) (cell r)) ≡ true → all_below (entries F) (λ (k : ℕ). four (z k)) ≡ true
          there e = all-by (entries F) (λ (k : ℕ). four (z k)) each
            where
              each : (k : ℕ) → k < entries F → four (z k) ≡ true
              each k l =
                  let s = some w l in
                  ap (λ (j : ℕ). four (z j)) (sym (div-add-mod' k w)) ∙ either e F.half refl (k / w) (k % w) ((div-lt_iff_lt-mul s).1 l) (mod-lt k s) (leb (from F (k / w)) (k % w)) refl
                where
                  some : (w : ℕ) → k < w * w → 0 < w
                  some zero u = omega arith
                  some (suc w) u = omega arith

      pub words_test : all_below (entries F) (λ (k : ℕ). four (z k)) ≡ all_below (block_size F) (λ (i : ℕ). q (v i))
      words_test =
          sym rows_test
          ∙ sym (every-joined w (row_words F z) ∙ all_same w _ _ (λ r h. every-joined (w - from F r) _))
          ∙ ap (every q) (read-block F v)
          ∙ every-joined (block_size F) _
          ∙ all_same (block_size F) _ _ (λ i h. and-true (q (v (0 + i))) ∙ ap (λ (k : ℕ). q (v k)) (zero-add i))

-- ---- ranges and parity
pub zero_test : (x : ℤ) → eqb (nat_abs x) 0 ≡ eqℤ x (pos 0)
zero_test (pos a) = refl
zero_test (negsuc a) = ne_eqb (suc a) 0 (λ e. omega arith)

pub by-words : ByWords
by-words F l at = go (up_to max_exponent x) refl
  where
    v : ℕ → ℤ
    v i = word l (at + 4 + i)

    x : ℤ
    x = word l (at + 3)

    z : ℕ → Number
    z = block_from F v

    d : Bool
    d = diagonal_ok F z

    range : all_below (entries F) (λ (k : ℕ). within max_numerator (z k)) ≡ all_below (block_size F) (λ (i : ℕ). leb (nat_abs (v i)) max_numerator)
    range = words_test (λ (y : ℤ). leb (nat_abs y) max_numerator) (λ y. ap (λ (k : ℕ). leb k max_numerator) (abs_neg y)) (le-leb 0 max_numerator zero-le) F v

    parity : all_below (entries F) (λ (k : ℕ). number_halves.even (z k)) ≡ all_below (block_size F) (λ (i : ℕ). evenℤ (v i))
    parity =
        all_same (entries F) _ _ (λ k h. and_assoc (evenℤ (z k).re.re && evenℤ (z k).re.im) (evenℤ (z k).im.re) (evenℤ (z k).im.im))
        ∙ words_test evenℤ (λ y. ap (λ (k : ℕ). eqb (k % 2) 0) (abs_neg y)) refl F v

    abs-up : (k : ℕ) (y : ℤ) → up_to k y ≡ true → leb (nat_abs y) k ≡ true
    abs-up k (pos a) e = e
    abs-up k (negsuc a) e = absurd (true≢false (sym e))

    -- the two tests, with the exponent's range first
    said : Bool → Bool → Bool → Bool → Bool
    said a b c e = a && (((b && c) && e) && d)

    asked : Bool → Bool → Bool → Bool
    asked a c e = (a && (c && e)) && d

    -- of the numbers, and of the words
    N : Bool
    N = all_below (entries F) (λ (k : ℕ). within max_numerator (z k))

    M : Bool
    M = eqb (nat_abs x) 0 || not (all_below (entries F) (λ (k : ℕ). number_halves.even (z k)))

    A : Bool
    A = all_below (block_size F) (λ (i : ℕ). leb (nat_abs (v i)) max_numerator)

    B : Bool
    B = eqℤ x (pos 0) || not (all_below (block_size F) (λ (i : ℕ). evenℤ (v i)))

    go : (a : Bool) → up_to max_exponent x ≡ a → said (up_to max_exponent x) (leb (nat_abs x) max_exponent) N M ≡ asked (up_to max_exponent x) A B
    go true e = (λ i. said (e i) (abs-up max_exponent x e i) (range i) (zero_test x i || not (parity i))) ∙ sym (ap (λ (a : Bool). asked a A B) e)
    go false e = ap (λ (a : Bool). said a (leb (nat_abs x) max_exponent) N M) e ∙ sym (ap (λ (a : Bool). asked a A B) e)
