-- Sides of a turn, and blocks of one exponent: an entry is the same exactly where its four words are.
use Rattle.std.specs.Prelude.{Some}
use mathlib.Core.Path.{◌≡◌, refl, sym, ap, ◌∙◌}
use mathlib.Core.Bool.{true, ◌&&◌}
use mathlib.Core.List.{List}
use Prim.Native.Nat.{ℕ, ◌+◌, ◌*◌, ◌<◌, ◌≤◌}
use native.Mathlib.Nat.{add_assoc}
use native.Mathlib.Omega.{arith}
use lib.Dec.{leb}
use lib.ListN.{length}
use lib.IntN.{ℤ, nat_abs}
use borrow.Author.Tests.{leb-true}
use Rattle.algebra.specs.Words.{eqℤ}
use Rattle.algebra.proofs.Tests.{and_split, test_same, all-at, all-by}
use Rattle.algebra.proofs.Signed.{eqℤ-true, eqℤ-refl}
use Rattle.algebra.proofs.Quadratic.{ℤ√2i}
use Rattle.algebra.proofs.Dyadic.{value_same}
use Rattle.exact.specs.Exact.{Number, number, lowest, equal}
use Rattle.exact.proofs.Exact.{exact_halving}
use Rattle.exact.proofs.Equal.{equal-true, equal_of}
use Rattle.gather.specs.Words.{same_at, same_words}
use Rattle.channel.specs.Layout.{record_head, exponent_place, word, channels, dim_at, exp_at, numbers_at, entry_at}
use Rattle.channel.specs.Inner.Shapes.{Entries}
use Rattle.compare.specs.Inner.Sides.{Side, holds, side_of, both_alike}

-- the entries that can be read of a side
pub holds-entries : (n : ℕ) (l : List ℤ) → holds n (Some l) ≡ true → Entries l 0 n
holds-entries n l e = let p = and_split (leb (record_head + n * 4) (length l)) _ e in record { inside = leb-true _ (length l) p.0; exponent = p.1 }

pub held-inside : {s : Side} {l : List ℤ} (n : ℕ) → s ≡ Some l → holds n s ≡ true → record_head + n * 4 ≤ length l
held-inside {l = l} n p e = (holds-entries n l (sym (ap (holds n) p) ∙ e)).inside

module _ (l : List ℤ) (a : ℕ) (r : List ℤ) (b k : ℕ) where
  abbrev z : Number
  z = numbers_at (channels (dim_at l)) l a k

  abbrev y : Number
  y = numbers_at (channels (dim_at r)) r b k

  place : (at i : ℕ) → at + record_head + k * 4 + i ≡ at + record_head + (k * 4 + i)
  place at i = add_assoc (at + record_head) (k * 4) i

  module _ (e : word l (a + exponent_place) ≡ word r (b + exponent_place)) where
    same_numbers : same_words l (a + record_head + k * 4) r (b + record_head + k * 4) 4 ≡ true → z ≡ y
    same_numbers s = λ j. number (w 0 (omega arith) j) (w 1 (omega arith) j) (w 2 (omega arith) j) (w 3 (omega arith) j)
      where
        w : (i : ℕ) → i < 4 → word l (a + record_head + (k * 4 + i)) ≡ word r (b + record_head + (k * 4 + i))
        w i h = ap (word l) (sym (place a i)) ∙ eqℤ-true _ _ (all-at 4 (same_at l (a + record_head + k * 4) r (b + record_head + k * 4)) s i h) ∙ ap (word r) (place b i)

    number-words : z ≡ y → same_words l (a + record_head + k * 4) r (b + record_head + k * 4) 4 ≡ true
    number-words s = λ j. (((true && t 0 (λ (x : Number). x.re.re) refl refl j) && t 1 (λ (x : Number). x.re.im) refl refl j) && t 2 (λ (x : Number). x.im.re) refl refl j) && t 3 (λ (x : Number). x.im.im) refl refl j
      where
        t : (i : ℕ) (f : Number → ℤ) → f z ≡ word l (a + record_head + (k * 4 + i)) → f y ≡ word r (b + record_head + (k * 4 + i)) → same_at l (a + record_head + k * 4) r (b + record_head + k * 4) i ≡ true
        t i f p q =
            ap (eqℤ (word l (a + record_head + k * 4 + i))) (sym (ap (word l) (place a i) ∙ sym p ∙ ap f s ∙ q ∙ sym (ap (word r) (place b i))))
            ∙ eqℤ-refl (word l (a + record_head + k * 4 + i))

    pub four_decide : same_words l (a + record_head + k * 4) r (b + record_head + k * 4) 4 ≡ equal (entry_at (channels (dim_at l)) l a k) (entry_at (channels (dim_at r)) r b k)
    four_decide =
        test_same _ _ (λ s. equal_of _ _ (λ j. lowest (same_numbers s j) (nat_abs (e j))))
        (λ s. number-words (value_same ℤ√2i exact_halving (exp_at r b) z y (ap (λ (x : ℤ). lowest z (nat_abs x)) (sym e) ∙ equal-true _ _ s)))

-- entry k among n whose words are the same
pub rows_decide : (l : List ℤ) (a : ℕ) (r : List ℤ) (b n : ℕ) → word l (a + exponent_place) ≡ word r (b + exponent_place) → same_words l (a + record_head) r (b + record_head) (n * 4) ≡ true
    → (k : ℕ) → k < n → equal (entry_at (channels (dim_at l)) l a k) (entry_at (channels (dim_at r)) r b k) ≡ true
rows_decide l a r b n e s k h =
    sym (four_decide l a r b k e)
    ∙ all-by 4 (same_at l (a + record_head + k * 4) r (b + record_head + k * 4))
    (λ i p. (λ j. eqℤ (word l (add_assoc (a + record_head) (k * 4) i j)) (word r (add_assoc (b + record_head) (k * 4) i j))) ∙ all-at (n * 4) (same_at l (a + record_head) r (b + record_head)) s (k * 4 + i) (omega arith))

-- blocks that are alike
module _ {x y : Side} {l r : List ℤ} (p : x ≡ Some l) (q : y ≡ Some r) (e : both_alike x y ≡ true) where
  one_exponent : word l exponent_place ≡ word r exponent_place
  one_exponent = eqℤ-true _ _ (sym (λ i. both_alike (p i) (q i)) ∙ e)

  sides : (k : ℕ) → equal (side_of (Some l) k) (side_of (Some r) k) ≡ equal (side_of x k) (side_of y k)
  sides k = λ i. equal (side_of (sym p i) k) (side_of (sym q i) k)

  pub alike-entry : (k : ℕ) → same_words l (record_head + k * 4) r (record_head + k * 4) 4 ≡ equal (side_of x k) (side_of y k)
  alike-entry k = four_decide l 0 r 0 k one_exponent ∙ sides k

  pub alike-rows : (n : ℕ) → same_words l record_head r record_head (n * 4) ≡ true → (k : ℕ) → k < n → equal (side_of x k) (side_of y k) ≡ true
  alike-rows n s k h = sym (sides k) ∙ rows_decide l 0 r 0 n one_exponent s k h
