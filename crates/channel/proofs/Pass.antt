-- What one pass over the words of a block says: whether it is a shared form in range, and whether it is blank.
use Rattle.std.specs.Prelude.{Option, Some, None}
use mathlib.Core.Path.{◌≡◌, refl, sym, ap, ◌∙◌}
use mathlib.Core.Bool.{Bool, true, false, not, ◌&&◌, ◌||◌}
use mathlib.Core.List.{List}
use Prim.Native.Nat.{ℕ, zero, suc, ◌+◌, ◌*◌, ◌-◌, ◌≤◌}
use native.Mathlib.Omega.{arith}
use lib.Dec.{eqb}
use lib.ListN.{length, take, drop}
use lib.IntN.{ℤ, pos, nat_abs}
use mir.Facts.{to_z-of_z}
use mir.Syntax.{w64}
use mir.Val.{SFits, to_z, of_z}
use Rattle.algebra.specs.Words.{eqℤ, up_to}
use Rattle.algebra.proofs.Tests.{test_same}
use Rattle.algebra.proofs.Parts.{abs_neg}
use Rattle.algebra.proofs.Semi.{zero-mul}
use Rattle.algebra.proofs.Ring.{semi}
use Rattle.algebra.proofs.Quadratic.{ℤ√2i}
use Rattle.algebra.proofs.Dyadic.{lowest_is, low-zero}
use Rattle.exact.specs.Exact.{Number, Exact, numbers, lowest, is_zero, max_exponent}
use Rattle.exact.proofs.Exact.{exact_halving}
use Rattle.exact.proofs.IsZero.{zero_is}
use Rattle.gather.specs.declared.Seen.{Seen}
use Rattle.gather.specs.Words.{all_in_range, all_even, seen_of}
use Rattle.gather.proofs.Laws.{seen-cut}
use Rattle.algebra.specs.Dyadic.{power}
use Rattle.channel.specs.Layout.{Form, full, record_head, exponent_place, block_size, record_size, word, exp_at, numbers_at, entry_at, chain}
use Rattle.channel.specs.WellFormed.{diagonal_ok, block_ok, all_zero, some_zero}
use Rattle.channel.specs.Inner.Shapes.{when, blank, some_blank}
use Rattle.channel.proofs.Words.{eq_small}
use Rattle.channel.proofs.RoundTrip.{all_same}
use Rattle.channel.proofs.ByWords.{by-words, words_test, zero_test}

-- a number is zero exactly where its lowest form is
pub zero-lowest : (z : Number) (e : ℕ) → is_zero (lowest z e).num ≡ is_zero z
zero-lowest z e = test_same _ _ (λ t. ap is_zero (up t)) (λ t. ap (λ (x : Exact). is_zero x.num) (ap (λ (y : Number). lowest y e) (zero_is z t) ∙ low-zero ℤ√2i exact_halving e))
  where
    up : is_zero (lowest z e).num ≡ true → z ≡ numbers.𝟘
    up t =
        let (k, h, g) = lowest_is ℤ√2i exact_halving z e in
        h ∙ ap (λ (y : Number). numbers.◌⊗◌ y (power numbers k)) (zero_is (lowest z e).num t) ∙ zero-mul (semi ℤ√2i) (power numbers k)

-- the numerators of a full block are 0 exactly where its entries are
blank_is : (l : List ℤ) (at w : ℕ) → all_zero (w * w) (entry_at (full w) l at) ≡ blank (full w) l at
blank_is l at w =
    all_same (w * w) _ _ (λ k h. zero-lowest (numbers_at (full w) l at k) (exp_at l at))
    ∙ words_test (λ (x : ℤ). eqb (nat_abs x) 0) (λ x. ap (λ (k : ℕ). eqb k 0) (abs_neg x)) refl (full w) (λ (i : ℕ). word l (at + record_head + i))
    ∙ all_same (w * w * 4) _ _ (λ i h. zero_test (word l (at + record_head + i)))

-- along the chain too
pub blank-along : (w : ℕ) (l : List ℤ) (n at : ℕ) → some_blank (full w) l n at ≡ some_zero w (chain (full w) l n at)
blank-along w l zero at = refl
blank-along w l (suc n) at = λ i. sym (blank_is l at w) i || blank-along w l n (nat_abs (word l at)) i

-- ---- one pass over the words of a record, and its exponent
module _ (F : Form) (l : List ℤ) where
  abbrev exponent : ℤ
  exponent = word l exponent_place

  abbrev ranged : Bool
  ranged = all_in_range l record_head (block_size F)

  abbrev evens : Bool
  evens = all_even l record_head (block_size F)

  abbrev diagonal : Bool
  diagonal = diagonal_ok F (numbers_at F l 0)

  abbrev part : Bool → Bool → Bool
  part a b = (a && b) && diagonal

  is : block_ok F l 0 ≡ part (up_to max_exponent exponent) (ranged && (eqℤ exponent (pos 0) || not evens))
  is = by-words F l 0

  abbrev answer : Option Bool
  answer = when (block_ok F l 0) (blank F l 0)

  none : block_ok F l 0 ≡ false → None ≡ answer
  none e = sym (ap (λ (b : Bool). when b (blank F l 0)) e)

  module _ {g : Seen} {n : ℕ} (inside : record_size F ≤ length l) (size : n ≡ block_size F) (e : g ≡ seen_of (take (record_head + n - record_head) (drop record_head l)) 0 (length (take (record_head + n - record_head) (drop record_head l))))
      (f : SFits w64 exponent) (h : up_to max_exponent (to_z w64 (of_z w64 exponent)) ≡ true) where
    seen : g ≡ seen_of l record_head (block_size F)
    seen = e ∙ seen-cut l record_head n (record_head + n - record_head) (omega arith) (omega arith) ∙ ap (seen_of l record_head) size

    small : up_to max_exponent exponent ≡ true
    small = sym (ap (up_to max_exponent) (to_z-of_z f)) ∙ h

    tested : (g.range && (eqb (of_z w64 exponent) 0 || not g.even)) ≡ (ranged && (eqℤ exponent (pos 0) || not evens))
    tested = λ i. (seen i).range && (eq_small 0 tt exponent f i || not (seen i).even)

    pub pass_bad : (g.range && (eqb (of_z w64 exponent) 0 || not g.even)) ≡ false → None ≡ answer
    pass_bad t = none (is ∙ (λ i. part (small i) ((sym tested ∙ t) i)))

    passed : (g.range && (eqb (of_z w64 exponent) 0 || not g.even)) ≡ true → block_ok F l 0 ≡ diagonal
    passed t = is ∙ (λ i. part (small i) ((sym tested ∙ t) i))

    pub pass_good : (g.range && (eqb (of_z w64 exponent) 0 || not g.even)) ≡ true → diagonal ≡ true → Some g.zero ≡ answer
    pass_good t d = λ i. when (sym (passed t ∙ d) i) (seen i).zero
