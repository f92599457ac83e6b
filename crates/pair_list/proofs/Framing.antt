-- What the test of a pair says; the walk along a list of pairs.
use Rattle.std.specs.Prelude.{Ok, Err}
use mathlib.Core.Path.{◌≡◌, refl, sym, ap, ◌∙◌, subst}
use mathlib.Core.Bool.{Bool, true, false, cond, ◌&&◌}
use mathlib.Core.List.{List}
use Prim.Native.Nat.{ℕ, suc, ◌+◌, ◌-◌, ◌<◌, ◌≤◌}
use native.Mathlib.Numerals.{add-one}
use native.Mathlib.Omega.{arith}
use lib.Dec.{eqb, leb}
use lib.ListN.{length}
use borrow.Author.Tests.{leb-true, leb-false, le-leb, lt-leb, eq-eqb, ne_eqb}
use Rattle.algebra.proofs.Tests.{and_split}
use Rattle.verdict.specs.Questions.{Verdict}
use Rattle.verdict.specs.declared.Refusal.TheVariants.{MalformedAt}
use Rattle.pair_list.specs.Pairs.{pair_head, pair_words, pair_bytes, framed, framing_from, framing}
use Rattle.pair_list.specs.Inner.Spots.{Framed}

-- ---- the test
leb_shift : (a b n : ℕ) → a ≤ b → leb n (b - a) ≡ leb (a + n) b
leb_shift a b n h = go (leb n (b - a)) refl
  where
    go : (t : Bool) → leb n (b - a) ≡ t → t ≡ leb (a + n) b
    go true e = sym (le-leb (a + n) b (omega (arith, leb-true n (b - a) e)))
    go false e = sym (lt-leb (a + n) b (omega (arith, leb-false n (b - a) e)))

module _ (ws bs : List ℕ) (at from : ℕ) where
  pub no_head : length ws < at + pair_head → framed ws bs at from ≡ false
  unfolding framed
  no_head h = ap (λ (t : Bool). t && (leb (at + pair_words ws at) (length ws) && leb (from + pair_bytes ws at) (length bs))) (lt-leb (at + pair_head) (length ws) h)

  module _ (h : at + pair_head ≤ length ws) where
    with_head : framed ws bs at from ≡ leb (at + pair_words ws at) (length ws) && leb (from + pair_bytes ws at) (length bs)
    unfolding framed
    with_head = ap (λ (t : Bool). t && (leb (at + pair_words ws at) (length ws) && leb (from + pair_bytes ws at) (length bs))) (le-leb (at + pair_head) (length ws) h)

    pub by_bytes : from ≤ length bs → at + pair_words ws at ≤ length ws → leb (pair_bytes ws at) (length bs - from) ≡ framed ws bs at from
    by_bytes k p = leb_shift from (length bs) (pair_bytes ws at) k
        ∙ sym (with_head ∙ ap (λ (t : Bool). t && leb (from + pair_bytes ws at) (length bs)) (le-leb (at + pair_words ws at) (length ws) p))

    pub by_words : length ws < at + pair_words ws at → false ≡ framed ws bs at from
    by_words p = sym (with_head ∙ ap (λ (t : Bool). t && leb (from + pair_bytes ws at) (length bs)) (lt-leb (at + pair_words ws at) (length ws) p))

  pub framed-room : framed ws bs at from ≡ true → Framed ws bs at from
  unfolding framed
  framed-room e =
      let (p, q) = and_split (leb (at + pair_head) (length ws)) _ e in
      let (r, s) = and_split (leb (at + pair_words ws at) (length ws)) _ q in
      record { head = leb-true _ _ p; words = leb-true _ _ r; bytes = leb-true _ _ s }

-- ---- the walk: i of `count` pairs are there
pub record Walk (ws bs : List ℕ) (count i at from : ℕ) : Type 0 where
  pub passed : i ≤ count
  pub words : at ≤ length ws
  pub bytes : from ≤ length bs
  pub is : framing ws bs count ≡ framing_from ws bs (count - i) i at from

module _ (ws bs : List ℕ) where
  framing-step : (k i at from : ℕ) → framed ws bs at from ≡ true → framing_from ws bs (suc k) i at from ≡ framing_from ws bs k (i + 1) (at + pair_words ws at) (from + pair_bytes ws at)
  unfolding framing_from
  framing-step k i at from e =
      ap (λ (t : Bool). cond t (framing_from ws bs k (suc i) (at + pair_words ws at) (from + pair_bytes ws at)) (Err (MalformedAt i))) e
      ∙ ap (λ (j : ℕ). framing_from ws bs k j (at + pair_words ws at) (from + pair_bytes ws at)) (sym (add-one i))

  framing_stop : (k i at from : ℕ) → framed ws bs at from ≡ false → framing_from ws bs (suc k) i at from ≡ Err (MalformedAt i)
  unfolding framing_from
  framing_stop k i at from e = ap (λ (t : Bool). cond t (framing_from ws bs k (suc i) (at + pair_words ws at) (from + pair_bytes ws at)) (Err (MalformedAt i))) e

  framing-end : (i at from : ℕ) → framing_from ws bs 0 i at from ≡ cond (eqb at (length ws) && eqb from (length bs)) (Ok tt) (Err (MalformedAt i))
  unfolding framing_from
  framing-end i at from = refl

  module _ {count i at from : ℕ} (w : Walk ws bs count i at from) where
    -- one pair more
    module _ (h : i < count) where
      rest : count - i ≡ suc (count - (i + 1))
      rest = omega arith

      pub walk_more : framed ws bs at from ≡ true → {n m : ℕ} → n ≡ at + pair_words ws at → m ≡ from + pair_bytes ws at → Walk ws bs count (i + 1) n m
      walk_more e p q =
          let r = framed-room ws bs at from e in record {
            passed = omega arith;
            words = subst (λ (k : ℕ). k ≤ length ws) (sym p) r.words;
            bytes = subst (λ (k : ℕ). k ≤ length bs) (sym q) r.bytes;
            is = w.is ∙ ap (λ (k : ℕ). framing_from ws bs k i at from) rest ∙ framing-step (count - (i + 1)) i at from e
                ∙ (λ j. framing_from ws bs (count - (i + 1)) (i + 1) (sym p j) (sym q j));
          }

      pub walk_stop : framed ws bs at from ≡ false → framing ws bs count ≡ Err (MalformedAt i)
      walk_stop e = w.is ∙ ap (λ (k : ℕ). framing_from ws bs k i at from) rest ∙ framing_stop (count - (i + 1)) i at from e

    module _ (h : count ≤ i) where
      walk_end : framing ws bs count ≡ cond (eqb at (length ws) && eqb from (length bs)) (Ok tt) (Err (MalformedAt count))
      walk_end =
          let none : count - i ≡ 0 = omega arith in
          let all : i ≡ count = omega (arith, w.passed) in
          w.is ∙ ap (λ (k : ℕ). framing_from ws bs k i at from) none ∙ framing-end i at from
          ∙ ap (λ (k : ℕ). cond (eqb at (length ws) && eqb from (length bs)) (Ok tt) (Err (MalformedAt k))) all

      abbrev ends : Bool → Bool → Verdict
      ends s t = cond (s && t) (Ok tt) (Err (MalformedAt count))

      pub walk_full : at ≡ length ws → from ≡ length bs → framing ws bs count ≡ Ok tt
      walk_full p q = walk_end ∙ (λ k. ends (eq-eqb at (length ws) p k) (eq-eqb from (length bs) q k))

      pub words_left : (at ≡ length ws → ⊥) → framing ws bs count ≡ Err (MalformedAt count)
      words_left p = walk_end ∙ ap (λ (s : Bool). ends s (eqb from (length bs))) (ne_eqb at (length ws) p)

      pub bytes_left : at ≡ length ws → (from ≡ length bs → ⊥) → framing ws bs count ≡ Err (MalformedAt count)
      bytes_left p q = walk_end ∙ (λ k. ends (eq-eqb at (length ws) p k) (ne_eqb from (length bs) q k))
