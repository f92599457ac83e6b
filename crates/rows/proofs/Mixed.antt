-- Two rows that lie apart, each written over: by turns, number by number, or each alone.
use mathlib.Core.Path.{◌≡◌, refl, sym, ap, ◌∙◌, subst}
use mathlib.Core.Bool.{true}
use mathlib.Core.List.{List, [], ◌∷◌}
use mathlib.Core.Logic.{◌⊎◌, inl, inr, ⊎_swap}
use Prim.Native.Nat.{ℕ, zero, suc, ◌+◌, ◌*◌, ◌≤◌, ◌<◌}
use native.Mathlib.Nat.{le_refl, suc-mul}
use native.Mathlib.Omega.{arith}
use lib.ListN.{length, set}
use lib.Seq.{sets, set_comm}
use lib.IntN.{ℤ}
use Rattle.algebra.specs.Words.{blocks}
use Rattle.algebra.specs.Inner.Apart.{Apart}
use Rattle.algebra.proofs.Blocks.{Writing, again, begin, kept, rest, long, cut, wrote, same_trans, narrow, block_in_lem, blocks_step, blocks-same}
use Rattle.exact.specs.Exact.{Number, numbers, number_of, list_of, is_zero, narrow_numerator}
use Rattle.exact.specs.Inner.Sizes.{Within}
use Rattle.share.specs.Share.{number_in, with_numerators}
use Rattle.share.proofs.Numbers.{number_same}
use Rattle.rows.specs.Inner.Rows.{scaled_row, combined_row, Scaling, Mixing, mixed}
use Rattle.rows.proofs.Rows.{number_read, left-number, left-row}

-- ---- words written before others, or after them
pub set_past : (vs l : List ℤ) (i j : ℕ) (x : ℤ) → (j < i) ⊎ (i + length vs ≤ j) → set (sets l i vs) j x ≡ sets (set l j x) i vs
set_past [] l i j x h = refl
set_past (v ∷ vs) l i j x (inl h) = set_past vs (set l i v) (suc i) j x (inl (omega arith)) ∙ ap (λ (m : List ℤ). sets m (suc i) vs) (set_comm l i j v x (λ e. omega arith))
set_past (v ∷ vs) l i j x (inr h) = set_past vs (set l i v) (suc i) j x (inr (omega arith)) ∙ ap (λ (m : List ℤ). sets m (suc i) vs) (set_comm l i j v x (λ e. omega arith))

sets_past : (ws vs l : List ℤ) (i j : ℕ) → Apart j (length ws) i (length vs) → sets (sets l i vs) j ws ≡ sets (sets l j ws) i vs
sets_past [] vs l i j h = refl
sets_past (w ∷ ws) vs l i j (inl h) =
    ap (λ (m : List ℤ). sets m (suc j) ws) (set_past vs l i j w (inl (omega arith))) ∙ sets_past ws vs (set l j w) i (suc j) (inl (omega arith))
sets_past (w ∷ ws) vs l i j (inr h) =
    ap (λ (m : List ℤ). sets m (suc j) ws) (set_past vs l i j w (inr h)) ∙ sets_past ws vs (set l j w) i (suc j) (inr (omega arith))

pub blocks_past : (s : ℕ) (l : List ℤ) (at n : ℕ) (f : ℕ → List ℤ) → ((k : ℕ) → length (f k) ≤ s) → (ws : List ℤ) (j : ℕ) → Apart j (length ws) at (n * s) → sets (blocks s l at n f) j ws ≡ blocks s (sets l j ws) at n f
unfolding blocks
blocks_past s l at zero f sized ws j h = refl
blocks_past s l at (suc n) f sized ws j h =
    sets_past ws (f n) (blocks s l at n f) (at + n * s) j (narrow j (length ws) at (suc n * s) j (length ws) (at + n * s) (length (f n)) h (le_refl j) (le_refl (j + length ws)) (omega arith) (omega (arith, suc-mul n s, sized n)))
    ∙ ap (λ (m : List ℤ). sets m (at + n * s) (f n)) (blocks_past s l at n f sized ws j (narrow j (length ws) at (suc n * s) j (length ws) at (n * s) h (le_refl j) (le_refl (j + length ws)) (le_refl at) (omega (arith, suc-mul n s))))

-- ---- two rows mixed
module _ {l : List ℤ} {x y : Number} {p : ℕ} {v u : Number} {q d : ℕ} (m : Mixing l x y p v u q d) where
  abbrev first : ℕ → List ℤ
  first c = list_of (combined_row l x p y q c)

  abbrev second : ℕ → List ℤ
  second c = list_of (combined_row l v q u p c)

  -- where each row has no part of the other: the first is written, and the second may be
  module _ {b : List ℤ} (f : b ≡ with_numerators l p d (scaled_row l x p)) where
    first_written : Writing 4 l p d (λ (c : ℕ). list_of (scaled_row l x p c)) b d
    first_written = wrote (λ k. le_refl 4) f

    second_same : (c : ℕ) → c < d → number_in b (q + c * 4) ≡ number_in l (q + c * 4)
    second_same c h = number_same (cut (kept first_written q (d * 4) (⊎_swap m.apart)) 4 c (block_in_lem h 4))

    pub second_alone : Scaling b v q q d
    second_alone =
        let room = subst (λ (k : ℕ). q + d * 4 ≤ k) (sym (long first_written)) m.room_of_second in
        record { scale = m.own_of_second; from_room = room; factor = λ c h. subst (Within narrow_numerator) (sym (second_same c h)) (m.factor_of_second c h); to_room = room; place = inl refl }

    pub each_alone : is_zero y ≡ true → is_zero u ≡ true → {e : List ℤ} → e ≡ with_numerators b q d (scaled_row b v q) → e ≡ mixed l x y p v u q d
    each_alone zy zu g =
        g ∙ blocks-same 4 b q d _ second (λ c h. ap list_of (ap (numbers.◌⊗◌ v) (second_same c h) ∙ left-number l v q u p c zu))
        ∙ ap (λ (z : List ℤ). blocks 4 z q d second) (left-row l x p y q p d zy f)

  -- none is written
  pub none_mixed : Writing 4 (blocks 4 l p 0 first) q d second l 0
  unfolding blocks
  none_mixed = begin (λ k. le_refl 4)

  -- c numbers of each row are written
  module _ {b : List ℤ} {c : ℕ} (w : Writing 4 (blocks 4 l p c first) q d second b c) (h : c < d) where
    front : Writing 4 l p d first (blocks 4 l p c first) c
    front = record { sized = λ k. le_refl 4; count = w.count; is = refl }

    pub first_read : {r : List ℤ} → r ≡ list_of (number_in b (p + c * 4)) → number_of r ≡ number_in l (p + c * 4)
    first_read = number_read (same_trans (cut (kept w p (d * 4) m.apart) 4 c (block_in_lem h 4)) (rest front (p + c * 4) 4 (le_refl (p + c * 4))))

    pub second_read : {r : List ℤ} → r ≡ list_of (number_in b (q + c * 4)) → number_of r ≡ number_in l (q + c * 4)
    second_read = number_read (same_trans (rest w (q + c * 4) 4 (le_refl (q + c * 4))) (cut (kept front q (d * 4) (⊎_swap m.apart)) 4 c (block_in_lem h 4)))

    -- one number more of each
    pub mixed_more : {a o s t : List ℤ} → a ≡ sets b (p + c * 4) s → s ≡ first c → o ≡ sets a (q + c * 4) t → t ≡ second c → Writing 4 (blocks 4 l p (c + 1) first) q d second o (c + 1)
    mixed_more {a} {o} {s} {t} ea es eo et = again {b = a} written h eo et
      where
        past : Apart (p + c * 4) 4 q (c * 4)
        past = narrow p (d * 4) q (d * 4) (p + c * 4) 4 q (c * 4) m.apart (omega arith) (omega (arith, block_in_lem h 4)) (le_refl q) (omega arith)

        written : Writing 4 (blocks 4 l p (c + 1) first) q d second a c
        written = record {
          sized = w.sized;
          count = w.count;
          is =
              ea ∙ (λ i. sets (w.is i) (p + c * 4) (es i)) ∙ blocks_past 4 (blocks 4 l p c first) q c second w.sized (first c) (p + c * 4) past
              ∙ ap (λ (z : List ℤ). blocks 4 z q c second) (blocks_step 4 l p first c (blocks 4 l p c first) (first c) refl refl);
        }
