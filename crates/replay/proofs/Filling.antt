-- Laws of words read into lent slices: one word more, and the last.
use mathlib.Core.Path.{◌≡◌, refl, sym, ap, ◌∙◌}
use mathlib.Core.List.{List, [], ◌∷◌, ◌++◌, append_assoc, append-nil}
use Prim.Native.Nat.{ℕ, zero, suc, ◌+◌, ◌-◌, ◌≤◌, ◌<◌, min}
use native.Mathlib.Omega.{arith}
use lib.ListN.{length, set, take, drop, length-set}
use lib.IntN.{ℤ}
use lib.Seq.{take_all, take-append_seam, drop-append_seam}
use Rattle.std.proofs.lemmas.List.{take_more_set}
use Rattle.replay.specs.declared.numeral.Word.{Word}
use Rattle.replay.specs.Numerals.{word_at, word_no}
use Rattle.replay.specs.Words.{filled, placed, numbers, numbers_at}
use Rattle.replay.proofs.Reading.{following}

module _ (t : List ℕ) where
  -- ---- words at given places
  pub placed_end : (n at : ℕ) (l : List ℤ) → n ≤ 0 → placed t n at l ≡ filled l at
  unfolding placed
  placed_end zero at l h = refl
  placed_end (suc n) at l h = absurd (omega arith)

  placed-step : (n k at : ℕ) (l : List ℤ) → n ≡ suc k → placed t n at l ≡ placed t k (word_no t at 1).next (set l (word_no t at 0).size (word_no t at 1).value)
  unfolding placed
  placed-step n k at l e = ap (λ (j : ℕ). placed t j at l) e

  pub placed-more : (n k at : ℕ) (l : List ℤ) {p w : Word} {m : List ℤ} → n ≡ suc k → p ≡ word_at t at → w ≡ word_at t p.next → m ≡ set l p.size w.value → placed t n at l ≡ placed t k w.next m
  placed-more n k at l {p} {w} {m} h a b e =
      let q : w ≡ word_no t at 1 = following t at 0 a b in
      let r : m ≡ set l (word_no t at 0).size (word_no t at 1).value = e ∙ (λ i. set l (a i).size (q i).value) in
      placed-step n k at l h ∙ sym (λ i. placed t k (q i).next (r i))

-- as many places as a word of the text asks for, or as there are
pub fitted : {w v : Word} {len : ℕ} (room : ℕ) → len ≡ min w.size room → w ≡ v → len ≡ min v.size room
fitted room e first = e ∙ (λ i. min (first i).size room)

-- ---- numbers one after the other: of n numbers from `from` on, i are in b, and the next begins at `next`
module _ {A : Type 0} (low : ℕ → A) (t : List ℕ) where
  numbers-end : (n at : ℕ) → n ≤ 0 → numbers low t n at ≡ filled [] at
  unfolding numbers
  numbers-end zero at h = refl
  numbers-end (suc n) at h = absurd (omega arith)

  numbers-step : (n k at : ℕ) → n ≡ suc k
      → numbers low t n at ≡ filled (low (word_at t at).size ∷ (numbers low t k (word_at t at).next).words) (numbers low t k (word_at t at).next).next
  unfolding numbers
  numbers-step n k at e = ap (λ (j : ℕ). numbers low t j at) e

  -- there are as many as were asked for
  pub numbers-length : (n at : ℕ) → length (numbers low t n at).words ≡ n
  unfolding numbers
  numbers-length zero at = refl
  numbers-length (suc n) at = ap suc (numbers-length n (word_at t at).next)

  module _ (from n : ℕ) where
    pub record Numbers (b : List A) (next i : ℕ) : Type 0 where
      pub room : n ≤ length b
      pub is : numbers low t n from ≡ filled (take i b ++ (numbers low t (n - i) next).words) (numbers low t (n - i) next).next

    pub none_yet : (l : List A) → n ≤ length l → Numbers l from 0
    none_yet l h = let q : n ≡ n - 0 = omega arith in record { room = h; is = ap (λ (k : ℕ). numbers low t k from) q }

    module _ {b : List A} {next i : ℕ} (h : Numbers b next i) where
      pub one_more : {w : Word} {x : A} → i < n → w ≡ word_at t next → x ≡ low w.size → Numbers (set b i x) w.next (i + 1)
      one_more {w} {x} g e p =
          let others : List A = (numbers low t (n - (i + 1)) w.next).words in
          let r : low (word_at t next).size ≡ x = sym (p ∙ ap (λ (v : Word). low v.size) e) in
          let step : numbers low t (n - i) next ≡ filled (x ∷ others) (numbers low t (n - (i + 1)) w.next).next =
          numbers-step (n - i) (n - (i + 1)) next (omega arith)
          ∙ (λ j. filled (r j ∷ (numbers low t (n - (i + 1)) (sym e j).next).words) (numbers low t (n - (i + 1)) (sym e j).next).next) in
          let read : take i b ++ x ∷ others ≡ take (i + 1) (set b i x) ++ others =
          sym (ap (λ (l : List A). l ++ others) (take_more_set b i x (omega (arith, h.room))) ∙ append_assoc (take i b) (x ∷ []) others) in
          record {
            room = omega (arith, h.room, length-set b i x);
            is = h.is ∙ (λ j. filled (take i b ++ (step j).words) (step j).next) ∙ (λ j. filled (read j) (numbers low t (n - (i + 1)) w.next).next);
          }

      pub all_read : n ≤ i → i ≤ n → numbers low t n from ≡ filled (take n b) next
      all_read g f =
          let e : i ≡ n = omega arith in
          let z : numbers low t (n - i) next ≡ filled [] next = numbers-end (n - i) next (omega arith) in
          h.is ∙ (λ j. filled (take (e j) b ++ (z j).words) (z j).next) ∙ (λ j. filled (append-nil (take n b) j) next)

  -- all that there is room for, in a slice that has just this room
  pub all_kept : (at room len n : ℕ) {w : Word} {b : List A} {next i : ℕ} → w ≡ word_at t at → len ≡ min w.size room → n ≡ len → length b ≡ n → Numbers w.next n b next i → n ≤ i → i ≤ n
      → filled b next ≡ numbers_at low t at room
  all_kept at room len n {w} {b} {next} first fits front long h g f =
      let whole : take n b ≡ b = take_all n b (omega arith) in
      let count : n ≡ min w.size room = front ∙ fits in
      (λ j. filled (sym whole j) next) ∙ sym (all_read w.next n h g f) ∙ (λ j. numbers low t (count j) w.next) ∙ (λ j. numbers low t (min (first j).size room) (first j).next)

-- ---- a slice that begins with what was read, and is what it was behind that: both parts
module _ {A : Type 0} (read buf : List A) (len : ℕ) {whole : List A} (is : whole ≡ read ++ drop len buf) (long : length read ≡ len) where
  pub read_part : {words : List A} → words ≡ take len whole → words ≡ read
  read_part e = e ∙ ap (take len) is ∙ (λ i. take (sym long i) (read ++ drop len buf)) ∙ take-append_seam read (drop len buf)

  pub rest_part : (n : ℕ) {rest : List A} → n ≡ len → rest ≡ drop len whole → rest ≡ drop n buf
  rest_part n h e = e ∙ ap (drop len) is ∙ (λ i. drop (sym long i) (read ++ drop len buf)) ∙ drop-append_seam read (drop len buf) ∙ (λ i. drop (sym h i) buf)
