-- Laws of a text's numbers: a byte more, where a number ends.
use mathlib.Core.Path.{◌≡◌, refl, sym, ap, ◌∙◌, subst}
use mathlib.Core.Bool.{Bool, true, false, cond}
use mathlib.Core.List.{List, [], ◌∷◌}
use Prim.Native.Nat.{ℕ, suc, ◌+◌, ◌≤◌, ◌<◌}
use native.Mathlib.Numerals.{add-one}
use lib.ListN.{length, get_or, drop, drop_of_length-le}
use lib.Seq.{drop-cons}
use mir.Syntax.{w64}
use mir.Val.{SFits, to_z, of_z}
use mir.Facts.{to_z-of_z}
use Rattle.text.specs.Decimal.{is_blank}
use Rattle.replay.specs.declared.numeral.Digits.{Digits}
use Rattle.replay.specs.declared.numeral.Word.{Word}
use Rattle.replay.specs.Numerals.{digits, with_byte, word_of, word_from, word_at, word_no}
use Rattle.replay.proofs.Signs.{signed-fits}

-- the rest of a list, from a place before its end
next-drop : {A : Type 0} (l : List A) (i : ℕ) (z : A) → i < length l → drop i l ≡ get_or l i z ∷ drop (i + 1) l
next-drop l i z h = drop-cons l i z h ∙ ap (λ (k : ℕ). get_or l i z ∷ drop k l) (sym (add-one i))

from-fits : (bs : List ℕ) (d : Digits) (at : ℕ) → SFits w64 (word_from d at bs).value
unfolding word_from
from-fits [] d at = signed-fits d
from-fits (b ∷ bs) d at = by (is_blank b) (from-fits bs (with_byte d b) (at + 1))
  where
    by : (blank : Bool) → SFits w64 (word_from (with_byte d b) (at + 1) bs).value → SFits w64 (cond blank (word_of d (at + 1)) (word_from (with_byte d b) (at + 1) bs)).value
    by true h = signed-fits d
    by false h = h

module _ (t : List ℕ) where
  pub from_start : (at : ℕ) → word_at t at ≡ word_from (digits 0 false) at (drop at t)
  unfolding word_at
  from_start at = refl

  pub from_end : (d : Digits) (i : ℕ) → length t ≤ i → word_from d i (drop i t) ≡ word_of d i
  unfolding word_from
  from_end d i h = ap (word_from d i) (drop_of_length-le t h)

  module _ (d : Digits) (i : ℕ) (h : i < length t) where
    pub from_blank : is_blank (get_or t i 0) ≡ true → word_from d i (drop i t) ≡ word_of d (i + 1)
    unfolding word_from
    from_blank e = ap (word_from d i) (next-drop t i 0 h) ∙ ap (λ (b : Bool). cond b (word_of d (i + 1)) (word_from (with_byte d (get_or t i 0)) (i + 1) (drop (i + 1) t))) e

    pub from_more : is_blank (get_or t i 0) ≡ false → word_from d i (drop i t) ≡ word_from (with_byte d (get_or t i 0)) (i + 1) (drop (i + 1) t)
    unfolding word_from
    from_more e = ap (word_from d i) (next-drop t i 0 h) ∙ ap (λ (b : Bool). cond b (word_of d (i + 1)) (word_from (with_byte d (get_or t i 0)) (i + 1) (drop (i + 1) t))) e

  -- a number read is a word
  module _ (at : ℕ) {w : Word} (e : w ≡ word_at t at) where
    pub a_word : to_z w64 (of_z w64 w.value) ≡ w.value
    unfolding word_at
    a_word = to_z-of_z (subst (λ (v : Word). SFits w64 v.value) (sym e) (from-fits (drop at t) (digits 0 false) at))

  -- one number more
  pub following : (at k : ℕ) {a w : Word} → a ≡ word_no t at k → w ≡ word_at t a.next → w ≡ word_no t at (suc k)
  following at k p q = q ∙ ap (λ (a : Word). word_at t a.next) p
