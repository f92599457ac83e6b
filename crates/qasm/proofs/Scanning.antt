-- The tokens of a text from a position on, step by step.
use mathlib.Core.Path.{◌≡◌, refl, sym, ap, ◌∙◌, subst}
use mathlib.Core.Bool.{Bool, true, false, cond, not, ◌&&◌, ◌||◌}
use mathlib.Core.List.{List, [], ◌∷◌}
use Prim.Native.Char.{code}
use Prim.Native.Nat.{ℕ, zero, suc, ◌+◌, ◌-◌, ◌<◌, ◌≤◌, min}
use native.Mathlib.Decide.{dec_lt}
use native.Mathlib.Omega.{arith}
use lib.Dec.{eqb}
use lib.ListN.{length, get_or, take, drop, length-drop, drop_of_length-le}
use Rattle.std.specs.Prelude.{Some, None}
use Rattle.std.specs.List.{starts_with}
use Rattle.std.proofs.lemmas.List.{take_rest, drop-drop}
use Rattle.std.proofs.lemmas.List.Sums.{position_or_len_is}
use Rattle.std.proofs.lemmas.List.Recursion.{is_position_or_len}
use Rattle.algebra.proofs.Tests.{eqb_same}
use Rattle.text.specs.Ascii.{ascii}
use Rattle.text.specs.Decimal.{is_digit}
use Rattle.qasm.specs.declared.tokens.Part.{Part}
use Rattle.qasm.specs.declared.tokens.Part.TheVariants.{Gap, Bytes}
use Rattle.qasm.specs.Tokens.{is_blank, is_comment, is_gap, in_line, opens_word, in_word, run, arrow, library, begins, sign_more, more, Token, token, tokens}
use Rattle.qasm.specs.Inner.Scanning.{from, first_part}
use Rattle.qasm.proofs.Same.{begins_long, same_pointwise}
use Rattle.qasm.proofs.Lexing.{tokens-inside}

-- ---- runs
run-none : (p : ℕ → Bool) → run p [] ≡ 0
unfolding run
run-none p = refl

more-run : (p : ℕ → Bool) (b : ℕ) (bs : List ℕ) → run p (b ∷ bs) ≡ cond (not (p b)) 0 (1 + run p bs)
unfolding run
more-run p b bs = by (p b)
  where
    by : (c : Bool) → cond c (suc (run p bs)) 0 ≡ cond (not c) 0 (1 + run p bs)
    by true = omega arith
    by false = refl

-- as many pass as stand before the first that fails
pub run_is : (p : ℕ → Bool) (bs : List ℕ) (i : ℕ) → i ≤ length bs → ((k : ℕ) → k < i → not (p (get_or bs k 0)) ≡ false) → (i < length bs → not (p (get_or bs i 0)) ≡ true) → i ≡ run p bs
run_is p bs i h before here = sym (position_or_len_is (λ b. not (p b)) bs i 0 h before here) ∙ sym (is_position_or_len (run p) (λ b. not (p b)) (run-none p) (more-run p) bs)

-- one byte more passes
pub pass_more : (p : ℕ → Bool) (bs : List ℕ) (i : ℕ) → ((k : ℕ) → k < i → p (get_or bs k 0) ≡ true) → p (get_or bs i 0) ≡ true → (k : ℕ) → k < i + 1 → p (get_or bs k 0) ≡ true
pass_more p bs i before here k h = by (dec_lt k i)
  where
    by : Dec (k < i) → p (get_or bs k 0) ≡ true
    by (yes l) = before k l
    by (no l) = let m : k ≡ i = omega arith in ap (λ (j : ℕ). p (get_or bs j 0)) m ∙ here

pub run_most : (p : ℕ → Bool) (bs : List ℕ) → run p bs ≤ length bs
unfolding run
run_most p [] = omega arith
run_most p (b ∷ bs) = by (p b) (run_most p bs)
  where
    by : (c : Bool) → run p bs ≤ length bs → cond c (suc (run p bs)) 0 ≤ suc (length bs)
    by true h = omega arith
    by false h = omega arith

-- ---- a gap or token lies in the text
sign-most : (b : ℕ) (bs : List ℕ) → sign_more (b ∷ bs) ≤ length bs
sign-most b bs = by (begins arrow (b ∷ bs)) refl (begins library (b ∷ bs)) refl
  where
    by : (a : Bool) → begins arrow (b ∷ bs) ≡ a → (l : Bool) → begins library (b ∷ bs) ≡ l → cond a 1 (cond l 11 0) ≤ length bs
    by true e l f = let h = begins_long arrow (b ∷ bs) e in omega arith
    by false e true f = let h = begins_long library (b ∷ bs) f in omega arith
    by false e false f = omega arith

more-most : (b : ℕ) (bs : List ℕ) → more b bs ≤ length bs
more-most b bs = by (is_blank b) (is_comment b bs) (is_digit b) (opens_word b)
  where
    by : (blank comment digit word : Bool) → cond blank 0 (cond comment (run in_line bs) (cond digit (run is_digit bs) (cond word (run in_word bs) (sign_more (b ∷ bs))))) ≤ length bs
    by true comment digit word = omega arith
    by false true digit word = run_most in_line bs
    by false false true word = run_most is_digit bs
    by false false false true = run_most in_word bs
    by false false false false = sign-most b bs

-- ---- the part at the front of a text t, by the tests in their order
-- what std compares for two slashes
pub comment_is : (b : ℕ) (bs : List ℕ) → starts_with eqb (b ∷ bs) (ascii "//") ≡ is_comment b bs
comment_is b bs = by bs
  where
    slash : (b : ℕ) → eqb (code "/") b ≡ eqb b (code "/")
    slash b = eqb_same (code "/") b b (code "/") sym sym

    whole : (c : Bool) → c && true ≡ c
    whole true = refl
    whole false = refl

    by : (bs : List ℕ) → starts_with eqb (b ∷ bs) (ascii "//") ≡ is_comment b bs
    by [] = ap (λ (c : Bool). c && false) (slash b)
    by (x ∷ xs) = λ j. slash b j && (whole (eqb (code "/") x) ∙ slash x) j

module _ {t bs : List ℕ} {b : ℕ} (e : t ≡ b ∷ bs) where
  abbrev part : (blank comment digit word : Bool) → ℕ → Part
  part blank comment digit word sign =
      let n = suc (cond blank 0 (cond comment (run in_line bs) (cond digit (run is_digit bs) (cond word (run in_word bs) sign)))) in
      cond (blank || comment) (Gap n) (Bytes n)

  begun : (s : List ℕ) → starts_with eqb t s ≡ begins s (b ∷ bs)
  begun s = same_pointwise s (take (length s) t) ∙ ap (begins s) e

  -- how many more bytes a sign has
  pub sign_is : {a l : Bool} → a ≡ starts_with eqb t arrow → l ≡ starts_with eqb t library → cond a (length arrow - 1) (cond l (length library - 1) 0) ≡ sign_more (b ∷ bs)
  sign_is {a} {l} p q =
      λ j. cond ((p ∙ begun arrow) j) (length arrow - 1) (cond ((q ∙ begun library) j) (length library - 1) 0)

  module _ {blank comment digit word : Bool} (f : blank ≡ is_blank b) (g : comment ≡ starts_with eqb t (ascii "//")) (h : digit ≡ is_digit b) (k : word ≡ opens_word b) where
    pub first_is : Some (part blank comment digit word (sign_more (b ∷ bs))) ≡ first_part t
    first_is =
        (λ j. Some (part (f j) ((g ∙ ap (λ (t : List ℕ). starts_with eqb t (ascii "//")) e ∙ comment_is b bs) j) (h j) (k j) (sign_more (b ∷ bs)))) ∙ sym (ap first_part e)

-- ---- the part at the front, of n bytes
pub record Front (bs : List ℕ) (n : ℕ) : Type 0 where
  pub some : 1 ≤ n
  pub inside : n ≤ length bs

after : (b : ℕ) (bs : List ℕ) (at : ℕ) → tokens (suc at) (more b bs) bs ≡ tokens (at + suc (more b bs)) 0 (drop (more b bs) bs)
after b bs at = let n : suc at + more b bs ≡ at + suc (more b bs) = omega arith in tokens-inside (suc at) (more b bs) bs ∙ ap (λ (a : ℕ). tokens a 0 (drop (more b bs) bs)) n

abbrev pub Passed : List ℕ → ℕ → Type 0
Passed bs n = Front bs n × ((at : ℕ) → tokens at 0 bs ≡ tokens (at + n) 0 (drop n bs))

abbrev pub Taken : List ℕ → ℕ → Type 0
Taken bs n = Front bs n × ((at : ℕ) → tokens at 0 bs ≡ token at (take n bs) ∷ tokens (at + n) 0 (drop n bs))

module _ (b : ℕ) (bs : List ℕ) where
  abbrev m : ℕ
  m = suc (more b bs)

  front : Front (b ∷ bs) m
  front = record { some = omega arith; inside = omega (arith, more-most b bs) }

  abbrev shape : ℕ → Bool → List Token
  shape at c = cond c (tokens (suc at) (more b bs) bs) (token at (b ∷ take (more b bs) bs) ∷ tokens (suc at) (more b bs) bs)

  pub passed : is_gap b bs ≡ true → Passed (b ∷ bs) m
  unfolding tokens
  passed e = (front, λ at. ap (shape at) e ∙ after b bs at)

  pub taken : is_gap b bs ≡ false → Taken (b ∷ bs) m
  unfolding tokens
  taken e = (front, λ at. ap (shape at) e ∙ ap (λ (ts : List Token). token at (b ∷ take (more b bs) bs) ∷ ts) (after b bs at))

gap-front : (bs : List ℕ) (n : ℕ) → Some (Gap n) ≡ first_part bs → Passed bs n
gap-front [] n e = absurd (cc)
gap-front (b ∷ bs) n e = by (is_gap b bs) refl e
  where
    by : (c : Bool) → is_gap b bs ≡ c → Some (Gap n) ≡ Some (cond c (Gap (m b bs)) (Bytes (m b bs))) → Passed (b ∷ bs) n
    by true f e = let q : m b bs ≡ n = (cc) in subst (Passed (b ∷ bs)) q (passed b bs f)
    by false f e = absurd (cc)

bytes-front : (bs : List ℕ) (n : ℕ) → Some (Bytes n) ≡ first_part bs → Taken bs n
bytes-front [] n e = absurd (cc)
bytes-front (b ∷ bs) n e = by (is_gap b bs) refl e
  where
    by : (c : Bool) → is_gap b bs ≡ c → Some (Bytes n) ≡ Some (cond c (Gap (m b bs)) (Bytes (m b bs))) → Taken (b ∷ bs) n
    by true f e = absurd (cc)
    by false f e = let q : m b bs ≡ n = (cc) in subst (Taken (b ∷ bs)) q (taken b bs f)

-- ---- the same at a position of a text
-- the next n bytes lie in it
pub record Next (t : List ℕ) (at n : ℕ) : Type 0 where
  pub some : 1 ≤ n
  pub inside : at + n ≤ length t

nothing : (at : ℕ) → tokens at 0 [] ≡ []
unfolding tokens
nothing at = refl

module _ (t : List ℕ) (at : ℕ) (h : at ≤ length t) where
  abbrev pub rest : List ℕ
  rest = take (length t - at) (drop at t)

  next : {n : ℕ} → Front (drop at t) n → Next t at n
  next f = record { some = f.some; inside = omega (arith, f.inside, length-drop at t) }

  pub gap_next : {n : ℕ} → Some (Gap n) ≡ first_part rest → Next t at n × (from t at ≡ from t (at + n))
  gap_next {n} e = let p = gap-front (drop at t) n (e ∙ ap first_part (take_rest t at)) in (next p.0, p.1 at ∙ ap (tokens (at + n) 0) (drop-drop n at t))

  pub token_next : {n : ℕ} → Some (Bytes n) ≡ first_part rest → Next t at n × (from t at ≡ token at (take (at + n - at) (drop at t)) ∷ from t (at + n))
  token_next {n} e =
      let p = bytes-front (drop at t) n (e ∙ ap first_part (take_rest t at)) in
      let k : n ≡ at + n - at = omega arith in
      (next p.0, p.1 at ∙ (λ i. token at (take (k i) (drop at t)) ∷ tokens (at + n) 0 (drop-drop n at t i)))

  pub none_next : None ≡ first_part rest → from t at ≡ []
  none_next e = by (drop at t) (e ∙ ap first_part (take_rest t at))
    where
      by : (bs : List ℕ) → None ≡ first_part bs → tokens at 0 bs ≡ []
      by [] e = nothing at
      by (b ∷ bs) e = absurd (cc)

-- no more tokens than bytes
tokens-few : (at k : ℕ) (bs : List ℕ) → length (tokens at k bs) ≤ length bs
unfolding tokens
tokens-few at k [] = omega arith
tokens-few at (suc k) (b ∷ bs) = let h = tokens-few (suc at) k bs in omega arith
tokens-few at zero (b ∷ bs) = by (is_gap b bs) (tokens-few (suc at) (more b bs) bs)
  where
    by : (c : Bool) → length (tokens (suc at) (more b bs) bs) ≤ length bs
        → length (cond c (tokens (suc at) (more b bs) bs) (token at (b ∷ take (more b bs) bs) ∷ tokens (suc at) (more b bs) bs)) ≤ suc (length bs)
    by true h = omega arith
    by false h = omega arith

pub from-few : (t : List ℕ) (at : ℕ) → length (from t at) ≤ length t
from-few t at = omega (arith, tokens-few at 0 (drop at t), length-drop at t)

pub from_end : (t : List ℕ) (at : ℕ) → length t ≤ at → from t at ≡ []
from_end t at h = ap (tokens at 0) (drop_of_length-le t h) ∙ nothing at

-- behind the text's end there is no token
pub from-min : (t : List ℕ) (at : ℕ) {k : ℕ} → k ≡ min at (length t) → from t k ≡ from t at
from-min t at {k} e = by (dec_lt at (length t))
  where
    by : Dec (at < length t) → from t k ≡ from t at
    by (yes h) = let q : k ≡ at = omega arith in ap (from t) q
    by (no h) = from_end t k (omega arith) ∙ sym (from_end t at (omega arith))
