-- What the tokens of a text are where a number stands, and after what has been taken.
use mathlib.Core.Path.{◌≡◌, refl, sym, ap, ◌∙◌}
use mathlib.Core.Bool.{Bool, true, false, cond, ◌&&◌, ◌||◌}
use mathlib.Core.List.{List, [], ◌∷◌, ◌++◌}
use Prim.Native.Nat.{ℕ, zero, suc, ◌+◌, ◌≤◌}
use native.Mathlib.Nat.{add-zero, add-suc, suc-add}
use native.Mathlib.Omega.{arith}
use lib.Dec.{eqb}
use lib.ListN.{length, get_or, take, drop}
use lib.Seq.{take-append_seam, drop-append_seam}
use borrow.Author.Tests.{ne_eqb}
use Rattle.algebra.specs.Lists.{every}
use Rattle.algebra.proofs.Tests.{and_split}
use Rattle.text.specs.Decimal.{is_digit, max_number, decimal}
use Rattle.text.proofs.Read.{digit-range}
use Rattle.text.proofs.RoundTrip.{round_trip, reads}
use Rattle.qasm.specs.Tokens.{opens_word, in_word, in_line, is_blank, is_comment, run, sign_more, more, token, tokens, is_index}

-- what has been taken is passed over
pub tokens-inside : (at k : ℕ) (bs : List ℕ) → tokens at k bs ≡ tokens (at + k) 0 (drop k bs)
unfolding tokens
tokens-inside at zero bs = ap (λ (a : ℕ). tokens a 0 bs) (sym (add-zero at))
tokens-inside at (suc k) [] = refl
tokens-inside at (suc k) (b ∷ bs) = tokens-inside (suc at) k bs ∙ ap (λ (a : ℕ). tokens a 0 (drop k bs)) (suc-add at k ∙ sym (add-suc at k))

-- ---- runs
module _ (p : ℕ → Bool) where
  pub run-all : (xs : List ℕ) (r : ℕ) (rs : List ℕ) → every p xs ≡ true → p r ≡ false → run p (xs ++ r ∷ rs) ≡ length xs
  unfolding run
  run-all [] r rs e f = ap (λ (c : Bool). cond c (suc (run p rs)) 0) f
  run-all (x ∷ xs) r rs e f =
      let t = and_split (p x) (every p xs) e in
      ap (λ (c : Bool). cond c (suc (run p (xs ++ r ∷ rs))) 0) t.0 ∙ ap suc (run-all xs r rs t.1 f)

  pub run-whole : (xs : List ℕ) → every p xs ≡ true → run p xs ≡ length xs
  unfolding run
  run-whole [] e = refl
  run-whole (x ∷ xs) e = let t = and_split (p x) (every p xs) e in ap (λ (c : Bool). cond c (suc (run p xs)) 0) t.0 ∙ ap suc (run-whole xs t.1)

-- ---- numbers
module _ (c : ℕ) (e : is_digit c ≡ true) where
  low : 48 ≤ c
  low = (digit-range c e).0

  no_blank : is_blank c ≡ false
  no_blank = λ i. (ne_eqb c 32 (λ q. omega (arith, low)) i || ne_eqb c 9 (λ q. omega (arith, low)) i) || (ne_eqb c 10 (λ q. omega (arith, low)) i || ne_eqb c 13 (λ q. omega (arith, low)) i)

  no_comment : (bs : List ℕ) → is_comment c bs ≡ false
  no_comment bs = λ i. ne_eqb c 47 (λ q. omega (arith, low)) i && eqb (get_or bs 0 0) 47

  more-digits : (bs : List ℕ) → more c bs ≡ run is_digit bs
  more-digits bs = λ i. cond (no_blank i) 0 (cond (no_comment bs i) (run in_line bs) (cond (e i) (run is_digit bs) (cond (opens_word c) (run in_word bs) (sign_more (c ∷ bs)))))

  number-from : (cs : List ℕ) (r : ℕ) (rs : List ℕ) (at : ℕ) → every is_digit cs ≡ true → is_digit r ≡ false
      → tokens at 0 (c ∷ cs ++ r ∷ rs) ≡ token at (c ∷ cs) ∷ tokens (suc at + length cs) 0 (r ∷ rs)
  unfolding tokens
  number-from cs r rs at f g =
      let bs = cs ++ r ∷ rs in
      let m : more c bs ≡ length cs = more-digits bs ∙ run-all is_digit cs r rs f g in
      (λ i. cond (no_blank i || no_comment bs i) (tokens (suc at) (m i) bs) (token at (c ∷ take (m i) bs) ∷ tokens (suc at) (m i) bs))
      ∙ (λ i. token at (c ∷ take-append_seam cs (r ∷ rs) i) ∷ tokens-inside (suc at) (length cs) bs i)
      ∙ ap (λ (xs : List ℕ). token at (c ∷ cs) ∷ tokens (suc at + length cs) 0 xs) (drop-append_seam cs (r ∷ rs))

-- digits before a byte that is no digit are one token
pub number-token : (d : List ℕ) (at r : ℕ) (rs : List ℕ) → 1 ≤ length d → every is_digit d ≡ true → is_digit r ≡ false
    → tokens at 0 (d ++ r ∷ rs) ≡ token at d ∷ tokens (at + length d) 0 (r ∷ rs)
number-token [] at r rs h f g = absurd (omega arith)
number-token (c ∷ cs) at r rs h f g =
    let t = and_split (is_digit c) (every is_digit cs) f in
    number-from c t.0 cs r rs at t.1 g ∙ ap (λ (a : ℕ). token at (c ∷ cs) ∷ tokens a 0 (r ∷ rs)) (suc-add at (length cs) ∙ sym (add-suc at (length cs)))

-- a number as it is written is an index
pub index-written : (n at : ℕ) → n ≤ max_number → is_index (token at (decimal n)) ≡ true
index-written n at h = λ i. reads n h i && (round_trip n (omega arith)).lead i
