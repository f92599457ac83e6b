-- Blanks, comments and places mean nothing.
use mathlib.Core.Path.{◌≡◌, refl, sym, ap, ◌∙◌}
use mathlib.Core.Bool.{Bool, true, false, cond, ◌&&◌, ◌||◌}
use mathlib.Core.List.{List, [], ◌∷◌, ◌++◌, foldl, map}
use Prim.Native.Nat.{ℕ, suc, ◌+◌}
use native.Mathlib.Omega.{arith}
use lib.ListN.{length, take, drop}
use lib.Seq.{drop-append_seam, drop-length}
use Rattle.algebra.specs.Lists.{every}
use Rattle.verdict.specs.declared.Refusal.{Refusal}
use Rattle.verdict.specs.declared.Refusal.TheVariants.{BadText}
use Rattle.text.specs.Ascii.{ascii}
use Rattle.text.specs.Decimal.{is_digit}
use Rattle.qasm.specs.Tokens.{same, is_blank, is_comment, opens_word, in_word, in_line, run, sign_more, Token, token, tokens, is_index}
use Rattle.qasm.specs.Forms.{Piece, fixed, fresh, size, register, index, header, declared, Entry}
use Rattle.qasm.specs.Reading.{Seen, State, due, fault, fits, taken, unknown, named, opened, may_declare, step, start, refused, ended}
use Rattle.qasm.specs.Claims.{Gaps, placeless, Placeless, headed, SameTokens}
use Rattle.qasm.proofs.Lexing.{tokens-inside, run-all, run-whole}

-- ---- gaps
blank_passed : (b : ℕ) (bs : List ℕ) (at : ℕ) → is_blank b ≡ true → tokens at 0 (b ∷ bs) ≡ tokens (suc at) 0 bs
unfolding tokens
blank_passed b bs at e = ap shape e
  where
    length-of : Bool → ℕ
    length-of c = cond c 0 (cond (is_comment b bs) (run in_line bs) (cond (is_digit b) (run is_digit bs) (cond (opens_word b) (run in_word bs) (sign_more (b ∷ bs)))))

    shape : Bool → List Token
    shape c = cond (c || is_comment b bs) (tokens (suc at) (length-of c) bs) (token at (b ∷ take (length-of c) bs) ∷ tokens (suc at) (length-of c) bs)

comment_passed : (c bs : List ℕ) (at : ℕ) → every in_line c ≡ true → tokens at 0 (47 ∷ 47 ∷ c ++ 10 ∷ bs) ≡ tokens (at + 3 + length c) 0 bs
unfolding tokens run
comment_passed c bs at e =
    ap (λ (k : ℕ). tokens (suc (suc at)) k (c ++ 10 ∷ bs)) (run-all in_line c 10 bs e refl)
    ∙ tokens-inside (suc (suc at)) (length c) (c ++ 10 ∷ bs)
    ∙ ap (tokens (suc (suc at) + length c) 0) (drop-append_seam c (10 ∷ bs))
    ∙ (let q : suc (suc (suc at) + length c) ≡ at + 3 + length c = omega arith in ap (λ (a : ℕ). tokens a 0 bs) q)

comment_last : (c : List ℕ) (at : ℕ) → every in_line c ≡ true → tokens at 0 (47 ∷ 47 ∷ c) ≡ []
unfolding tokens run
comment_last c at e =
    ap (λ (k : ℕ). tokens (suc (suc at)) k c) (run-whole in_line c e) ∙ tokens-inside (suc (suc at)) (length c) c ∙ ap (tokens (suc (suc at) + length c) 0) (drop-length c)

pub gaps : Gaps
gaps = record { blank = blank_passed; comment = comment_passed; last = comment_last }

-- ---- places
abbrev erase : State → State
erase (due ps s) = due ps s
erase (fault v at) = fault v 0

abbrev step_bytes : State → List ℕ → State
step_bytes s bs = erase (step s (token 0 bs))

erase-cond : (c : Bool) (next : State) (v : Refusal) (at : ℕ) → erase (cond c next (fault v at)) ≡ erase (cond c next (fault v 0))
erase-cond true next v at = refl
erase-cond false next v at = refl

opened-place : (es : List Entry) (s : Seen) (t : Token) → erase (opened es s t) ≡ erase (opened es s (token 0 t.bytes))
opened-place [] s t = refl
opened-place (e ∷ es) s t = refl

piece_place : (p : Piece) (ps : List Piece) (s : Seen) (t : Token) → erase (step (due (p ∷ ps) s) t) ≡ step_bytes (due (p ∷ ps) s) t.bytes
piece_place (fixed bs) ps s t = erase-cond (fits (fixed bs) s.names t) (due ps s) BadText t.at
piece_place (fresh r) ps s t = erase-cond (fits (fresh r) s.names t) (due ps (taken (fresh r) s t)) BadText t.at
piece_place (size r) ps s t = erase-cond (is_index t) (due ps (taken (size r) s t)) BadText t.at
piece_place (register r) ps s t = erase-cond (fits (register r) s.names t) (due ps s) (unknown t) t.at
piece_place (index w) ps s t = erase-cond (is_index t) (due ps (taken (index w) s t)) BadText t.at

step-place : (s : State) (t : Token) → erase (step s t) ≡ step_bytes (erase s) t.bytes
step-place (fault v at) t = refl
step-place (due (p ∷ ps) s) t = piece_place p ps s t
step-place (due [] s) t = by (may_declare s && same (ascii "creg") t.bytes)
  where
    by : (c : Bool) → erase (cond c (due (declared 1) s) (opened (named t) s t)) ≡ erase (cond c (due (declared 1) s) (opened (named t) s (token 0 t.bytes)))
    by true = refl
    by false = opened-place (named t) s t

fold_place : (ts : List Token) (s : State) → erase (foldl step s ts) ≡ foldl step_bytes (erase s) (map (λ (t : Token). t.bytes) ts)
fold_place [] s = refl
fold_place (t ∷ ts) s = fold_place ts (step s t) ∙ ap (λ (q : State). foldl step_bytes q (map (λ (t : Token). t.bytes) ts)) (step-place s t)

ended-place : (n : ℕ) (s : State) → placeless (ended n s) ≡ placeless (ended 0 (erase s))
ended-place n (fault v at) = refl
ended-place n (due [] s) = refl
ended-place n (due (p ∷ ps) s) = refl

pub same_read : Placeless
same_read n n' ts us e =
    ended-place n (foldl step start ts) ∙ ap (λ (s : State). placeless (ended 0 s)) (fold_place ts start ∙ ap (foldl step_bytes start) e ∙ sym (fold_place us start))
    ∙ sym (ended-place n' (foldl step start us))

-- the tokens after the header, if there is one
abbrev after : List ℕ → List Token
after x = let i = run is_blank x + length header in tokens i 0 (drop i x)

pub same-tokens : SameTokens
same-tokens t u h e = ap (λ (b : Bool). placeless (cond b (ended (length t) (foldl step start (after t))) (refused BadText (run is_blank t)))) h ∙ go (headed u)
  where
    go : (b : Bool) → placeless (cond b (ended (length t) (foldl step start (after t))) (refused BadText (run is_blank t)))
        ≡ placeless (cond b (ended (length u) (foldl step start (after u))) (refused BadText (run is_blank u)))
    go true = same_read (length t) (length u) (after t) (after u) e
    go false = refl
