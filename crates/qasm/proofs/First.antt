-- The first token from a place of a text on: where it begins, where it ends, and where there is none.
use mathlib.Core.Path.{◌≡◌, refl, sym, ap, ◌∙◌}
use mathlib.Core.Bool.{Bool, true, false}
use mathlib.Core.List.{List, [], ◌∷◌}
use Prim.Native.Nat.{ℕ, zero, suc, ◌+◌, ◌<◌, ◌≤◌}
use native.Mathlib.Numerals.{add-one}
use native.Mathlib.Decide.{dec_lt}
use native.Mathlib.Omega.{arith}
use lib.ListN.{length, get_or, take, drop, length-drop, length-take}
use lib.Seq.{drop-cons}
use Rattle.std.proofs.lemmas.List.{drop-drop}
use Rattle.qasm.specs.Tokens.{is_gap, more, Token, token, tokens}
use Rattle.qasm.specs.Inner.Scanning.{from}
use Rattle.qasm.proofs.Scanning.{passed, taken, from_end}

-- between `at` and `next` there are gaps alone, and at `next` there is none
pub record Passed (t : List ℕ) (at next : ℕ) : Type 0 where
  pub along : at ≤ next
  pub inside : next ≤ length t
  pub same : from t at ≡ from t next
  pub stops : next < length t → is_gap (get_or t next 0) (drop (next + 1) t) ≡ false

module _ (t : List ℕ) (at : ℕ) where
  abbrev b : ℕ
  b = get_or t at 0

  abbrev bs : List ℕ
  bs = drop (at + 1) t

  cut : at < length t → drop at t ≡ b ∷ bs
  cut h = drop-cons t at 0 h ∙ ap (λ (k : ℕ). b ∷ drop k t) (sym (add-one at))

  -- where no gap stands, a token begins, which ends behind its bytes
  pub token_here : at < length t → is_gap b bs ≡ false → {k : Token} {ks : List Token} → from t at ≡ k ∷ ks → (k.at ≡ at) × (k.at + length k.bytes ≡ at + 1 + more b bs)
  token_here h f {k} {ks} e =
      let q = taken b bs f in
      let l : token at (take (suc (more b bs)) (b ∷ bs)) ∷ tokens (at + suc (more b bs)) 0 (drop (suc (more b bs)) (b ∷ bs)) ≡ k ∷ ks = sym (ap (tokens at 0) (cut h) ∙ q.1 at) ∙ e in
      let s : token at (take (suc (more b bs)) (b ∷ bs)) ≡ k = cc in
      let p = ap (λ (k : Token). k.at) s in
      let n = ap (λ (k : Token). length k.bytes) s in
      (sym p, omega (arith, p, n, q.0.inside, length-take (suc (more b bs)) (b ∷ bs)))

  -- behind the last token there are gaps alone
  pub no_token : at ≤ length t → from t at ≡ [] → Passed t at (length t)
  no_token h e = record { along = h; inside = omega arith; same = e ∙ sym (from_end t (length t) (omega arith)); stops = λ l. absurd (omega (arith, l)) }

-- ---- the gaps before the first token
abbrev Found : List ℕ → Token → List Token → ℕ → Type 0
Found t k ks at = at ≤ length t → from t at ≡ k ∷ ks → Passed t at k.at

module _ (t : List ℕ) {k : Token} {ks : List Token} where
  passes : (at : ℕ) → at < length t → ((n : ℕ) → 1 ≤ n → Found t k ks (at + n)) → (c : Bool) → is_gap (b t at) (bs t at) ≡ c → Found t k ks at
  passes at h later true f l e =
      let p = passed (b t at) (bs t at) f in
      let j : ℕ = suc (more (b t at) (bs t at)) in
      let next : from t at ≡ from t (at + j) = ap (tokens at 0) (cut t at h) ∙ p.1 at ∙ ap (tokens (at + j) 0) (ap (drop j) (sym (cut t at h)) ∙ drop-drop j at t) in
      let long = ap length (cut t at h) in
      let r = later j (omega arith) (omega (arith, p.0.inside, long, length-drop at t)) (sym next ∙ e) in
      record { along = omega (arith, r.along); inside = r.inside; same = next ∙ r.same; stops = r.stops }
  passes at h later false f l e =
      let s : at ≡ k.at = sym (token_here t at h f e).0 in
      record { along = omega (arith, s); inside = omega (arith, s); same = ap (from t) s; stops = λ l. ap (λ (i : ℕ). is_gap (get_or t i 0) (drop (i + 1) t)) (sym s) ∙ f }

  token_after : (m at : ℕ) → length t ≤ at + m → Found t k ks at
  token_after zero at g = λ l e. let none = from_end t at (omega arith) in absurd (cc)
  token_after (suc m) at g = by (λ n i. token_after m (at + n) (omega arith)) (dec_lt at (length t))
    where
      by : ((n : ℕ) → 1 ≤ n → Found t k ks (at + n)) → Dec (at < length t) → Found t k ks at
      by later (yes h) = passes at h later (is_gap (b t at) (bs t at)) refl
      by later (no h) = λ l e. let none = from_end t at (omega arith) in absurd (cc)

  pub first_token : (at : ℕ) → at ≤ length t → from t at ≡ k ∷ ks → Passed t at k.at
  first_token at = token_after (length t) at (omega arith)
