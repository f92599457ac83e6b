-- A gate's small matrix placed on its qubits touches only their bits, so two on different qubits commute;
-- and row and column agree outside some qubits exactly where they are equal once those are cleared.
use mathlib.Core.Path.{◌≡◌, refl, sym, ap, ap₂, ◌∙◌, subst}
use mathlib.Core.Logic.{◌≢◌}
use mathlib.Core.Bool.{Bool, true, false, cond, ◌||◌, true≢false}
use mathlib.Core.List.{List, [], ◌∷◌}
use Prim.Native.Nat.{ℕ, ◌-◌, ◌^◌, ◌≤◌, ◌<◌}
use native.Mathlib.Omega.{arith}
use lib.Dec.{eqb}
use borrow.Author.Tests.{eqb-true, eqb-false, eq-eqb, ne_eqb}
use Rattle.algebra.specs.Lists.{All}
use Rattle.algebra.specs.Sum.{times}
use Rattle.algebra.proofs.Tests.{all-at, all-by}
use Rattle.algebra.proofs.Lists.{all_both, map_same}
use Rattle.algebra.proofs.Semi.{Semi}
use Rattle.gate.specs.Gate.{elem}
use Rattle.gate.specs.Embed.{bit, bits_of, agree, embed}
use Rattle.gate.proofs.Gate.{elem-all}
use Rattle.gate.proofs.Bits.{binary, low, cleared, low-cleared, low-other}
use Rattle.gate.proofs.Local.{Local, commute}

-- the test of one qubit, asked and told
abbrev tested : ℕ → List ℕ → ℕ → ℕ → ℕ → Bool
tested n qs r c q = elem q qs || eqb (bit n q r) (bit n q c)

pub agree_at : (n : ℕ) (qs : List ℕ) (r c : ℕ) → agree n qs r c ≡ true → (q : ℕ) → q < n → elem q qs ≡ false → bit n q r ≡ bit n q c
agree_at n qs r c e q l f = eqb-true (bit n q r) (bit n q c) (sym (ap (λ (b : Bool). b || eqb (bit n q r) (bit n q c)) f) ∙ all-at n (tested n qs r c) e q l)

pub agree-by : (n : ℕ) (qs : List ℕ) (r c : ℕ) → ((q : ℕ) → q < n → elem q qs ≡ false → bit n q r ≡ bit n q c) → agree n qs r c ≡ true
agree-by n qs r c h = all-by n (tested n qs r c) (λ q l. go q l (elem q qs) refl)
  where
    go : (q : ℕ) → q < n → (b : Bool) → elem q qs ≡ b → b || eqb (bit n q r) (bit n q c) ≡ true
    go q l true e = refl
    go q l false e = eq-eqb (bit n q r) (bit n q c) (h q l e)

pub bits_of-same : (n : ℕ) (qs : List ℕ) (r r' : ℕ) → All (λ (q : ℕ). q < n) qs → ((q : ℕ) → q < n → elem q qs ≡ true → bit n q r ≡ bit n q r')
    → bits_of n qs r ≡ bits_of n qs r'
bits_of-same n qs r r' fit h =
    map_same (λ (q : ℕ). bit n q r) (λ (q : ℕ). bit n q r') qs
    (all_both (λ (q : ℕ). q < n) (λ (q : ℕ). elem q qs ≡ true) (λ (q : ℕ). bit n q r ≡ bit n q r') qs h fit (elem-all qs qs (λ q e. e)))

module _ (𝓡 : Semi) (n : ℕ) where
  open 𝓡 use {R, ops}
  open 𝓡.ops use {𝟘}

  -- where row and column agree outside the qubits
  pub embed-inside : (qs : List ℕ) (u : List ℕ → List ℕ → R) (r c : ℕ) → ((q : ℕ) → q < n → elem q qs ≡ false → bit n q r ≡ bit n q c)
      → embed ops n qs u r c ≡ u (bits_of n qs r) (bits_of n qs c)
  embed-inside qs u r c h = ap (λ (b : Bool). cond b (u (bits_of n qs r) (bits_of n qs c)) 𝟘) (agree-by n qs r c h)

  pub embed_local : (qs : List ℕ) (u : List ℕ → List ℕ → R) → All (λ (q : ℕ). q < n) qs → Local 𝓡 n (2 ^ n) (bit n) (λ (q : ℕ). elem q qs) (embed ops n qs u)
  embed_local qs u fit = record {
    off = λ r c q l e x. apart r c q l e x (agree n qs r c) refl;
    on = λ r c r' c' hr hc h h'.
        embed-inside qs u r c h ∙ ap₂ u (bits_of-same n qs r r' fit hr) (bits_of-same n qs c c' fit hc) ∙ sym (embed-inside qs u r' c' h');
  }
    where
      apart : (r c q : ℕ) → q < n → elem q qs ≡ false → bit n q r ≢ bit n q c → (b : Bool) → agree n qs r c ≡ b → cond b (u (bits_of n qs r) (bits_of n qs c)) 𝟘 ≡ 𝟘
      apart r c q l e x true f = absurd (x (agree_at n qs r c f q l e))
      apart r c q l e x false f = refl

  -- on different qubits
  pub embeds_commute : (ss ts : List ℕ) (u v : List ℕ → List ℕ → R) → All (λ (q : ℕ). q < n) ss → All (λ (q : ℕ). q < n) ts
      → ((q : ℕ) → elem q ss ≡ true → elem q ts ≡ false)
      → (r c : ℕ) → times ops (2 ^ n) (embed ops n ss u) (embed ops n ts v) r c ≡ times ops (2 ^ n) (embed ops n ts v) (embed ops n ss u) r c
  embeds_commute ss ts u v fs ft h =
      commute 𝓡 n (2 ^ n) (bit n) (binary n) (λ (q : ℕ). elem q ss) (λ (q : ℕ). elem q ts) (embed ops n ss u) (embed ops n ts v)
      (embed_local ss u fs) (embed_local ts v ft) (λ q l e. h q e)

-- ---- masks
module _ (n : ℕ) where
  -- the qubits of the list cleared
  abbrev pub clear : List ℕ → ℕ → ℕ
  clear [] r = r
  clear (q ∷ qs) r = cleared (n - 1 - q) (clear qs r)

  clear_le : (qs : List ℕ) (r : ℕ) → clear qs r ≤ r
  unfolding cleared
  clear_le [] r = omega arith
  clear_le (q ∷ qs) r = omega (arith, clear_le qs r)

  clear-bit : (qs : List ℕ) (r p : ℕ) → p < n → All (λ (q : ℕ). q < n) qs → bit n p (clear qs r) ≡ cond (elem p qs) 0 (bit n p r)
  unfolding low
  clear-bit [] r p l f = refl
  clear-bit (q ∷ qs) r p l f = go (eqb p q) refl (clear-bit qs r p l f.1)
    where
      go : (b : Bool) → eqb p q ≡ b → bit n p (clear qs r) ≡ cond (elem p qs) 0 (bit n p r)
          → bit n p (cleared (n - 1 - q) (clear qs r)) ≡ cond (b || elem p qs) 0 (bit n p r)
      go true e h = subst (λ (k : ℕ). bit n p (cleared (n - 1 - k) (clear qs r)) ≡ 0) (eqb-true p q e) (low-cleared (n - 1 - p) (clear qs r))
      go false e h = low-other (n - 1 - p) (n - 1 - q) (clear qs r) (λ x. eqb-false p q e (omega (arith, f.0))) ∙ h

  agree_then : (qs : List ℕ) (r c : ℕ) → r < 2 ^ n → c < 2 ^ n → All (λ (q : ℕ). q < n) qs → agree n qs r c ≡ true → clear qs r ≡ clear qs c
  agree_then qs r c lr lc f e =
      (binary n).tells (clear qs r) (clear qs c) (omega (arith, clear_le qs r)) (omega (arith, clear_le qs c))
      (λ p l. clear-bit qs r p l f ∙ go p l (elem p qs) refl ∙ sym (clear-bit qs c p l f))
    where
      go : (p : ℕ) → p < n → (b : Bool) → elem p qs ≡ b → cond b 0 (bit n p r) ≡ cond b 0 (bit n p c)
      go p l true h = refl
      go p l false h = agree_at n qs r c e p l h

  then-agree : (qs : List ℕ) (r c : ℕ) → All (λ (q : ℕ). q < n) qs → clear qs r ≡ clear qs c → agree n qs r c ≡ true
  then-agree qs r c f e = agree-by n qs r c (λ p l h.
      sym (clear-bit qs r p l f ∙ ap (λ (b : Bool). cond b 0 (bit n p r)) h) ∙ ap (bit n p) e ∙ clear-bit qs c p l f ∙ ap (λ (b : Bool). cond b 0 (bit n p c)) h)

  -- the test of the definition is the test that masks make
  pub agree-clear : (qs : List ℕ) (r c : ℕ) → r < 2 ^ n → c < 2 ^ n → All (λ (q : ℕ). q < n) qs → agree n qs r c ≡ eqb (clear qs r) (clear qs c)
  agree-clear qs r c lr lc f = go (agree n qs r c) refl
    where
      go : (b : Bool) → agree n qs r c ≡ b → agree n qs r c ≡ eqb (clear qs r) (clear qs c)
      go true e = e ∙ sym (eq-eqb (clear qs r) (clear qs c) (agree_then qs r c lr lc f e))
      go false e = e ∙ sym (ne_eqb (clear qs r) (clear qs c) (λ x. true≢false (sym (then-agree qs r c f x) ∙ e)))
