-- The gates of a text, one token after the other.
use mathlib.Core.Path.{◌≡◌, refl, sym, ap, ◌∙◌}
use mathlib.Core.Bool.{Bool, true, false, cond, not, ◌&&◌}
use mathlib.Core.List.{List, [], ◌∷◌, map}
use Prim.Native.Nat.{ℕ, suc, ◌+◌, ◌-◌, ◌≤◌, min}
use native.Mathlib.Nat.{zero-add, sub-zero}
use native.Mathlib.Omega.{arith}
use lib.ListN.{length, get_or}
use Rattle.text.specs.Ascii.{ascii}
use Rattle.qasm.specs.Tokens.{same, Token}
use Rattle.statements.specs.Statements.{body, opens, declares, of_gates, gate_count, gate_position}

-- the position of gate i among these tokens, in a text of n bytes
abbrev place : ℕ → List Token → ℕ → ℕ
place n ts i = get_or (map (λ (k : Token). k.at) ts) i n

abbrev gates : Bool → List Token → List Token
gates opening left = of_gates (opens opening left)

-- what is answered
pub record Answered (t : List ℕ) (index at before : ℕ) : Type 0 where
  pub position : at ≡ gate_position t index
  pub count : before ≡ min index (gate_count t)

-- gates `before` stand before the tokens that are left, and gate `index` is among these if it is there
pub record Counting (t : List ℕ) (index before : ℕ) (opening : Bool) (left : List Token) : Type 0 where
  pub few : before ≤ index
  pub position : gate_position t index ≡ place (length t) (gates opening left) (index - before)
  pub count : gate_count t ≡ before + length (gates opening left)

pub gates-first : (o : Bool) (k : Token) (ts : List Token) → of_gates (cond o (k ∷ ts) ts) ≡ cond (o && not (declares k.bytes)) (k ∷ of_gates ts) (of_gates ts)
gates-first true k ts = refl
gates-first false k ts = refl

module _ (t : List ℕ) (index : ℕ) where
  pub counting_top : {left : List Token} → left ≡ body t → Counting t index 0 true left
  counting_top e =
      let all = ap (gates true) (sym e) in
      record { few = omega arith; position = (λ j. place (length t) (all j) (sym (sub-zero index) j)); count = ap length all ∙ sym (zero-add _) }

  module _ {before : ℕ} {opening : Bool} {now : List Token} (o : Counting t index before opening now) where
    pub counting_end : now ≡ [] → Answered t index (length t) before
    unfolding opens
    counting_end e =
        let none = ap (gates opening) e in
        record { position = sym (o.position ∙ ap (λ (ts : List Token). place (length t) ts (index - before)) none); count = omega (arith, o.few, o.count, ap length none) }

    -- ---- one token, which is a gate's or not
    module _ {k : Token} {left : List Token} (e : now ≡ k ∷ left) {declaring : Bool} (d : declaring ≡ declares k.bytes) where
      abbrev later : List Token
      later = gates (same (ascii ";") k.bytes) left

      split : {c : Bool} → (opening && not declaring) ≡ c → gates opening now ≡ cond c (k ∷ later) later
      unfolding opens
      split f =
          ap (gates opening) e ∙ gates-first opening k (opens (same (ascii ";") k.bytes) left)
          ∙ ap (λ (c : Bool). cond c (k ∷ later) later) (ap (λ (b : Bool). opening && not b) (sym d) ∙ f)

      pub counting_found : (opening && not declaring) ≡ true → before ≡ index → Answered t index k.at before
      counting_found f b =
          let all = split f in
          let none : index - before ≡ 0 = omega arith in
          record { position = sym (o.position ∙ (λ i. place (length t) (all i) (none i))); count = omega (arith, o.count, ap length all) }

      module _ {opening' : Bool} (q : opening' ≡ same (ascii ";") k.bytes) where
        pub counting_more : {before' : ℕ} → (opening && not declaring) ≡ true → (before ≡ index → ⊥) → before' ≡ before + 1 → Counting t index before' opening' left
        counting_more {before'} f n b =
            let all = split f ∙ ap (λ (o : Bool). k ∷ gates o left) (sym q) in
            let less : index - before ≡ suc (index - before') = omega (arith, o.few) in
            record { few = omega (arith, o.few); position = o.position ∙ (λ i. place (length t) (all i) (less i)); count = omega (arith, o.count, ap length all) }

        pub counting_same : {before' : ℕ} → (opening && not declaring) ≡ false → before' ≡ before → Counting t index before' opening' left
        counting_same f b =
            let all = split f ∙ ap (λ (o : Bool). gates o left) (sym q) in
            record {
              few = omega (arith, o.few);
              position = o.position ∙ (λ i. place (length t) (all i) (index - sym b i));
              count = omega (arith, o.count, ap length all);
            }
