-- A text judged from the left: what is seen of its numbers, piece by piece.
use mathlib.Core.Path.{◌≡◌, refl, sym, ap, ◌∙◌, subst}
use mathlib.Core.Bool.{Bool, true, false, cond, ◌&&◌}
use mathlib.Core.List.{List, map}
use Prim.Native.Nat.{ℕ, ◌+◌, ◌<◌}
use native.Mathlib.Omega.{arith}
use lib.ListN.{length, get_or, length-map}
use Rattle.algebra.specs.Lists.{every}
use Rattle.algebra.proofs.Tests.{and_no}
use Rattle.std.specs.Prelude.{Option, Some, None}
use Rattle.circuit_text.specs.declared.input.Circuit.{Circuit}
use Rattle.circuit_text.specs.declared.input.Seen.{Seen}
use Rattle.text.specs.Decimal.{value, is_number, number_of}
use Rattle.circuit_text.specs.Text.{pieces}
use Rattle.circuit_text.specs.Input.{circuit_in, is_input}
use Rattle.circuit_text.specs.Inner.Reading.{seen_next, fits_store, seen_with, seen_input, input_in}
use Rattle.text.proofs.Read.{number_some, number_none}
use Rattle.circuit_text.proofs.Pieces.{Along, along-all, along_bad, along-value, along-more}
use Rattle.circuit_text.proofs.Shapes.{Seeing, seeing_more, seeing_bad, seen_input_lem}

-- s is what the first n numbers of the text t say
pub record Judging (t : List ℕ) (n : ℕ) (s : Seen) : Type 0 where
  pub along : Along (pieces t) n
  pub count : s.count ≡ n
  pub seeing : Seeing (map value (pieces t)) s

module _ (t : List ℕ) where
  abbrev ps : List (List ℕ)
  ps = pieces t

  abbrev answer : Bool → Bool → Option Circuit
  answer a b = cond (a && b) (Some (circuit_in (map value ps))) None

  module _ {n : ℕ} {s : Seen} (j : Judging t n s) where
    -- the next piece is p
    module _ {p : List ℕ} (h : n < length ps) (e : p ≡ get_or ps n p) where
      pub judging_bad : None ≡ number_of p → None ≡ input_in (pieces t)
      judging_bad f = ap (λ (c : Bool). answer c (is_input (map value ps))) (sym (along_bad ps j.along h e (number_none p f)))

      -- it is the number v
      module _ {v : ℕ} (f : Some v ≡ number_of p) where
        value_is : get_or (map value ps) s.count 0 ≡ v
        value_is = ap (λ (k : ℕ). get_or (map value ps) k 0) j.count ∙ along-value ps j.along h e ∙ sym (number_some p f).1

        pub judging_more : {r : Seen} → Some r ≡ seen_with s v → Judging t (n + 1) r
        judging_more {r} g = by (fits_store s v) refl g
          where
            by : (c : Bool) → fits_store s v ≡ c → Some r ≡ cond c (Some (seen_next s v)) None → Judging t (n + 1) r
            by true q g =
                let same : seen_next s v ≡ r = (cc) in
                subst (Judging t (n + 1)) (ap (seen_next s) value_is ∙ same) (record {
                  along = along-more ps j.along h e (number_some p f).0;
                  count = ap (λ (k : ℕ). k + 1) j.count;
                  seeing = seeing_more (map value ps) s j.seeing (ap (fits_store s) value_is ∙ q);
                })
            by false q g = absurd (cc)

        pub judging_no_byte : None ≡ seen_with s v → None ≡ input_in (pieces t)
        judging_no_byte g = by (fits_store s v) refl g
          where
            by : (c : Bool) → fits_store s v ≡ c → None ≡ cond c (Some (seen_next s v)) None → None ≡ input_in (pieces t)
            by true q g = absurd (cc)
            by false q g =
                let no = seeing_bad (map value ps) s j.seeing (ap (fits_store s) value_is ∙ q) in
                ap (λ (c : Bool). cond c (Some (circuit_in (map value ps))) None) (sym (and_no (every is_number ps) _ no))

    pub judging_all : {r : Option Circuit} → n ≡ length ps → r ≡ seen_input s → r ≡ input_in (pieces t)
    judging_all e g =
        let all : s.count ≡ length (map value ps) = omega (arith, j.count, length-map ps value) in
        g ∙ seen_input_lem (map value ps) s j.seeing all ∙ ap (λ (c : Bool). answer c (is_input (map value ps))) (sym (along-all ps j.along e))
