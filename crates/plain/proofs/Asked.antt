-- The questions of the profile: gate by gate, and what they say besides the questions of circuit_channel.
use Rattle.std.specs.Prelude.{is_ok, Ok, Err}
use mathlib.Core.Path.{◌≡◌, refl, sym, ap, ap₂, ◌∙◌, subst}
use mathlib.Core.Bool.{Bool, true, false, cond, not, ◌&&◌, ◌||◌, true≢false}
use mathlib.Core.List.{List, [], ◌∷◌, ◌++◌}
use Prim.Native.Nat.{ℕ, zero, suc, ◌+◌, ◌-◌, ◌*◌, ◌/◌, ◌%◌, ◌≤◌, ◌<◌}
use native.Mathlib.Omega.{arith}
use lib.Dec.{eqb, leb, ltb}
use native.Mathlib.Numerals.{add-one}
use lib.ListN.{length}
use borrow.Author.Tests.{lt-ltb, le-ltb}
use Rattle.algebra.specs.Lists.{every}
use Rattle.algebra.proofs.Tests.{and_split, and_no, or_right}
use Rattle.verdict.specs.declared.Refusal.{Refusal}
use Rattle.verdict.specs.Questions.{Verdict}
use Rattle.verdict.specs.declared.Refusal.TheVariants.{OverLimit, MalformedAt, OverCeiling, NotPlainAt}
use Rattle.verdict.specs.Verdict.{verdict_index}
use Rattle.verdict.specs.Questions.{Question, question, first_by, first_no}
use Rattle.gate.proofs.Listed.{gates-more, gates-none}
use Rattle.verdict.proofs.Questions.{refused, passed, yes, first_append, append_yes, append_no, every_append, all_yes}
use Rattle.gate.specs.declared.judge.Asking.TheVariants.{Channel}
use Rattle.gate.specs.Gate.{Gate, gate_size, gate_at, gates_from, gates_of, formed, placed, supported}
use Rattle.gate.specs.Questions.{three_answers, gate_questions}
use Rattle.circuit.specs.declared.limits.Limits.{Limits}
use Rattle.circuit.specs.Limits.{matrix_ceilings, branch_ceilings}
use Rattle.circuit.specs.Footprint.{footprint_of}
use Rattle.circuit.specs.Questions.{gates_questions, length_questions, word_questions, number_questions, channel_questions, channel_verdict}
use Rattle.circuit.proofs.Answers.{channel_accepts}
use Rattle.plain.specs.Profile.{in_profile}
use Rattle.plain.specs.Questions.{profile_questions, plain_word_questions, plain_questions, plain_verdict}

-- ---- gate by gate: what the first gate decides, and what it leaves to the rest
module _ (ws : List ℕ) (n m : ℕ) where
  abbrev count : ℕ
  count = length ws / gate_size

  -- the questions from gate i on
  abbrev pub from : ℕ → List Question
  from i = profile_questions n m i (gates_from ws i (length ws / gate_size - i))

  -- gate i
  module _ {i : ℕ} {g : Gate} (l : i < length ws / gate_size) (e : g ≡ gate_at ws (i * gate_size)) where
    abbrev asked : List Question
    asked = gate_questions (Channel m) n i g

    split : from i ≡ asked ++ (question 23 (in_profile g) (NotPlainAt i) ∷ from (i + 1))
    split =
        ap (profile_questions n m i) (gates-more ws count i l)
        ∙ (λ j. gate_questions (Channel m) n i (sym e j) ++ (question 23 (in_profile (sym e j)) (NotPlainAt i) ∷ profile_questions n m (sym (add-one i) j) (gates_from ws (i + 1) (count - (i + 1)))))

    pub gate_decides : {r : Refusal} → Err r ≡ first_no (gate_questions (Channel m) n i g) → Err r ≡ first_no (from i)
    gate_decides h = refused tt tt asked (question 23 (in_profile g) (NotPlainAt i) ∷ from (i + 1)) h ∙ ap first_no (sym split)

    -- its own questions are answered by yes
    module _ (h : Ok tt ≡ first_no (gate_questions (Channel m) n i g)) where
      left : first_no (from i) ≡ cond (in_profile g) (first_no (from (i + 1))) (Err (NotPlainAt i))
      left = ap first_no split ∙ sym (passed tt tt asked (question 23 (in_profile g) (NotPlainAt i) ∷ from (i + 1)) h)

      pub profile_decides : in_profile g ≡ false → Err (NotPlainAt i) ≡ first_no (from i)
      profile_decides f = sym (left ∙ ap (λ (b : Bool). cond b (first_no (from (i + 1))) (Err (NotPlainAt i))) f)

      pub rest_decides : in_profile g ≡ true → first_no (from i) ≡ first_no (from (i + 1))
      rest_decides f = left ∙ ap (λ (b : Bool). cond b (first_no (from (i + 1))) (Err (NotPlainAt i))) f

-- ---- besides the questions of circuit_channel they ask whether each gate is in the profile
profile_yes : (n m i : ℕ) (gs : List Gate) → every yes (profile_questions n m i gs) ≡ every in_profile gs && every yes (gates_questions (Channel m) n i gs)
profile_yes n m i [] = refl
profile_yes n m i (g ∷ gs) =
    every_append (gate_questions (Channel m) n i g) (question 23 (in_profile g) (NotPlainAt i) ∷ profile_questions n m (suc i) gs)
    ∙ ap (λ (b : Bool). every yes (gate_questions (Channel m) n i g) && (in_profile g && b)) (profile_yes n m (suc i) gs)
    ∙ shuffle (every yes (gate_questions (Channel m) n i g)) (in_profile g) (every in_profile gs) (every yes (gates_questions (Channel m) n (suc i) gs))
    ∙ ap (λ (b : Bool). (in_profile g && every in_profile gs) && b) (sym (every_append (gate_questions (Channel m) n i g) (gates_questions (Channel m) n (suc i) gs)))
  where
    shuffle : (a b c d : Bool) → (a && (b && (c && d))) ≡ ((b && c) && (a && d))
    shuffle true true c d = refl
    shuffle true false c d = refl
    shuffle false true true d = refl
    shuffle false true false d = refl
    shuffle false false c d = refl

abbrev refused_by : Question → Verdict
refused_by q = Err q.refusal

-- gates that are all in the profile: 23 decides nothing
profile_same : (n m i : ℕ) (gs : List Gate) → every in_profile gs ≡ true → (z : Verdict)
    → first_by refused_by z (profile_questions n m i gs) ≡ first_by refused_by z (gates_questions (Channel m) n i gs)
profile_same n m i [] e z = refl
profile_same n m i (g ∷ gs) e z =
    let (p, r) = and_split (in_profile g) (every in_profile gs) e in
    first_append refused_by z (gate_questions (Channel m) n i g) (question 23 (in_profile g) (NotPlainAt i) ∷ profile_questions n m (suc i) gs)
    ∙ ap (λ (u : Verdict). first_by refused_by u (gate_questions (Channel m) n i g))
    (ap (λ (b : Bool). cond b (first_by refused_by z (profile_questions n m (suc i) gs)) (Err (NotPlainAt i))) p ∙ profile_same n m (suc i) gs r z)
    ∙ sym (first_append refused_by z (gate_questions (Channel m) n i g) (gates_questions (Channel m) n (suc i) gs))

-- ---- the whole call
module _ (n m : ℕ) (l : Limits) (ws : List ℕ) where
  words-yes : every yes (plain_word_questions n m l ws) ≡ every in_profile (gates_of ws) && every yes (word_questions n m l ws)
  words-yes =
      every_append (length_questions l ws) (profile_questions n m 0 (gates_of ws)) ∙ ap (λ (b : Bool). every yes (length_questions l ws) && b) (profile_yes n m 0 (gates_of ws))
      ∙ exchange (every yes (length_questions l ws)) (every in_profile (gates_of ws)) (every yes (gates_questions (Channel m) n 0 (gates_of ws)))
      ∙ ap (λ (b : Bool). every in_profile (gates_of ws) && b) (sym (every_append (length_questions l ws) (gates_questions (Channel m) n 0 (gates_of ws))))
    where
      exchange : (a b c : Bool) → (a && (b && c)) ≡ (b && (a && c))
      exchange true true c = refl
      exchange true false c = refl
      exchange false true c = refl
      exchange false false c = refl

  module _ (σ : List ℕ) (result work : ℕ) where
    abbrev numbers : List Question
    numbers = number_questions (footprint_of m (gates_of ws)) n m σ l result work

    -- where the words pass, all is asked that circuit_channel asks
    pub as_channel : is_ok (first_no (plain_word_questions n m l ws)) ≡ true → plain_verdict n m σ l ws result work ≡ channel_verdict n m σ l ws result work
    as_channel e =
        let all : every yes (plain_word_questions n m l ws) ≡ true = sym (all_yes tt (plain_word_questions n m l ws)) ∙ e in
        let (p, q) = and_split (every in_profile (gates_of ws)) (every yes (word_questions n m l ws)) (sym words-yes ∙ all) in
        append_yes _ _ (plain_word_questions n m l ws) numbers all ∙ sym (append_yes _ _ (word_questions n m l ws) numbers q)

    pub plain-accepts : is_ok (plain_verdict n m σ l ws result work) ≡ every in_profile (gates_of ws) && is_ok (channel_verdict n m σ l ws result work)
    plain-accepts =
        all_yes tt (plain_questions n m σ l ws result work)
        ∙ every_append (plain_word_questions n m l ws) numbers ∙ ap (λ (b : Bool). b && every yes numbers) words-yes
        ∙ assoc (every in_profile (gates_of ws)) (every yes (word_questions n m l ws)) (every yes numbers)
        ∙ ap (λ (b : Bool). every in_profile (gates_of ws) && b) (sym (channel_accepts n m σ l ws result work ∙ every_append (word_questions n m l ws) numbers))
      where
        assoc : (a b c : Bool) → ((a && b) && c) ≡ (a && (b && c))
        assoc true b c = refl
        assoc false b c = refl

    pub plain-same : every in_profile (gates_of ws) ≡ true → plain_verdict n m σ l ws result work ≡ channel_verdict n m σ l ws result work
    plain-same e =
        first_append refused_by (Ok tt) (plain_word_questions n m l ws) numbers ∙ first_append refused_by (first_no numbers) (length_questions l ws) (profile_questions n m 0 (gates_of ws))
        ∙ ap (λ (u : Verdict). first_by refused_by u (length_questions l ws)) (profile_same n m 0 (gates_of ws) e (first_no numbers))
        ∙ sym (first_append refused_by (Ok tt) (word_questions n m l ws) numbers ∙ first_append refused_by (first_no numbers) (length_questions l ws) (gates_questions (Channel m) n 0 (gates_of ws)))
