-- The verdicts of a circuit and of its schedules.
use Rattle.std.specs.Prelude.{Ok, Err}
use mathlib.Core.Path.{◌≡◌, refl, sym, ap, ◌∙◌}
use mathlib.Core.Bool.{Bool, true, false, cond, ◌&&◌, true≢false}
use mathlib.Core.List.{List, ◌++◌}
use Prim.Native.Nat.{ℕ, ◌/◌, ◌%◌}
use lib.Dec.{eqb, leb}
use lib.ListN.{length}
use Rattle.algebra.specs.Lists.{every}
use Rattle.verdict.specs.declared.Refusal.TheVariants.{OverLimit, MalformedAt, OverCeiling}
use Rattle.verdict.specs.Questions.{Question, first_by, first_no, decided_by}
use Rattle.verdict.proofs.Questions.{yes, every_append, append_yes, append_no, decided_among}
use Rattle.gate.specs.declared.judge.Asking.TheVariants.{Channel}
use Rattle.gate.specs.Gate.{gate_size, gates_of}
use Rattle.gate.specs.Inner.Entries.{valid}
use Rattle.circuit.specs.declared.limits.Limits.{Limits}
use Rattle.circuit.specs.declared.footprint.Footprint.{Footprint}
use Rattle.circuit.specs.Limits.{matrix_ceilings, branch_ceilings}
use Rattle.circuit.specs.Footprint.{footprint_of}
use Rattle.circuit.specs.Questions.{gates_questions, number_questions, channel_questions}
use Rattle.circuit.proofs.Answers.{gates-valid, gates-numbers}
use Rattle.demands.specs.Demands.{of_gates}

-- two lists of gate words with as many gates, both or neither valid, and the same footprint
pub record Matching (n m : ℕ) (ws vs : List ℕ) : Type 0 where
  pub whole : eqb (length vs % gate_size) 0 ≡ eqb (length ws % gate_size) 0
  pub count : length vs / gate_size ≡ length ws / gate_size
  pub validity : every (valid n m) (gates_of vs) ≡ every (valid n m) (gates_of ws)
  pub footprint : footprint_of m (gates_of vs) ≡ footprint_of m (gates_of ws)

module _ (n m : ℕ) (σ : List ℕ) (l : Limits) {ws vs : List ℕ} (result work : ℕ) (h : Matching n m ws vs) where
  abbrev asked_of : List ℕ → List Question
  asked_of us = channel_questions n m σ l us result work

  -- questions 4 to 6, those after them, and both
  abbrev gates : List ℕ → List Question
  gates us = gates_questions (Channel m) n 0 (gates_of us)

  abbrev numbers : List ℕ → List Question
  numbers us = number_questions (footprint_of m (gates_of us)) n m σ l result work

  abbrev late : List ℕ → List Question
  late us = gates us ++ numbers us

  same-gates : every yes (gates vs) ≡ every yes (gates ws)
  same-gates = gates-valid n m 0 (gates_of vs) ∙ h.validity ∙ sym (gates-valid n m 0 (gates_of ws))

  same_numbers : numbers vs ≡ numbers ws
  same_numbers = ap (λ (f : Footprint). number_questions f n m σ l result work) h.footprint

  -- where the gates are valid, the numbers decide
  late-same : {A : Type 0} (f : Question → A) (z : A) → every yes (gates ws) ≡ true → first_by f z (late vs) ≡ first_by f z (late ws)
  late-same f z e =
      append_yes f z (gates vs) (numbers vs) (same-gates ∙ e) ∙ ap (first_by f z) same_numbers ∙ sym (append_yes f z (gates ws) (numbers ws) e)

  -- where one is not, a question of the gates decides
  by-gates : (us : List ℕ) → every yes (gates us) ≡ false → of_gates (decided_by (late us)) ≡ true
  by-gates us e =
      ap of_gates (append_no (λ (q : Question). q.number) 0 (gates us) (numbers us) e)
      ∙ decided_among of_gates (gates us) (gates-numbers of_gates refl refl refl (Channel m) n 0 (gates_of us)) e

  pub same-accepts : every yes (asked_of vs) ≡ every yes (asked_of ws)
  same-accepts = λ i. (matrix_ceilings l && branch_ceilings l) && (h.whole i && (leb (h.count i) l.max_operations && rest i))
    where
      rest : every yes (late vs) ≡ every yes (late ws)
      rest = every_append (gates vs) (numbers vs) ∙ (λ i. same-gates i && every yes (same_numbers i)) ∙ sym (every_append (gates ws) (numbers ws))

  -- ---- the first three questions are answered alike, and then the late ones
  abbrev ceilings-kept : Bool
  ceilings-kept = matrix_ceilings l && branch_ceilings l

  abbrev whole : Bool
  whole = eqb (length ws % gate_size) 0

  abbrev few : Bool
  few = leb (length ws / gate_size) l.max_operations

  abbrev early : {A : Type 0} → Bool → Bool → Bool → A → A → A → A → A
  early a b c x y z late = cond a (cond b (cond c late z) y) x

  -- a gate's question decides for both or for neither
  pub same-fault : of_gates (decided_by (asked_of vs)) ≡ of_gates (decided_by (asked_of ws))
  same-fault = (λ i. of_gates (early ceilings-kept (h.whole i) (leb (h.count i) l.max_operations) 1 2 3 (decided_by (late vs)))) ∙ go ceilings-kept whole few
    where
      rest : (t : Bool) → every yes (gates ws) ≡ t → of_gates (decided_by (late vs)) ≡ of_gates (decided_by (late ws))
      rest true e = ap of_gates (late-same (λ (q : Question). q.number) 0 e)
      rest false e = by-gates vs (same-gates ∙ e) ∙ sym (by-gates ws e)

      go : (a b c : Bool) → of_gates (early a b c 1 2 3 (decided_by (late vs))) ≡ of_gates (early a b c 1 2 3 (decided_by (late ws)))
      go true true true = rest (every yes (gates ws)) refl
      go true true false = refl
      go true false c = refl
      go false b c = refl

  pub same-refusal : of_gates (decided_by (asked_of ws)) ≡ false → first_no (asked_of vs) ≡ first_no (asked_of ws)
  same-refusal e =
      (λ i. early ceilings-kept (h.whole i) (leb (h.count i) l.max_operations) (Err OverCeiling) (Err (MalformedAt 0)) (Err OverLimit) (first_no (late vs)))
      ∙ go ceilings-kept whole few e
    where
      rest : (t : Bool) → every yes (gates ws) ≡ t → of_gates (decided_by (late ws)) ≡ false → first_no (late vs) ≡ first_no (late ws)
      rest true e f = late-same (λ (q : Question). Err q.refusal) (Ok tt) e
      rest false e f = absurd (true≢false (sym (by-gates ws e) ∙ f))

      go : (a b c : Bool) → of_gates (early a b c 1 2 3 (decided_by (late ws))) ≡ false
          → early a b c (Err OverCeiling) (Err (MalformedAt 0)) (Err OverLimit) (first_no (late vs)) ≡ early a b c (Err OverCeiling) (Err (MalformedAt 0)) (Err OverLimit) (first_no (late ws))
      go true true true f = rest (every yes (gates ws)) refl f
      go true true false f = refl
      go true false c f = refl
      go false b c f = refl
