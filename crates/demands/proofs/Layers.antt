-- Any order inside a layer gives the same channel: where nothing clashes the reordering is a schedule, and demand 3 has the rest.
use Rattle.std.specs.Prelude.{is_ok}
use mathlib.Core.Path.{◌≡◌, refl, sym, ap, ◌∙◌, subst}
use mathlib.Core.Bool.{Bool, true, false, cond, ◌&&◌}
use mathlib.Core.List.{List, [], ◌∷◌, ◌++◌}
use Prim.Native.Nat.{ℕ, suc, ◌/◌, ◌%◌}
use lib.Dec.{eqb, leb}
use lib.ListN.{length}
use lib.IntN.{ℤ}
use borrow.Author.Tests.{eq-eqb}
use Rattle.algebra.specs.Lists.{All, every}
use Rattle.algebra.proofs.Tests.{and_split}
use Rattle.algebra.proofs.Trace.{Trace, every_of, total_of, marks-of, length-of}
use Rattle.algebra.proofs.Schedule.{schedule_trace}
use Rattle.verdict.specs.Questions.{Question, question, decided_by}
use Rattle.verdict.specs.declared.Refusal.TheVariants.{OverLimit, MalformedAt, OverCeiling, BadLayers}
use Rattle.verdict.proofs.Questions.{yes, every_append, all_yes}
use Rattle.gate.specs.declared.judge.Asking.TheVariants.{Channel}
use Rattle.gate.specs.Gate.{Gate, gate, gate_size, gates_of, splits, weight}
use Rattle.gate.specs.Inner.Entries.{valid}
use Rattle.gate.proofs.Listed.{gates-length}
use Rattle.kraus.proofs.Counts.{writes}
use Rattle.circuit.specs.declared.limits.Limits.{Limits}
use Rattle.circuit.specs.declared.footprint.Footprint.{Footprint}
use Rattle.circuit.specs.Limits.{matrix_ceilings, branch_ceilings}
use Rattle.circuit.specs.Footprint.{footprint_of}
use Rattle.circuit.specs.Questions.{gates_questions, word_questions, number_questions}
use Rattle.circuit.specs.Layers.{closing, fired, clash, clash_questions, layer_questions, layered_questions, layered_verdict}
use Rattle.circuit.proofs.Answers.{gates-valid, gates-numbers}
use Rattle.circuit.proofs.Pairs.{free}
use Rattle.circuit.proofs.Layered.{clashes_alike, layered_schedule}
use Rattle.circuit.proofs.Clashes.{clashes_free, layered-yes, layered-free, layered-accepts}
use Rattle.judge.specs.Call.{accepts, result_after}
use Rattle.judge.specs.Layered.{layered_accepts, layered_result}
use Rattle.demands.specs.Demands.{ScheduleOf, itself, reordered, SameChannel, Demand3}
use Rattle.demands.specs.Layers as layers
use Rattle.demands.specs.Layers.{Refired, of_one_gate, Layers}
use Rattle.demands.proofs.Parts.{Parts, none, same, faults, parts_accept, parts_fault, parts_refusal}
use Rattle.demands.proofs.Verdicts.{Matching}
use Rattle.demands.proofs.Demands.{demand3}

-- what the questions read of both lists
pub record Firing (n m : ℕ) (ends ws vs : List ℕ) : Type 0 where
  pub match : Matching n m ws vs
  pub clashes : free clash [] (fired ends 0 (gates_of vs)) ≡ free clash [] (fired ends 0 (gates_of ws))

firing : (n m : ℕ) (ends : List ℕ) {ws vs table : List ℕ} → Refired ends ws vs table → Firing n m ends ws vs
firing n m ends (layers.itself h e) = record {
  match = record {
    whole = ap (λ (us : List ℕ). eqb (length us % gate_size) 0) e;
    count = ap (λ (us : List ℕ). length us / gate_size) e;
    validity = ap (λ (us : List ℕ). every (valid n m) (gates_of us)) e;
    footprint = ap (λ (us : List ℕ). footprint_of m (gates_of us)) e;
  };
  clashes = ap (λ (us : List ℕ). free clash [] (fired ends 0 (gates_of us))) e;
}
firing n m ends {ws} {vs} (layers.moved h k order inside) =
    let t : Trace (λ (g h : Gate). false) (gates_of vs) (gates_of ws) = schedule_trace (λ (g h : Gate). false) (gate 0 0 0 0 0) order in
    record {
      match = record {
        whole = eq-eqb (length vs % gate_size) 0 k ∙ sym (eq-eqb (length ws % gate_size) 0 h);
        count = sym (gates-length vs 0 (length vs / gate_size)) ∙ length-of t ∙ gates-length ws 0 (length ws / gate_size);
        validity = every_of (valid n m) t;
        footprint = λ i. record { gates = length-of t i; splits = total_of splits t i; written = marks-of m writes t i; weight = total_of weight t i };
      };
      clashes = clashes_alike ends order inside;
    }

module _ (n m : ℕ) (σ : List ℕ) (l : Limits) (ends : List ℕ) {ws vs : List ℕ} (result work : ℕ) (f : Firing n m ends ws vs) where
  abbrev early : Bool → ℕ → List Question
  early b k = question 1 (matrix_ceilings l && branch_ceilings l) OverCeiling ∷ question 2 b (MalformedAt 0) ∷ question 3 (leb k l.max_operations) OverLimit ∷ []

  abbrev gates : List ℕ → List Question
  gates us = gates_questions (Channel m) n 0 (gates_of us)

  abbrev ended : List ℕ → List Question
  ended us = question 11 (closing (length (gates_of us)) 0 ends) BadLayers ∷ []

  abbrev clashing : List ℕ → List Question
  clashing us = clash_questions [] 0 (fired ends 0 (gates_of us))

  abbrev numbers : List ℕ → List Question
  numbers us = number_questions (footprint_of m (gates_of us)) n m σ l result work

  twelve : (before : List _) (i : ℕ) (gs : List _) → All (λ (q : Question). of_one_gate q.number ≡ true) (clash_questions before i gs)
  twelve before i [] = tt
  twelve before i (g ∷ gs) = (refl, twelve (g ∷ before) (suc i) gs)

  pub fired_parts : Parts of_one_gate (layered_questions n m σ l ws ends result work) (layered_questions n m σ l vs ends result work)
  fired_parts =
      same {xs = early (eqb (length ws % gate_size) 0) (length ws / gate_size)} (λ i. early (f.match.whole i) (f.match.count i))
      (faults (gates ws) (gates vs) (gates-valid n m 0 (gates_of vs) ∙ f.match.validity ∙ sym (gates-valid n m 0 (gates_of ws)))
      (gates-numbers of_one_gate refl refl refl (Channel m) n 0 (gates_of ws)) (gates-numbers of_one_gate refl refl refl (Channel m) n 0 (gates_of vs))
      (same {xs = ended ws} {ys = ended vs} (λ i. question 11 (closing (f.match.footprint i).gates 0 ends) BadLayers ∷ [])
      (faults (clashing ws) (clashing vs) (clashes_free [] 0 (fired ends 0 (gates_of vs)) ∙ f.clashes ∙ sym (clashes_free [] 0 (fired ends 0 (gates_of ws)))) (twelve [] 0 (fired ends 0 (gates_of ws))) (twelve [] 0 (fired ends 0 (gates_of vs)))
      (same {xs = numbers ws} {ys = numbers vs} {us = []} {vs = []} (ap (λ (g : Footprint). number_questions g n m σ l result work) f.match.footprint) none))))

-- where the list is accepted, a reordering inside its layers is a schedule
as_schedule : (ends : List ℕ) {ws vs table : List ℕ} → Refired ends ws vs table → free clash [] (fired ends 0 (gates_of vs)) ≡ true → ScheduleOf ws vs table
as_schedule ends (layers.itself h e) c = itself h e
as_schedule ends (layers.moved h k order inside) c = reordered h k (layered_schedule ends order inside c)

pub layers-alike : Layers
layers-alike n m σ l ws vs ends table re r w s x p q = record {
  acceptance = acceptance;
  gates = (λ i. of_one_gate (decided_by (layered_questions n m σ l vs ends (p i) (q i)))) ∙ parts_fault of_one_gate parts;
  refusal = λ e. (λ i. layered_verdict n m σ l vs ends (p i) (q i)) ∙ parts_refusal of_one_gate parts e;
  channels = channels;
}
  where
    f : Firing n m ends ws vs
    f = firing n m ends re

    parts : Parts of_one_gate (layered_questions n m σ l ws ends (length r) (length w)) (layered_questions n m σ l vs ends (length r) (length w))
    parts = fired_parts n m σ l ends (length r) (length w) f

    acceptance : layered_accepts n m σ l vs ends s x ≡ layered_accepts n m σ l ws ends r w
    acceptance =
        (λ i. is_ok (layered_verdict n m σ l vs ends (p i) (q i)))
        ∙ layered-yes n m σ l vs ends (length r) (length w) ∙ parts_accept of_one_gate parts ∙ sym (layered-yes n m σ l ws ends (length r) (length w))

    channels : layered_accepts n m σ l ws ends r w ≡ true → SameChannel (layered_result n m σ l ws ends r w) (layered_result n m σ l vs ends s x)
    channels e =
        let a : accepts n m σ l ws r w ≡ true = layered-accepts n m σ l ws ends (length r) (length w) e in
        let c : free clash [] (fired ends 0 (gates_of ws)) ≡ true = layered-free n m σ l ws ends (length r) (length w) e in
        let d = demand3 n m σ l ws vs table (as_schedule ends re (f.clashes ∙ c)) r w s x p q in
        subst (λ (u : List ℤ). SameChannel u (layered_result n m σ l vs ends s x)) (sym (ap (λ (b : Bool). cond b (result_after n m σ l ws r w) r) e))
        (subst (SameChannel (result_after n m σ l ws r w)) (sym (ap (λ (b : Bool). cond b (result_after n m σ l vs s x) s) (acceptance ∙ e)))
        (d.channels a))
