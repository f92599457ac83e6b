-- The old gate is taken out, and the new one put in its place.
use Rattle.std.specs.Prelude.{is_ok, Err}
use Rattle.std.proofs.Common.{◌≡◌, refl, arith, sym, ap, ◌∙◌, length, List, ◌∷◌}
use mathlib.Core.Path.{subst}
use mathlib.Core.Bool.{Bool, true, false, ◌&&◌, ◌||◌}
use lib.Dec.{leb, ltb}
use lib.IntN.{ℤ}
use Rattle.verdict.specs.declared.Refusal.TheVariants.{NoGate}
use Rattle.verdict.specs.Questions.{question, first_no}
use Rattle.verdict.proofs.Questions.{returned, refused}
use Rattle.gate.specs.Inner.Words.{gate_of}
use Rattle.kept_circuit.specs.Kept.{gates_of}
use Rattle.kept_circuit.specs.Edits.{counted, put, gate_in, takeable, take_questions, ask_gate, replace_verdict}
use Rattle.kept_circuit.specs.Inner.Taken.{Taken}
use Rattle.kept_circuit.specs.Inner.Within.{Within}
use Rattle.kept_circuit.proofs.Sound.{sound_is, sound-within, within_more, within-counted, bits-counted, length-counted}
use Rattle.kept_circuit.proofs.Asked.{refused-words, done_words, taken_bits, taken_by, taken_place, unsound, replace_asked}
use Rattle.kept_circuit.proofs.edits.replace.Goals as goal

pub count_gate-requires : goal.count_gate-requires
count_gate-requires c =
    let s = sound_is c.args.words.now c.in_ok-kept.ensures.1 in
    (within_more (sound-within s) (omega arith), taken_bits s (taken_by c.in_ok-kept.ensures.0 c.in_ok-old.ensures))

pub put_in-requires : goal.put_in-requires
put_in-requires c =
    let l = c.args.words.now in
    let i = c.args.i in
    let old = gate_of c.in_ok-old.old in
    let s = sound_is l c.in_ok-kept.ensures.1 in
    let t : Taken l i old = taken_by c.in_ok-kept.ensures.0 c.in_ok-old.ensures in
    let asked = c.in_ok-ask_gate.ensures ∙ ap (λ (l : List ℤ). first_no (ask_gate l i (gate_of c.args.g))) c.in_ok-kept.ensures.0 in (
      subst (λ (m : List ℤ). Within m 2000) (sym c.count_gate.ensures) (within_more (within-counted (sound-within s) false old (taken_bits s t)) (omega arith)),
      (omega (arith, taken_place s t, ap length c.count_gate.ensures, length-counted false l old), bits-counted s i (gate_of c.args.g) (sym (ap is_ok asked))),
    )

-- a refusal is the first no, and the words stay
unsound_counts : (c : goal.After-from_residual) → Err c.in_err-kept.field-0.0 ≡ replace_verdict c.args.words.now c.args.i (gate_of c.args.g)
unsound_counts c =
    let l = c.args.words.now in
    let i = c.args.i in
    let g = gate_of c.args.g in
    unsound (question 21 (ltb i (gates_of l)) NoGate ∷ ask_gate l i g) c.in_err-kept.ensures.0 (ap (λ (b : Bool). b && (leb (gates_of l) i || takeable l i)) c.in_err-kept.ensures.1)

not-taken : (c : goal.After-from_residual-in_err-old) → Err c.in_err-old.field-0.0 ≡ replace_verdict c.args.words.now c.args.i (gate_of c.args.g)
not-taken c =
    let l = c.args.words.now in
    let i = c.args.i in
    refused tt tt (take_questions l i) (ask_gate l i (gate_of c.args.g)) (c.in_err-old.ensures ∙ ap (λ (l : List ℤ). first_no (take_questions l i)) c.in_ok-kept.ensures.0)

not-placed : (c : goal.After-from_residual-in_err-ask_gate) → Err c.in_err-ask_gate.field-0.0 ≡ replace_verdict c.args.words.now c.args.i (gate_of c.args.g)
not-placed c = replace_asked c.in_ok-kept.ensures.0 c.in_ok-old.ensures (gate_of c.args.g) c.in_err-ask_gate.ensures

pub returns-in_err-kept-clause-value : goal.returns-in_err-kept-clause-value
returns-in_err-kept-clause-value c = returned _ c.from_residual.ensures.1 ∙ unsound_counts c

pub returns-in_err-kept-clause-words_after : goal.returns-in_err-kept-clause-words_after
returns-in_err-kept-clause-words_after c = refused-words _ c.args.words.now (unsound_counts c) refl

pub returns-in_err-old-clause-value : goal.returns-in_err-old-clause-value
returns-in_err-old-clause-value c = returned _ c.from_residual-in_err-old.ensures.1 ∙ not-taken c

pub returns-in_err-old-clause-words_after : goal.returns-in_err-old-clause-words_after
returns-in_err-old-clause-words_after c = refused-words _ c.args.words.now (not-taken c) refl

pub returns-in_err-ask_gate-clause-value : goal.returns-in_err-ask_gate-clause-value
returns-in_err-ask_gate-clause-value c = returned _ c.from_residual-in_err-ask_gate.ensures.1 ∙ not-placed c

pub returns-in_err-ask_gate-clause-words_after : goal.returns-in_err-ask_gate-clause-words_after
returns-in_err-ask_gate-clause-words_after c = refused-words _ c.args.words.now (not-placed c) refl

-- the verdict where every question is answered by yes
pub returns-clause-value : goal.returns-clause-value
returns-clause-value c = replace_asked c.in_ok-kept.ensures.0 c.in_ok-old.ensures (gate_of c.args.g) c.in_ok-ask_gate.ensures

pub returns-clause-words_after : goal.returns-clause-words_after
returns-clause-words_after c =
    let l = c.args.words.now in
    let i = c.args.i in
    let g = gate_of c.args.g in
    let t : Taken l i (gate_of c.in_ok-old.old) = taken_by c.in_ok-kept.ensures.0 c.in_ok-old.ensures in
    done_words (put (counted true (counted false l (gate_in l i)) g) i g) l (replace_asked c.in_ok-kept.ensures.0 c.in_ok-old.ensures g c.in_ok-ask_gate.ensures) refl
    (c.put_in.ensures ∙ ap (λ (m : List ℤ). put (counted true m g) i g) (c.count_gate.ensures ∙ ap (counted false l) t.is))
