-- The counts are small, and the place is there.
use Rattle.std.specs.Prelude.{is_ok, Err}
use Rattle.std.proofs.Common.{◌≡◌, refl, arith, sym, ap, ◌∙◌, List, [], ◌∷◌, ℕ, ◌<◌, ◌≤◌, length}
use mathlib.Core.Path.{subst}
use mathlib.Core.Bool.{Bool, true, ◌&&◌}
use lib.Dec.{ltb}
use lib.IntN.{ℤ}
use borrow.Author.Tests.{le-ltb}
use Rattle.verdict.specs.declared.Refusal.TheVariants.{NoPlace, BadCounts}
use Rattle.verdict.specs.Questions.{question, first_no}
use Rattle.verdict.proofs.Questions.{returned, decided}
use Rattle.gate.specs.Inner.Words.{gate_of}
use Rattle.kept_circuit.specs.Kept.{gates_of, room, sound}
use Rattle.kept_circuit.specs.Edits.{counted, put, ask_gate, append_verdict}
use Rattle.kept_circuit.proofs.Sound.{sound_is, sound-within, within_more, place-free, bits-counted}
use Rattle.kept_circuit.proofs.Asked.{refused-words, done_words, unsound, append_asked}
use Rattle.kept_circuit.proofs.edits.append.Goals as goal

pub room_in-requires : goal.room_in-requires
room_in-requires c = (sound_is c.args.words.now c.in_ok-kept.ensures.1).long

pub put_in-requires : goal.put_in-requires
put_in-requires c =
    let s = sound_is c.args.words.now c.in_ok-kept.ensures.1 in
    let i = c.gates-count.result in
    let g = gate_of c.args.g in
    let asked = c.in_ok-ask_gate.ensures ∙ ap (λ (l : List ℤ). first_no (ask_gate l i g)) c.in_ok-kept.ensures.0 in
    (within_more (sound-within s) (omega arith), (place-free s i (omega arith), bits-counted s i g (sym (ap is_ok asked))))

-- a refusal is the first no, and the words stay
unsound_counts : (c : goal.After-from_residual) → Err c.in_err-kept.field-0.0 ≡ append_verdict c.args.words.now (gate_of c.args.g)
unsound_counts c =
    let l = c.args.words.now in
    unsound (question 20 (ltb (gates_of l) (room (length l))) NoPlace ∷ ask_gate l (gates_of l) (gate_of c.args.g)) c.in_err-kept.ensures.0 c.in_err-kept.ensures.1

no_place : (c : goal.Then-room_in-count) → Err NoPlace ≡ append_verdict c.args.words.now (gate_of c.args.g)
no_place c =
    let l = c.args.words.now in
    let at : c.gates-count.result ≡ gates_of l = c.gates-count.ensures ∙ ap gates_of c.in_ok-kept.ensures.0 in
    let full : room (length l) ≤ gates_of l = subst (λ (n : ℕ). n ≤ gates_of l) c.room_in.ensures (subst (λ (n : ℕ). c.room_in.result ≤ n) at c.if-room_in-count.true) in
    sym (decided (question 25 (sound l) BadCounts ∷ []) (ask_gate l (gates_of l) (gate_of c.args.g)) (question 20 (ltb (gates_of l) (room (length l))) NoPlace)
    (ap (λ (b : Bool). b && true) c.in_ok-kept.ensures.1) (le-ltb (gates_of l) (room (length l)) full))

not-placed : (c : goal.After-from_residual-in_err-ask_gate) → Err c.in_err-ask_gate.field-0.0 ≡ append_verdict c.args.words.now (gate_of c.args.g)
not-placed c =
    append_asked c.in_ok-kept.ensures.0 c.gates-count.ensures (gate_of c.args.g) c.in_ok-kept.ensures.1
    (subst (λ (n : ℕ). c.gates-count.result < n) c.room_in.ensures c.if-room_in-count.false) c.in_err-ask_gate.ensures

pub returns-in_err-kept-clause-value : goal.returns-in_err-kept-clause-value
returns-in_err-kept-clause-value c = returned _ c.from_residual.ensures.1 ∙ unsound_counts c

pub returns-in_err-kept-clause-words_after : goal.returns-in_err-kept-clause-words_after
returns-in_err-kept-clause-words_after c = refused-words _ c.args.words.now (unsound_counts c) refl

pub returns-then-room_in-count-clause-value : goal.returns-then-room_in-count-clause-value
returns-then-room_in-count-clause-value c = no_place c

pub returns-then-room_in-count-clause-words_after : goal.returns-then-room_in-count-clause-words_after
returns-then-room_in-count-clause-words_after c = refused-words _ c.args.words.now (no_place c) refl

pub returns-in_err-ask_gate-clause-value : goal.returns-in_err-ask_gate-clause-value
returns-in_err-ask_gate-clause-value c = returned _ c.from_residual-in_err-ask_gate.ensures.1 ∙ not-placed c

pub returns-in_err-ask_gate-clause-words_after : goal.returns-in_err-ask_gate-clause-words_after
returns-in_err-ask_gate-clause-words_after c = refused-words _ c.args.words.now (not-placed c) refl

-- the verdict where every question is answered by yes
pub returns-clause-value : goal.returns-clause-value
returns-clause-value c =
    append_asked c.in_ok-kept.ensures.0 c.gates-count.ensures (gate_of c.args.g) c.in_ok-kept.ensures.1
    (subst (λ (n : ℕ). c.gates-count.result < n) c.room_in.ensures c.if-room_in-count.false) c.in_ok-ask_gate.ensures

pub returns-clause-words_after : goal.returns-clause-words_after
returns-clause-words_after c =
    let l = c.args.words.now in
    let g = gate_of c.args.g in
    let at : c.gates-count.result ≡ gates_of l = c.gates-count.ensures ∙ ap gates_of c.in_ok-kept.ensures.0 in
    done_words (put (counted true l g) (gates_of l) g) l (returns-clause-value c) refl (c.put_in.ensures ∙ ap (λ (i : ℕ). put (counted true l g) i g) at)
