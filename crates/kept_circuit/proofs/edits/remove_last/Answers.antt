-- The last gate's place is there, and holds zeros after.
use Rattle.std.proofs.Common.{◌≡◌, ℕ, ◌-◌, refl, arith, ap, ◌∙◌, length}
use mathlib.Core.Path.{subst}
use mathlib.Core.Bool.{false}
use Rattle.gate.specs.Inner.Words.{gate_of}
use Rattle.kept_circuit.specs.Edits.{counted, put, gate_in, no_gate, last_of}
use Rattle.kept_circuit.specs.Inner.Taken.{Taken}
use Rattle.kept_circuit.proofs.Sound.{sound_is, sound-within, within_more, length-counted}
use Rattle.kept_circuit.proofs.Asked.{done_words, taken_bits, taken_by, taken_place}
use Rattle.kept_circuit.proofs.edits.remove_last.Goals as goal

pub count_gate-requires : goal.count_gate-requires
count_gate-requires c =
    let s = sound_is c.args.words.now c.in_ok-kept.ensures.1 in
    (within_more (sound-within s) (omega arith), taken_bits s (taken_by c.in_ok-kept.ensures.0 c.in_ok-old.ensures))

pub overflow_mul-i : goal.overflow_mul-i
overflow_mul-i c = omega (arith, taken_place (sound_is c.args.words.now c.in_ok-kept.ensures.1) (taken_by c.in_ok-kept.ensures.0 c.in_ok-old.ensures))

pub overflow_add-i : goal.overflow_add-i
overflow_add-i c = omega (arith, taken_place (sound_is c.args.words.now c.in_ok-kept.ensures.1) (taken_by c.in_ok-kept.ensures.0 c.in_ok-old.ensures))

pub write_gate-requires : goal.write_gate-requires
write_gate-requires c = omega (
  arith,
  taken_place (sound_is c.args.words.now c.in_ok-kept.ensures.1) (taken_by c.in_ok-kept.ensures.0 c.in_ok-old.ensures),
  ap length c.count_gate.ensures,
  length-counted false c.args.words.now (gate_of c.in_ok-old.old),
)

pub returns-clause-words_after : goal.returns-clause-words_after
unfolding put
returns-clause-words_after c =
    let l = c.args.words.now in
    let i = c.saturating_sub-i.result in
    let old : Taken l i (gate_of c.in_ok-old.old) = taken_by c.in_ok-kept.ensures.0 c.in_ok-old.ensures in
    let at : i ≡ last_of l = c.saturating_sub-i.ensures ∙ ap (λ (k : ℕ). k - 1) c.gates.ensures ∙ ap last_of c.in_ok-kept.ensures.0 in
    let last : Taken l (last_of l) (gate_of c.in_ok-old.old) = subst (λ (i : ℕ). Taken l i (gate_of c.in_ok-old.old)) at old in
    done_words (put (counted false l (gate_in l (last_of l))) (last_of l) no_gate) l last.asked refl
    (c.write_gate.ensures ∙ (λ j. put ((c.count_gate.ensures ∙ ap (counted false l) last.is) j) (at j) no_gate))
