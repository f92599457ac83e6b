-- The gate's place is there, and its bits have counts.
use Rattle.std.proofs.Common.{arith, ap, sym, ◌∙◌}
use Rattle.std.specs.Prelude.{is_ok}
use Rattle.gate.specs.Inner.Words.{gate_of}
use Rattle.kept_circuit.proofs.Sound.{sound_is, place_in, bits-counted}
use Rattle.kept_circuit.proofs.kept.Kept.is_takeable.Goals as goal

pub overflow_mul-at : goal.overflow_mul-at
overflow_mul-at c = omega (arith, place_in (sound_is c.args.self.words.now c.args.self.counted) c.args.i c.requires)

pub overflow_add-at : goal.overflow_add-at
overflow_add-at c = omega (arith, place_in (sound_is c.args.self.words.now c.args.self.counted) c.args.i c.requires)

pub are_up_to-requires : goal.are_up_to-requires
are_up_to-requires c = place_in (sound_is c.args.self.words.now c.args.self.counted) c.args.i c.requires

pub read_gate-g-requires : goal.read_gate-g-requires
read_gate-g-requires c = (place_in (sound_is c.args.self.words.now c.args.self.counted) c.args.i c.requires, sym c.are_up_to.ensures ∙ c.if-not-are_up_to.false)

pub covers_gate-requires : goal.covers_gate-requires
covers_gate-requires c =
    bits-counted (sound_is c.args.self.words.now c.args.self.counted) c.args.i (gate_of c.read_gate-g.result) (sym (ap is_ok c.ask_gate.ensures) ∙ sym c.is_ok.ensures.value ∙ c.if-is_ok.true)
