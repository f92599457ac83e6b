-- The gate's place is there, and its words are numbers.
use Rattle.std.proofs.Common.{arith, sym, ◌<◌}
use Rattle.kept_circuit.specs.Kept.{gates_of}
use Rattle.kept_circuit.proofs.Sound.{sound_is, place_in, takes_is}
use Rattle.kept_circuit.proofs.kept.Kept.taken.Goals as goal

pub overflow_mul-i : goal.overflow_mul-i
overflow_mul-i c =
    let here : c.args.i < gates_of c.args.self.words.now = omega (arith, c.gates.ensures) in
    omega (arith, place_in (sound_is c.args.self.words.now c.args.self.counted) c.args.i here)

pub overflow_add-i : goal.overflow_add-i
overflow_add-i c =
    let here : c.args.i < gates_of c.args.self.words.now = omega (arith, c.gates.ensures) in
    omega (arith, place_in (sound_is c.args.self.words.now c.args.self.counted) c.args.i here)

pub read_gate-requires : goal.read_gate-requires
read_gate-requires c =
    let here : c.args.i < gates_of c.args.self.words.now = omega (arith, c.gates.ensures) in
    (place_in (sound_is c.args.self.words.now c.args.self.counted) c.args.i here, (takes_is c.args.self.words.now c.args.i (sym c.if-not-is_takeable.ensures)).words_up)
