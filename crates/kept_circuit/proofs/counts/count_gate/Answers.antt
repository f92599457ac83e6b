-- The counts stay small as each is moved.
use Rattle.std.proofs.Common.{arith, sym, ◌∙◌}
use Rattle.gate.specs.Inner.Words.{gate_of}
use Rattle.circuit.proofs.Counts.{splits-one, weight-one}
use Rattle.kept_circuit.specs.Kept.{gates_place, weight_place, splits_place}
use Rattle.kept_circuit.proofs.Sound.{within_more, within_after, bit-small}
use Rattle.kept_circuit.proofs.counts.count_gate.Goals as goal

pub move_count-requires-2 : goal.move_count-requires-2
move_count-requires-2 c =
    let one = within_after c.requires.0 c.args.more gates_place 1 (omega arith) (omega arith) c.move_count.ensures in
    (within_more one (omega arith), (omega arith, omega (arith, c.weight-weight.ensures, weight-one (gate_of c.args.g))))

pub move_count-requires-3 : goal.move_count-requires-3
move_count-requires-3 c =
    let one = within_after c.requires.0 c.args.more gates_place 1 (omega arith) (omega arith) c.move_count.ensures in
    let two = within_after one c.args.more weight_place c.weight-weight.result (omega arith) (omega (arith, c.weight-weight.ensures, weight-one (gate_of c.args.g))) c.move_count-2.ensures in
    (within_more two (omega arith), (omega arith, omega (arith, c.splits-splits.ensures, splits-one (gate_of c.args.g))))

pub mark_bit-requires : goal.mark_bit-requires
mark_bit-requires c =
    let one = within_after c.requires.0 c.args.more gates_place 1 (omega arith) (omega arith) c.move_count.ensures in
    let two = within_after one c.args.more weight_place c.weight-weight.result (omega arith) (omega (arith, c.weight-weight.ensures, weight-one (gate_of c.args.g))) c.move_count-2.ensures in
    let three = within_after two c.args.more splits_place c.splits-splits.result (omega arith) (omega (arith, c.splits-splits.ensures, splits-one (gate_of c.args.g))) c.move_count-3.ensures in
    (within_more three (omega arith), bit-small (gate_of c.args.g) (sym c.bit.ensures ∙ c.in-Some.is) c.requires.1)
