-- The counts stay small as one is moved, and then another.
use Rattle.std.proofs.Common.{◌+◌, arith}
use Rattle.kept_circuit.specs.Kept.{measures_place}
use Rattle.kept_circuit.proofs.Sound.{within_more, within_after, within_there}
use Rattle.kept_circuit.proofs.counts.mark_bit.Goals as goal

pub follow-after-requires : goal.follow-after-requires
follow-after-requires c =
    within_there (within_after c.requires.0 c.args.more (measures_place + c.args.b) 1 (omega arith) (omega arith) c.move_count.ensures) (measures_place + c.args.b) (omega arith)

pub move_count-requires-then-before-after : goal.move_count-requires-then-before-after
move_count-requires-then-before-after c =
    (within_more (within_after c.requires.0 c.args.more (measures_place + c.args.b) 1 (omega arith) (omega arith) c.move_count.ensures) (omega arith), (omega arith, omega arith))
