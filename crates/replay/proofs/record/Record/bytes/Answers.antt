-- `Record::bytes` meets its contract.
use Rattle.std.proofs.Common.{refl}
use Rattle.replay.specs.Record.{with_byte}
use Rattle.replay.proofs.Folds.{fold_step, fold_end}
use Rattle.replay.proofs.record.Record.bytes.Goals as goal

pub loop-b-init : goal.loop-b-init
loop-b-init c = refl

pub loop-b-preserved : goal.loop-b-preserved
loop-b-preserved c =
    fold_step (with_byte c.args.text.now) c.args.self c.args.bs.now c.loop-b.b-index c.loop-b.invariant 0 c.loop-b-test.true c.byte-seen.ensures

pub returns : goal.returns
returns c = fold_end (with_byte c.args.text.now) c.args.self c.args.bs.now c.loop-b.b-index c.loop-b.invariant c.loop-b-test.false
