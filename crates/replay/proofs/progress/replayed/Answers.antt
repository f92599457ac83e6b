-- `progress::replayed` meets its contract: each turn leaves one case less.
use Rattle.replay.proofs.Turns.{turns_begin, turns_more, turns_end}
use Rattle.replay.proofs.progress.replayed.Goals as goal

pub loop-i-init : goal.loop-i-init
loop-i-init g c = turns_begin (λ kind. g.C.Cases.record_of (g.C.Cases.case_of kind)) c.args.text.now c.read-count.ensures c.begin-progress.ensures

pub loop-i-preserved : goal.loop-i-preserved
loop-i-preserved g c =
    turns_more (λ kind. g.C.Cases.record_of (g.C.Cases.case_of kind)) c.args.text.now c.read-count.result.size c.loop-i._i c.loop-i.progress c.loop-i.invariant c.loop-i-test.true c.turn-after.ensures

pub returns : goal.returns
returns g c = turns_end (λ kind. g.C.Cases.record_of (g.C.Cases.case_of kind)) c.args.text.now c.read-count.result.size c.loop-i._i c.loop-i.progress c.loop-i.invariant c.loop-i-test.false
