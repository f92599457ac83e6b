-- `collect` meets its contract.
use Rattle.collect.proofs.Recording.{none-collected, collected-more}
use Rattle.collect.proofs.records.collect.Goals as goal

pub loop-j-init : goal.loop-j-init
loop-j-init c = let s = c.args in none-collected s.res.now s.work.now s.bank.at s.bank.d s.bank.count

pub loop-j-preserved : goal.loop-j-preserved
loop-j-preserved c =
    collected-more c.loop-j.invariant c.loop-j-test.true c.collect-n.ensures.0 c.collect-n.ensures.1
