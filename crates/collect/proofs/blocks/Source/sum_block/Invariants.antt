-- `Source::sum_block` meets its contract: j branches are summed.
use Prim.Native.Nat.{◌≤◌}
use Rattle.collect.proofs.Summing.{Summed}
use Rattle.collect.proofs.blocks.Source.sum_block.Given as goal

abbrev pub invariant-loop-j : goal.invariant-loop-j
invariant-loop-j l =
    let b = l.self.branch in
    Summed l.fn.res l.out b.work.now b.bank.at b.bank.d l.e b.j l.res l.j × (l.j ≤ b.bank.count)
