-- `Source::largest_exponent` meets its contract: e is the largest exponent of j branches.
use mathlib.Core.Path.{◌≡◌}
use Rattle.collect.specs.Inner.Bank.{largest}
use Rattle.collect.proofs.blocks.Source.largest_exponent.Given as goal

abbrev pub invariant-loop-j : goal.invariant-loop-j
invariant-loop-j l =
    let b = l.self.branch in
    l.e ≡ largest b.work.now b.bank.at b.bank.d l.j
