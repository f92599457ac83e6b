-- `collect` meets its contract.
use Rattle.collect.proofs.Recording.{Collected}
use Rattle.collect.proofs.records.collect.Given as goal

abbrev pub invariant-loop-j : goal.invariant-loop-j
invariant-loop-j l = Collected l.initial.res l.work l.bank.at l.bank.d l.bank.count l.res l.n l.j
