-- `find_firsts` meets its contract: the first places of r numbers are found.
use Prim.Native.Nat.{◌≤◌}
use Rattle.repeats.proofs.Finding.{Finding}
use Rattle.repeats.proofs.find_firsts.Given as goal

abbrev pub invariant-loop-r : goal.invariant-loop-r
invariant-loop-r l = Finding l.firsts l.places l.n l.work l.k l.r × (l.r ≤ l.w)
