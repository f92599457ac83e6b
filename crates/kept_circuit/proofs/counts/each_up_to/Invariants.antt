-- `each_up_to` meets its contract.
use mathlib.Core.Path.{◌≡◌}
use lib.ListN.{take}
use Rattle.std.specs.List.{list_all}
use Rattle.algebra.specs.Words.{up_to}
use Rattle.kept_circuit.proofs.counts.each_up_to.Given as goal

abbrev pub invariant-loop-i : goal.invariant-loop-i
invariant-loop-i l = l.are ≡ list_all (up_to l.top) (take l.i l.words)
