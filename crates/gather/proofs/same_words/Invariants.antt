-- `same_words` meets its contract: what is gathered so far is 0 exactly if the first i words are the same.
use mathlib.Core.Path.{◌≡◌}
use lib.Dec.{eqb}
use mir.Syntax.{w64}
use mir.Val.{of_z}
use Rattle.algebra.specs.Lists.{all_below}
use Rattle.gather.specs.Words.{same_at}
use Rattle.gather.proofs.same_words.Given as goal

abbrev pub invariant-loop-i : goal.invariant-loop-i
invariant-loop-i l = eqb (of_z w64 l.d) 0 ≡ all_below l.i (same_at l.s 0 l.t 0)
