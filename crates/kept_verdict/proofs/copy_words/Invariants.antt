-- The words before word k are copied.
use mathlib.Core.Path.{◌≡◌}
use mathlib.Core.List.{map}
use lib.ListN.{take}
use lib.Seq.{sets}
use lib.IntN.{nat_abs}
use Rattle.kept_verdict.proofs.copy_words.Given as goal

abbrev pub invariant-loop-k : goal.invariant-loop-k
invariant-loop-k l = l.out ≡ sets l.initial.out 0 (take l.k (map nat_abs l.words))
