-- `places::place_of` meets its contract.
use mathlib.Core.Path.{◌≡◌}
use mathlib.Core.List.{foldl}
use Prim.Native.Nat.{◌+◌}
use lib.ListN.{drop}
use Rattle.answers.specs.Inner.Lines.{Below}
use Rattle.answers.specs.Places.{place, after}
use Rattle.answers.proofs.places.place_of.Given as goal

abbrev pub invariant-loop-b : goal.invariant-loop-b
invariant-loop-b l = Below (l.b-index + 1) l.p × (foldl after (place 1 1) l.b-items ≡ foldl after l.p (drop l.b-index l.b-items))
