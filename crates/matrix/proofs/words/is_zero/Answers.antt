-- `matrix::words::is_zero` meets its contract.
use Rattle.std.specs.Prelude.{Option, is_some}
use mathlib.Core.Path.{◌≡◌, ap, sym, ◌∙◌}
use mathlib.Core.Bool.{Bool, true, false, not}
use Prim.Native.Nat.{ℕ}
use Rattle.matrix.proofs.First.{none-all}
use Rattle.matrix.proofs.words.is_zero.Goals as goal

turned : (a b : Bool) → a ≡ not b → b ≡ not a
turned a true e = sym (ap not e)
turned a false e = sym (ap not e)

pub returns : goal.returns
returns c = turned _ _ c.is_none.ensures ∙ ap (λ (o : Option ℕ). not (is_some o)) c.first_nonzero.ensures ∙ none-all c.args.n _
