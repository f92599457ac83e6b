-- `fault_numbers` meets its contract.
use mathlib.Core.List.{◌∷◌}
use Rattle.std.specs.Prelude.{[]}
use Rattle.c_texts.proofs.fault_numbers.Goals as goal

pub returns : goal.returns
returns c = λ i. c.number.ensures i ∷ c.index.ensures i ∷ c.args.f.position ∷ c.args.f.line ∷ c.args.f.column ∷ c.args.f.gates ∷ []
