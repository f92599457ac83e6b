-- The name is that of the kind's number.
use Rattle.std.specs.Prelude.{MatchOption, Some, None, ℕ, ◌≡◌, ◌≤◌, length}
use mathlib.Core.Path.{subst}
use Rattle.qasm_writer.specs.Inner.Print.{name_of}
use Rattle.qasm_writer.proofs.printer.name.Goals as goal

pub returns : goal.returns
returns c =
    subst (λ (n : ℕ). MatchOption c.name_of.result (name_of n ≡ None) (λ name. (name_of n ≡ Some name.now) × (length name.now ≤ 8))) c.in_ok-known_kind.ensures c.name_of.ensures
