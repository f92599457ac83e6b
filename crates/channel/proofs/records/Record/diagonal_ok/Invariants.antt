-- `records::Record::diagonal_ok` meets its contract.
use mathlib.Core.Path.{◌≡◌}
use mathlib.Core.Bool.{true}
use Prim.Native.Nat.{ℕ, ◌+◌, ◌*◌}
use Rattle.algebra.specs.Lists.{all_below}
use Rattle.channel.specs.Layout.{numbers_at}
use Rattle.channel.specs.WellFormed.{is_real}
use Rattle.channel.proofs.records.Record.diagonal_ok.Given as goal

abbrev pub invariant-loop-r : goal.invariant-loop-r
invariant-loop-r l = (l.r-end ≡ l.self.form.side) × (all_below l.r (λ (k : ℕ). is_real (numbers_at l.self.form l.self.words.now 0 (k * l.self.form.side + k))) ≡ true)
