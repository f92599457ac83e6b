-- `records::Record::diagonal_ok` meets its contract.
use mathlib.Core.Path.{◌≡◌, sym, ap, ◌∙◌}
use mathlib.Core.Bool.{Bool, true, not, ◌||◌}
use Prim.Native.Nat.{ℕ, ◌+◌, ◌*◌, ◌<◌}
use native.Mathlib.Omega.{arith}
use Rattle.algebra.specs.Lists.{all_below}
use Rattle.algebra.proofs.Tests.{all_no}
use Rattle.exact.specs.Exact.{number_of}
use Rattle.channel.specs.Layout.{numbers_at}
use Rattle.channel.specs.WellFormed.{is_real}
use Rattle.channel.proofs.records.Record.diagonal_ok.Goals as goal

pub returns-then-not-is_real : goal.returns-then-not-is_real
returns-then-not-is_real c =
    let F = c.args.self.now.form in
    let r = c.loop-r.r in
    let real = λ (k : ℕ). is_real (numbers_at F c.args.self.now.words.now 0 (k * F.side + k)) in
    let half : F.half ≡ true = sym c.is_half.ensures ∙ c.if-not-is_half.false in
    let inside : r < F.side = omega arith in
    sym (ap (λ (b : Bool). not b || all_below F.side real) half ∙ all_no F.side r real inside (sym (c.is_real.ensures ∙ ap (λ x. is_real (number_of x)) c.kept.ensures) ∙ c.if-not-is_real.true))
