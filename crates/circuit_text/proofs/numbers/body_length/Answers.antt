-- `numbers::body_length` meets its contract.
use Rattle.std.proofs.Common.{rules, length, ◌-◌}
use mathlib.Core.Path.{◌≡◌, ◌∙◌}
use native.Mathlib.Omega.{arith}
use lib.ListN.{take}
use Rattle.circuit_text.proofs.Pieces.{body_empty, body_less, body-whole}
use Rattle.circuit_text.proofs.numbers.body_length.Goals as goal

pub returns-in-10 : goal.returns-in-10
returns-in-10 c =
    let t = c.args.text.now in
    let n : length (take (length t - 1) t) ≡ length t - 1 = search rules in
    n ∙ body_less t (search rules)

pub returns-in_default : goal.returns-in_default
returns-in_default c = body_empty c.args.text.now (omega arith)

pub returns-in_default-2 : goal.returns-in_default-2
returns-in_default-2 c = body-whole c.args.text.now (search rules)
