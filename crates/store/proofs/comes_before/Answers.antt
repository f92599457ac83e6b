-- `comes_before` meets its contract.
use mathlib.Core.Path.{◌∙◌}
use borrow.Author.Tests.{le-ltb}
use Rattle.store.proofs.Order.{later-bit, no_bit}
use Rattle.store.proofs.comes_before.Goals as goal

pub returns-then-t-lt64 : goal.returns-then-t-lt64
returns-then-t-lt64 c = later-bit c.args.x c.args.y c.if-t-lt64.true

pub returns-else-t-lt64 : goal.returns-else-t-lt64
returns-else-t-lt64 c = le-ltb _ 64 c.if-t-lt64.false ∙ no_bit c.args.x c.args.y c.if-t-lt64.false
