-- `matrix::words::first_nonzero` meets its contract.
use mathlib.Core.Path.{sym, ap, ◌∙◌}
use native.Mathlib.Omega.{arith}
use Rattle.matrix.specs.Inner.Written.{one_of}
use Rattle.matrix.proofs.First.{first_next, first-here, first-end, is_one, is_none}
use Rattle.matrix.proofs.words.first_nonzero.Goals as goal

pub returns-then-not-zero_at : goal.returns-then-not-zero_at
returns-then-not-zero_at c =
    sym (ap (one_of c.args.n) (c.loop-i.invariant ∙ first-here c.args.n c.loop-i.i _ c.loop-i-test.true (sym c.zero_at.ensures ∙ c.if-not-zero_at.true)) ∙ is_one c.loop-i-test.true)

pub loop-i-preserved : goal.loop-i-preserved
loop-i-preserved c =
    c.loop-i.invariant ∙ first_next c.args.n c.loop-i.i _ c.loop-i-test.true (sym c.zero_at.ensures ∙ c.if-not-zero_at.false)

pub returns : goal.returns
returns c =
    sym (ap (one_of c.args.n) (c.loop-i.invariant ∙ first-end c.args.n c.loop-i.i _ (omega arith) c.loop-i-test.false) ∙ is_none c.args.n)
