-- `records::Record::judge_block` meets its contract.
use mathlib.Core.Path.{sym, ◌∙◌}
use Rattle.std.proofs.Common.{rules}
use Rattle.channel.proofs.Pass.{pass_bad, pass_good}
use Rattle.channel.proofs.records.Record.judge_block.Goals as goal

pub returns-then-not-g-e : goal.returns-then-not-g-e
returns-then-not-g-e c =
    let s = c.args.self.now in
    pass_bad s.form s.words.now s.inside c.block_size-n.ensures.is c.see-g.ensures (search rules) (sym c.up_to.ensures ∙ c.if-not-up_to.false) c.if-not-g-e.true

pub returns : goal.returns
returns c =
    let s = c.args.self.now in
    pass_good s.form s.words.now s.inside c.block_size-n.ensures.is c.see-g.ensures (search rules) (sym c.up_to.ensures ∙ c.if-not-up_to.false) c.if-not-g-e.false
    (sym c.diagonal_ok.ensures ∙ c.if-not-diagonal_ok.false)
