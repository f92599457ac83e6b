-- `records::Block::at` meets its contract.
use mathlib.Core.Path.{ap, ◌∙◌}
use mathlib.Core.List.{List}
use lib.IntN.{ℤ}
use Rattle.channel.specs.WellFormed.{block_ok}
use Rattle.channel.proofs.Suffix.{block-from}
use Rattle.channel.proofs.records.Block.at.Goals as goal

pub invariant_of-result-clause-right : goal.invariant_of-result-clause-right
invariant_of-result-clause-right c =
    ap (λ (v : List ℤ). block_ok c.args.form v 0) c.at-record.ensures.words ∙ block-from c.args.form c.args.words.now c.args.at ∙ c.requires.right
