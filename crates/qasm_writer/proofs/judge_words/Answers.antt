-- `judge_words` meets its contract.
use mathlib.Core.Path.{◌∙◌}
use Rattle.verdict.proofs.Questions.{returned}
use Rattle.qasm_writer.proofs.Asked.{words-malformed, words-formed}
use Rattle.qasm_writer.proofs.judge_words.Goals as goal

pub returns-in_err-judge_formed : goal.returns-in_err-judge_formed
returns-in_err-judge_formed c = returned c.from_residual.result c.from_residual.ensures.1 ∙ words-malformed c.args.words.now c.if-words-ne0.false c.in_err-judge_formed.ensures

pub returns : goal.returns
returns c = words-formed c.args.words.now c.if-words-ne0.false c.in_ok-judge_formed.ensures c.judge_named.ensures
