-- `append` meets its contract: the call below was given the gate that the five words are.
use mathlib.Core.Path.{◌≡◌, ap, ◌∙◌}
use Rattle.verdict.specs.Verdict.{verdict_number, verdict_index}
use Rattle.gate.specs.Gate.{gate_at}
use Rattle.kept_circuit.specs.Edits.{append_verdict, appended}
use Rattle.c_kept.proofs.append.Goals as goal

-- the verdict at the gate of the contract
told : (c : goal.After-report) → c.append-answer.result ≡ append_verdict c.args.words.now (gate_at c.args.gate.now 0)
told c = c.append-answer.ensures.value ∙ ap (append_verdict c.args.words.now) c.read_gate.ensures

pub returns-clause-value : goal.returns-clause-value
returns-clause-value c = c.report.ensures.value ∙ ap verdict_number (told c)

pub returns-clause-index_after : goal.returns-clause-index_after
returns-clause-index_after c = c.report.ensures.index_after ∙ ap verdict_index (told c)

pub returns-clause-words_after : goal.returns-clause-words_after
returns-clause-words_after c = c.append-answer.ensures.words_after ∙ ap (appended c.args.words.now) c.read_gate.ensures
