-- `read_qasm` meets its contract.
use mathlib.Core.Path.{ap, ◌∙◌}
use Rattle.c_texts.specs.Texts.{number_of, count_words, words_in, position_in}
use Rattle.c_texts.proofs.openqasm.read_qasm.Goals as goal

pub returns-in-Ok : goal.returns-in-Ok
returns-in-Ok c =
    let e = c.in-Ok.ensures in
    record { value = ap number_of e.reply; gates_after = e.gates; counts_after = ap count_words e.reply; words_after = ap words_in e.reply; position_after = ap position_in e.reply }

pub returns-in-Err : goal.returns-in-Err
returns-in-Err c =
    let e = c.in-Err.ensures in
    record { value = c.number.ensures ∙ ap number_of e.reply; gates_after = e.gates; counts_after = ap count_words e.reply; words_after = ap words_in e.reply; position_after = ap position_in e.reply }
