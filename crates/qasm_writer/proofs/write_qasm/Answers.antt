-- `write_qasm` meets its contract.
use mathlib.Core.Path.{refl, sym, ◌∙◌}
use Rattle.verdict.proofs.Questions.{returned}
use borrow.Author.Rules.{rules}
use Rattle.text.proofs.Put.{lent, lent_is}
use Rattle.qasm_writer.proofs.Asked.{refused-words, refused-room, taken-whole}
use Rattle.qasm_writer.proofs.write_qasm.Goals as goal

pub returns-in_err-judge_words : goal.returns-in_err-judge_words
returns-in_err-judge_words c =
    let a = c.args in
    let all = refused-words a.qubits a.bits a.gates.now a.out.now c.in_err-judge_words.ensures in
    record { value = returned c.from_residual.result c.from_residual.ensures.1 ∙ all.0; out_after = all.1 }

pub returns-then-not-is_within : goal.returns-then-not-is_within
returns-then-not-is_within c =
    let a = c.args in
    let all = refused-room a.qubits a.bits a.gates.now a.out.now c.in_ok-judge_words.ensures (sym c.if-not-is_within.ensures) in
    record { value = all.0; out_after = all.1 }

pub returns : goal.returns
returns c =
    let a = c.args in
    let same = c.put_text.ensures.same ∙ c.new-w.ensures.same in
    let puts = lent c.new-w.ensures.room c.new-w.ensures.at c.put_text.ensures refl in
    let all = taken-whole a.qubits a.bits a.gates.now a.out.now c.in_ok-judge_words.ensures (sym c.if-not-is_within.ensures) puts in
    record { value = all.0; out_after = lent_is all.1 (search rules) }
