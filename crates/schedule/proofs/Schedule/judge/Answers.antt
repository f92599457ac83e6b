-- The old list decides, then the new one, then the table.
use mathlib.Core.Path.{◌∙◌}
use mathlib.Core.List.{◌++◌}
use Rattle.verdict.proofs.Questions.{returned, refused, passed}
use Rattle.gate.specs.Gate.{gates_of}
use Rattle.schedule.specs.Questions.{list_questions, table_questions}
use Rattle.schedule.proofs.Schedule.judge.Goals as goal

pub returns-in_err-judge_list : goal.returns-in_err-judge_list
returns-in_err-judge_list c =
    let a = c.args in
    let first = list_questions a.qubits a.bits a.self.old.now in
    let second = list_questions a.qubits a.bits a.self.new.now in
    let last = table_questions (gates_of a.self.old.now) (gates_of a.self.new.now) a.self.table.now in
    returned _ c.from_residual.ensures.1 ∙ refused tt tt first (second ++ last) c.in_err-judge_list.ensures

pub returns-in_err-judge_list-2 : goal.returns-in_err-judge_list-2
returns-in_err-judge_list-2 c =
    let a = c.args in
    let first = list_questions a.qubits a.bits a.self.old.now in
    let second = list_questions a.qubits a.bits a.self.new.now in
    let last = table_questions (gates_of a.self.old.now) (gates_of a.self.new.now) a.self.table.now in
    returned _ c.from_residual-in_err-judge_list-2.ensures.1 ∙ refused tt tt second last c.in_err-judge_list-2.ensures
    ∙ passed tt tt first (second ++ last) c.in_ok-judge_list.ensures

pub returns : goal.returns
returns c =
    let a = c.args in
    let first = list_questions a.qubits a.bits a.self.old.now in
    let second = list_questions a.qubits a.bits a.self.new.now in
    let last = table_questions (gates_of a.self.old.now) (gates_of a.self.new.now) a.self.table.now in
    c.judge_table.ensures ∙ passed tt tt second last c.in_ok-judge_list-2.ensures
    ∙ passed tt tt first (second ++ last) c.in_ok-judge_list.ensures
