-- `text_channel` meets its contract. `by _ f l` is f of what was passed, under the limits l; the limits that were read are those in the six words.
use mathlib.Core.Path.{ap, ◌∙◌}
use Rattle.std.specs.Prelude.{List, ℕ, ℤ}
use Rattle.circuit.specs.declared.limits.Limits.{Limits}
use Rattle.text.specs.Page.{page, write}
use Rattle.text_channel.specs.Only.{only_reply, only_text, only_gates, only_result, only_work}
use Rattle.c_texts.specs.Answers.{reply_number, reply_numbers}
use Rattle.c_texts.proofs.text_channel.Goals as goal

pub returns-in-Ok : goal.returns-in-Ok
returns-in-Ok c =
    let a = c.args in
    let l = c.read_limits-l.ensures in
    let e = c.in-Ok.ensures in
    let by : (A : Type 0) → (List ℕ → List ℕ → Limits → List ℕ → List ℤ → List ℤ → List ℕ → A) → Limits → A = λ A f l. f a.text.now a.store.now l a.gates.now a.res.now a.work.now a.answer.now in
    let r = e.reply ∙ ap (by _ only_reply) l in
    record {
      value = ap reply_number r;
      numbers_after = ap reply_numbers r;
      bytes_after = e.text ∙ ap (λ (m : Limits). write (page a.answer.now 0) (by _ only_text m)) l;
      gates_after = e.gates ∙ ap (by _ only_gates) l;
      res_after = e.res ∙ ap (by _ only_result) l;
      work_after = e.work ∙ ap (by _ only_work) l;
    }

pub returns-in-Err : goal.returns-in-Err
returns-in-Err c =
    let a = c.args in
    let l = c.read_limits-l.ensures in
    let e = c.in-Err.ensures in
    let by : (A : Type 0) → (List ℕ → List ℕ → Limits → List ℕ → List ℤ → List ℤ → List ℕ → A) → Limits → A = λ A f l. f a.text.now a.store.now l a.gates.now a.res.now a.work.now a.answer.now in
    let r = e.reply ∙ ap (by _ only_reply) l in
    record {
      value = c.number.ensures ∙ ap reply_number r;
      numbers_after = c.fault_numbers.ensures ∙ ap reply_numbers r;
      bytes_after = e.text ∙ ap (λ (m : Limits). write (page a.answer.now 0) (by _ only_text m)) l;
      gates_after = e.gates ∙ ap (by _ only_gates) l;
      res_after = e.res ∙ ap (by _ only_result) l;
      work_after = e.work ∙ ap (by _ only_work) l;
    }
