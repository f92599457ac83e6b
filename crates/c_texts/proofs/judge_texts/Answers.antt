-- `judge_texts` meets its contract. `by _ f l` is f of what was passed, under the limits l; the limits that were read are those in the six words.
use mathlib.Core.Path.{ap, ◌∙◌}
use Rattle.std.specs.Prelude.{List, ℕ, ℤ}
use Rattle.circuit.specs.declared.limits.Limits.{Limits}
use Rattle.text.specs.Page.{page, write}
use Rattle.judge_texts.specs.Call.{answer_of, text_of, gates_after, first_after, second_after, work_after_both}
use Rattle.c_channels.specs.Channels.{scalar_words}
use Rattle.c_texts.specs.Answers.{answer_number, entry_of, answer_numbers}
use Rattle.c_texts.proofs.judge_texts.Goals as goal

pub returns : goal.returns
returns c =
    let a = c.args in
    let l = c.read_limits-l.ensures in
    let e = c.judge_texts-j.ensures in
    let by : (A : Type 0) → (List ℕ → List ℕ → List ℕ → Limits → List ℕ → List ℤ → List ℤ → List ℤ → List ℕ → A) → Limits → A
    = λ A f l. f a.left.now a.right.now a.store.now l a.gates.now a.first.now a.second.now a.work.now a.answer.now in
    let r = e.answer ∙ ap (by _ answer_of) l in
    record {
      value = c.answer_number.ensures ∙ ap answer_number r;
      numbers_after = c.answer_numbers.ensures ∙ ap answer_numbers r;
      scalars_after = c.scalar_words.ensures ∙ ap scalar_words (c.entry_of.ensures ∙ ap entry_of r);
      bytes_after = e.text ∙ ap (λ (m : Limits). write (page a.answer.now 0) (by _ text_of m)) l;
      gates_after = e.gates ∙ ap (by _ gates_after) l;
      first_after = e.first ∙ ap (by _ first_after) l;
      second_after = e.second ∙ ap (by _ second_after) l;
      work_after = e.work ∙ ap (by _ work_after_both) l;
    }
