-- `read_form` meets its contract.
use Rattle.std.specs.Prelude.{Ok, is_ok}
use mathlib.Core.Path.{◌≡◌, sym, ap, subst}
use mathlib.Core.List.{List}
use Prim.Native.Nat.{◌≤◌}
use lib.IntN.{ℤ}
use Rattle.verdict.specs.Questions.{granted}
use Rattle.verdict.proofs.Questions.{handed}
use Rattle.channel.specs.declared.Shape.{Shape}
use Rattle.channel.specs.declared.forms.Parts.{Parts}
use Rattle.channel.specs.Layout.{form_in}
use Rattle.channel.specs.Inner.Shapes.{shape_at}
use Rattle.channel.proofs.Judging.{formed_in}
use Rattle.form_calls.specs.Calls.{read_questions, read_verdict}
use Rattle.form_calls.proofs.Answers.{given, read_ready}
use Rattle.form_calls.proofs.read_form.Goals as goal

-- the words that go with the verdict
module _ (f : Parts) (l res : List ℤ) where
  module _ {h : Shape} (e : Ok h ≡ granted (shape_at l) (read_questions f l res)) where
    passes : Ok tt ≡ read_verdict f l res
    passes = handed (shape_at l) tt (read_questions f l res) e

    narrow : h.dim ≤ 16
    narrow = subst (λ (s : Shape). s.dim ≤ 16) (sym (given (shape_at l) (read_questions f l res) e)) (formed_in (form_in f l) l (read_ready f l res (sym (ap is_ok passes))).right).0.small

pub form-requires : goal.form-requires
form-requires c = let s = c.args in narrow s.f s.words.now s.res.now c.in_ok-h.ensures
