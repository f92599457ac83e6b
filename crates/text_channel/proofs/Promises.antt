-- What the call says, with room for an answer or without.
use Rattle.std.specs.Prelude.{Result, Ok, Err}
use mathlib.Core.Path.{◌≡◌, sym, ap, ◌∙◌}
use mathlib.Core.Bool.{Bool, cond}
use mathlib.Core.List.{List, []}
use Prim.Native.Nat.{ℕ, ◌≤◌, ◌<◌}
use lib.ListN.{length}
use lib.IntN.{ℤ}
use borrow.Author.Tests.{le-leb, lt-leb}
use Rattle.circuit.specs.declared.limits.Limits.{Limits}
use Rattle.text.specs.Page.{page, write}
use Rattle.text.proofs.Put.{nothing}
use Rattle.qasm.specs.declared.reader.Reading.{Reading}
use Rattle.qasm.specs.Reading.{read_of, filled}
use Rattle.answer_lines.specs.declared.Which.TheVariants.{Only}
use Rattle.answer_lines.specs.Lines.{max_answer}
use Rattle.text_sides.specs.declared.NoChannel.{NoChannel}
use Rattle.text_sides.specs.Sides.{side_by}
use Rattle.text_channel.specs.Refusals.{refusal_text}
use Rattle.text_channel.specs.Only.{only, with_room, said, only_text, only_gates}

module _ (t σ : List ℕ) (l : Limits) (g : List ℕ) (r w : List ℤ) (o : List ℕ) where
  in_room : {A : Type 0} → max_answer ≤ length o → (x y : A) → x ≡ with_room t σ l g r w o x y
  in_room h x y = ap (λ (b : Bool). cond b x y) (sym (le-leb max_answer (length o) h))

  out_of_room : {A : Type 0} → length o < max_answer → (x y : A) → y ≡ with_room t σ l g r w o x y
  out_of_room h x y = ap (λ (b : Bool). cond b x y) (sym (lt-leb max_answer (length o) h))

  abbrev words : Result Reading NoChannel → List ℕ
  words x = said t σ l g r w o (only_gates t σ l g r w o) x

  pub short : length o < max_answer → page o 0 ≡ write (page o 0) (only_text t σ l g r w o)
  short h = nothing (page o 0) (out_of_room h (words (only t σ l g r w o)) [])

  module _ (h : max_answer ≤ length o) where
    pub fine : {x : Reading} → Ok x ≡ side_by σ l g r w (read_of t) → page o 0 ≡ write (page o 0) (only_text t σ l g r w o)
    fine e = nothing (page o 0) (ap words e ∙ in_room h (words (only t σ l g r w o)) [])

    pub told : {why : NoChannel} → Err why ≡ side_by σ l g r w (read_of t) → {g' : List ℕ} → g' ≡ filled g (read_of t)
        → {n : ℕ} {o' : List ℕ} → page o' n ≡ write (page o 0) (refusal_text Only t g' why) → page o' n ≡ write (page o 0) (only_text t σ l g r w o)
    told {why} e f p =
        p ∙ ap (write (page o 0)) (ap (λ (gs : List ℕ). refusal_text Only t gs why) (f ∙ in_room h (filled g (read_of t)) g) ∙ ap words e ∙ in_room h (words (only t σ l g r w o)) [])
