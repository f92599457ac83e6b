-- Laws of the answer to a text.
use mathlib.Core.Path.{◌≡◌, sym, ap, ◌∙◌}
use mathlib.Core.Bool.{Bool, true, false, cond}
use mathlib.Core.List.{List}
use Prim.Native.Nat.{ℕ}
use lib.IntN.{ℤ}
use Rattle.verdict.specs.Questions.{Verdict}
use Rattle.circuit.specs.declared.limits.Limits.{Limits}
use Rattle.circuit.specs.Limits.{ceilings}
use Rattle.judge.specs.Call.{verdict_of, result_after, work_after}
use Rattle.circuit_text.specs.declared.input.Circuit.{Circuit}
use Rattle.circuit_text.specs.Input.{bits_in, store_in, words_in, circuit_in, numbers_of, is_input_text}
use Rattle.listing.specs.Listing.{input_line}
use Rattle.listing.specs.Answer.{lines_for, lines_of, answer_of, result_of, work_of}

-- the lines for what a call answers with the default limits
pub lines_is : (n m : ℕ) (σ ws : List ℕ) (r w : List ℤ) {l : Limits} {v : Verdict} {q : List ℤ} → l ≡ ceilings
    → v ≡ verdict_of n m σ l ws r w → q ≡ result_after n m σ l ws r w → lines_for v q ≡ lines_of n m σ ws r w
lines_is n m σ ws r w d e f = λ i. lines_for ((e ∙ ap (λ (l : Limits). verdict_of n m σ l ws r w) d) i) ((f ∙ ap (λ (l : Limits). result_after n m σ l ws r w) d) i)

-- ---- of a text
module _ (t : List ℕ) (r w : List ℤ) where
  abbrev ns : List ℕ
  ns = numbers_of t

  module _ {A : Type 0} (x y : A) where
    chosen : is_input_text t ≡ true → x ≡ cond (is_input_text t) x y
    chosen e = ap (λ (b : Bool). cond b x y) (sym e)

    unchosen : is_input_text t ≡ false → y ≡ cond (is_input_text t) x y
    unchosen e = ap (λ (b : Bool). cond b x y) (sym e)

  module _ (no : is_input_text t ≡ false) where
    pub no_answer : input_line ≡ answer_of t r w
    no_answer = unchosen (lines_of (circuit_in ns).qubits (bits_in ns) (store_in ns) (words_in ns) r w) input_line no

    pub no_result : r ≡ result_of t r w
    no_result = unchosen (result_after (circuit_in ns).qubits (bits_in ns) (store_in ns) ceilings (words_in ns) r w) r no

    pub no_work : w ≡ work_of t r w
    no_work = unchosen (work_after (circuit_in ns).qubits (bits_in ns) (store_in ns) ceilings (words_in ns) r w) w no

  module _ (yes : is_input_text t ≡ true) {c : Circuit} {σ ws : List ℕ} (d : c ≡ circuit_in (numbers_of t)) (e : σ ≡ store_in (numbers_of t)) (f : ws ≡ words_in (numbers_of t)) where
    pub an_answer : lines_of c.qubits c.bits σ ws r w ≡ answer_of t r w
    an_answer = (λ i. lines_of (d i).qubits (d i).bits (e i) (f i) r w) ∙ chosen (lines_of (circuit_in ns).qubits (bits_in ns) (store_in ns) (words_in ns) r w) input_line yes

    pub a_result : result_after c.qubits c.bits σ ceilings ws r w ≡ result_of t r w
    a_result = (λ i. result_after (d i).qubits (d i).bits (e i) ceilings (f i) r w) ∙ chosen (result_after (circuit_in ns).qubits (bits_in ns) (store_in ns) ceilings (words_in ns) r w) r yes

    pub a_work : work_after c.qubits c.bits σ ceilings ws r w ≡ work_of t r w
    a_work = (λ i. work_after (d i).qubits (d i).bits (e i) ceilings (f i) r w) ∙ chosen (work_after (circuit_in ns).qubits (bits_in ns) (store_in ns) ceilings (words_in ns) r w) w yes
