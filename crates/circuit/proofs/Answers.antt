-- A call accepts exactly where every answer is yes; and what the answers to the questions of the gates say.
use Rattle.std.specs.Prelude.{is_ok}
use mathlib.Core.Path.{◌≡◌, refl, sym, ◌∙◌}
use mathlib.Core.Bool.{Bool, true, false, ◌&&◌}
use mathlib.Core.List.{[], List, ◌∷◌}
use Prim.Native.Nat.{ℕ, suc, ◌/◌, ◌%◌, ◌≤◌}
use lib.Dec.{eqb, leb}
use lib.ListN.{length}
use borrow.Author.Tests.{leb-true}
use Rattle.algebra.specs.Lists.{All, every}
use Rattle.algebra.proofs.Tests.{and_split}
use Rattle.algebra.proofs.Lists.{all_append}
use Rattle.verdict.specs.Questions.{Question, first_no}
use Rattle.verdict.proofs.Questions.{yes, all_yes}
use Rattle.gate.specs.declared.judge.Asking.{Asking}
use Rattle.gate.specs.declared.judge.Asking.TheVariants.{Channel, Unitary, Placing}
use Rattle.gate.specs.Gate.{Gate, gate_size, formed, placed, supported}
use Rattle.gate.specs.Questions.{gate_questions}
use Rattle.gate.specs.Inner.Entries.{valid}
use Rattle.circuit.specs.declared.limits.Limits.{Limits}
use Rattle.circuit.specs.Limits.{matrix_ceilings, branch_ceilings}
use Rattle.circuit.specs.Questions.{gates_questions, word_questions, channel_questions, channel_verdict, unitary_questions, unitary_verdict}

-- ---- gates
pub gates-valid : (n m i : ℕ) (gs : List Gate) → every yes (gates_questions (Channel m) n i gs) ≡ every (valid n m) gs
gates-valid n m i [] = refl
gates-valid n m i (g ∷ gs) = go (formed g) (placed n m g) (supported g) (gates-valid n m (suc i) gs)
  where
    go : (a b c : Bool) → every yes (gates_questions (Channel m) n (suc i) gs) ≡ every (valid n m) gs
        → (a && (b && (c && every yes (gates_questions (Channel m) n (suc i) gs)))) ≡ ((a && (b && c)) && every (valid n m) gs)
    go true true true r = r
    go true true false r = refl
    go true false c r = refl
    go false b c r = refl

-- their numbers are 4, 5 and 6
module _ (p : ℕ → Bool) (four : p 4 ≡ true) (five : p 5 ≡ true) (six : p 6 ≡ true) where
  abbrev Passes : Question → Type 0
  Passes q = p q.number ≡ true

  gate-numbers : (a : Asking) (n i : ℕ) (g : Gate) → All Passes (gate_questions a n i g)
  gate-numbers (Channel m) n i g = (four, (five, (six, tt)))
  gate-numbers Unitary n i g = (four, (five, (six, tt)))
  gate-numbers (Placing m) n i g = (four, (five, tt))

  pub gates-numbers : (a : Asking) (n i : ℕ) (gs : List Gate) → All (λ (q : Question). p q.number ≡ true) (gates_questions a n i gs)
  gates-numbers a n i [] = tt
  gates-numbers a n i (g ∷ gs) = all_append Passes (gate_questions a n i g) (gates_questions a n (suc i) gs) (gate-numbers a n i g) (gates-numbers a n (suc i) gs)

-- ---- circuit_channel
module _ (n m : ℕ) (l : Limits) (ws : List ℕ) where
  -- what acceptance of the words says of the limits
  pub words-low : is_ok (first_no (word_questions n m l ws)) ≡ true → ((matrix_ceilings l && branch_ceilings l) ≡ true) × (length ws / gate_size ≤ l.max_operations)
  words-low e =
      let all : every yes (word_questions n m l ws) ≡ true = sym (all_yes tt (word_questions n m l ws)) ∙ e in
      let q1 = and_split (matrix_ceilings l && branch_ceilings l) _ all in
      let q2 = and_split (eqb (length ws % gate_size) 0) _ q1.1 in
      let q3 = and_split (leb (length ws / gate_size) l.max_operations) _ q2.1 in
      (q1.0, leb-true _ _ q3.0)

pub channel_accepts : (n m : ℕ) (σ : List ℕ) (l : Limits) (ws : List ℕ) (result work : ℕ)
    → is_ok (channel_verdict n m σ l ws result work) ≡ every yes (channel_questions n m σ l ws result work)
channel_accepts n m σ l ws result work = all_yes tt (channel_questions n m σ l ws result work)

-- ---- circuit_unitary
pub unitary-accepts : (n : ℕ) (l : Limits) (ws : List ℕ) (result work : ℕ) → is_ok (unitary_verdict n l ws result work) ≡ every yes (unitary_questions n l ws result work)
unitary-accepts n l ws result work = all_yes tt (unitary_questions n l ws result work)
