-- The questions of numbers in two parts: those that the code asks first tell whether the sizes are small enough to be worked out.
use Rattle.std.specs.Prelude.{Ok, Err}
use mathlib.Core.Path.{◌≡◌, refl, sym, ap, ◌∙◌}
use mathlib.Core.Bool.{Bool, true, false, cond, ◌&&◌, and-false}
use mathlib.Core.List.{List, [], ◌∷◌, ◌++◌}
use Prim.Native.Nat.{ℕ, suc, ◌^◌, ◌≤◌}
use native.Mathlib.Omega.{arith}
use lib.Dec.{leb}
use lib.Pow.{pow_mono}
use borrow.Author.Tests.{leb-false, lt-leb}
use Rattle.algebra.specs.Lists.{total}
use Rattle.verdict.specs.declared.Refusal.TheVariants.{OverLimit, BadStore, TooHeavy, ShortBuffer}
use Rattle.verdict.specs.declared.Refusal.{Refusal}
use Rattle.verdict.specs.Questions.{Verdict, Question, question, granted, first_no}
use Rattle.verdict.proofs.Questions.{refused, passed, handed_value}
use Rattle.gate.specs.Gate.{gates_of, weight, max_weight}
use Rattle.store.specs.Store.{store_fits}
use Rattle.circuit.specs.declared.limits.Limits.{Limits}
use Rattle.circuit.specs.declared.footprint.Footprint.{Footprint}
use Rattle.circuit.specs.declared.sizes.Sizes.{Sizes}
use Rattle.circuit.specs.Footprint.{footprint_of}
use Rattle.circuit.specs.Questions.{sizes_of, unitary_room}
use Rattle.circuit.specs.Inner.Small.{max_splits}
use Rattle.circuit.specs.Inner.Numbers.{count_questions, size_questions}
use Rattle.circuit.proofs.Known.{Low}

-- ---- questions 7 to 10: of the sizes, `few_cells` is what question 8 asks of cells and terms, and `room` is question 10
module _ (l : Limits) (f : Footprint) (n m : ℕ) (σ : List ℕ) (few_cells room : Sizes → Bool) (low : Low l) where
  abbrev before : List Question
  before = count_questions f n m σ l

  abbrev of_sizes : Sizes → List Question
  of_sizes s = size_questions (leb s.branches l.max_branches && few_cells s) f.weight (room s)

  abbrev whole : List Question
  whole =
      let s = sizes_of f n in
      question 7 (store_fits m σ) BadStore ∷ size_questions (leb m l.max_classical_bits && (leb s.branches l.max_branches && (leb n l.max_qubits && few_cells s))) f.weight (room s)

  many-branches : leb f.splits max_splits ≡ false → leb (2 ^ f.splits) l.max_branches ≡ false
  many-branches e =
      let a : suc max_splits ≤ f.splits = leb-false f.splits max_splits e in
      let b : 2 ^ suc max_splits ≤ 2 ^ f.splits = pow_mono a in
      lt-leb (2 ^ f.splits) l.max_branches (omega (arith, low.branches_low))

  two_parts : first_no (before ++ of_sizes (sizes_of f n)) ≡ first_no whole
  two_parts =
      ap (λ (v : Verdict). cond (store_fits m σ) v (Err BadStore))
      (go (leb m l.max_classical_bits) (leb n l.max_qubits) (leb f.splits max_splits) (leb (2 ^ f.splits) l.max_branches) (few_cells (sizes_of f n)) _ many-branches)
    where
      go : (a b s k r : Bool) (v : Verdict) → (s ≡ false → k ≡ false)
          → cond (a && (b && s)) (cond (k && r) v (Err OverLimit)) (Err OverLimit) ≡ cond (a && (k && (b && r))) v (Err OverLimit)
      go false b s k r v h = refl
      go true false s k r v h = simp (and-false k)
      go true true false k r v h = simp (h refl)
      go true true true k r v h = refl

  pub counts_refuse : {r : Refusal} → Err r ≡ granted (sizes_of f n) before → Err r ≡ first_no whole
  counts_refuse e = refused (sizes_of f n) tt before (of_sizes (sizes_of f n)) e ∙ two_parts

  pub counts_pass : {s : Sizes} → Ok s ≡ granted (sizes_of f n) before → first_no (of_sizes s) ≡ first_no whole
  counts_pass e = ap (λ (s : Sizes). first_no (of_sizes s)) (handed_value (sizes_of f n) before e) ∙ passed (sizes_of f n) tt before (of_sizes (sizes_of f n)) e ∙ two_parts

-- ---- circuit_unitary
-- the last two questions, by their answers
module _ (n : ℕ) (ws : List ℕ) (result work : ℕ) where
  abbrev pub last_questions : List Question
  last_questions = question 9 (leb (total weight (gates_of ws)) max_weight) TooHeavy ∷ question 10 (unitary_room (2 ^ n) result work) ShortBuffer ∷ []

  pub last_answers : {f : Footprint} {a b : Bool} → f ≡ footprint_of 0 (gates_of ws) → leb f.weight max_weight ≡ a → unitary_room (2 ^ n) result work ≡ b
      → cond a (cond b (Ok tt) (Err ShortBuffer)) (Err TooHeavy) ≡ first_no last_questions
  last_answers e p q =
      let w = ap (λ (f : Footprint). leb f.weight max_weight) (sym e) ∙ p in
      sym (λ i. cond (w i) (cond (q i) (Ok tt) (Err ShortBuffer)) (Err TooHeavy))

  pub room-found : {d : ℕ} {t u : Bool} → d ≡ 2 ^ n → t ≡ unitary_room d result work → t ≡ u → unitary_room (2 ^ n) result work ≡ u
  room-found h f e = ap (λ (d : ℕ). unitary_room d result work) (sym h) ∙ sym f ∙ e
