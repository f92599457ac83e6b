-- The questions of the layers: those of the gates are answered by yes exactly where nothing clashes.
use Rattle.std.specs.Prelude.{is_ok}
use mathlib.Core.Path.{◌≡◌, refl, sym, ap, ◌∙◌}
use mathlib.Core.Bool.{Bool, true, not, ◌&&◌}
use mathlib.Core.List.{List, [], ◌∷◌, ◌++◌}
use Prim.Native.Nat.{ℕ, suc}
use lib.ListN.{length}
use Rattle.algebra.specs.Lists.{every, some}
use Rattle.algebra.proofs.Tests.{and_split}
use Rattle.verdict.specs.Questions.{Question}
use Rattle.verdict.proofs.Questions.{yes, all_yes, every_append}
use Rattle.gate.specs.Gate.{gates_of}
use Rattle.circuit.specs.declared.limits.Limits.{Limits}
use Rattle.circuit.specs.Footprint.{footprint_of}
use Rattle.circuit.specs.Questions.{word_questions, number_questions, channel_verdict}
use Rattle.circuit.specs.Layers.{closing, Fired, fired, clash, clash_questions, layer_questions, layered_questions, layered_verdict}
use Rattle.circuit.proofs.Answers.{channel_accepts}
use Rattle.circuit.proofs.Pairs.{free}

-- all of question 12 is answered by yes exactly where nothing clashes
pub clashes_free : (before : List Fired) (i : ℕ) (gs : List Fired) → every yes (clash_questions before i gs) ≡ free clash before gs
clashes_free before i [] = refl
clashes_free before i (g ∷ gs) = ap (λ (b : Bool). not (some (clash g) before) && b) (clashes_free (g ∷ before) (suc i) gs)

-- ---- a layered circuit
module _ (n m : ℕ) (σ : List ℕ) (l : Limits) (ws ends : List ℕ) (result work : ℕ) where
  abbrev words : List Question
  words = word_questions n m l ws

  abbrev layers : List Question
  layers = layer_questions ends (gates_of ws)

  abbrev numbers : List Question
  numbers = number_questions (footprint_of m (gates_of ws)) n m σ l result work

  pub layered-yes : is_ok (layered_verdict n m σ l ws ends result work) ≡ every yes (layered_questions n m σ l ws ends result work)
  layered-yes = all_yes tt (layered_questions n m σ l ws ends result work)

  -- what acceptance says of the words, the layers and the numbers
  accepted_parts : is_ok (layered_verdict n m σ l ws ends result work) ≡ true → (every yes words ≡ true) × ((every yes layers ≡ true) × (every yes numbers ≡ true))
  accepted_parts e =
      let (p, q) = and_split (every yes words) (every yes layers && every yes numbers)
      (sym (layered-yes ∙ every_append words (layers ++ numbers) ∙ ap (λ (b : Bool). every yes words && b) (every_append layers numbers)) ∙ e) in
      (p, and_split (every yes layers) (every yes numbers) q)

  -- the gate list of an accepted layered circuit is accepted too
  pub layered-accepts : is_ok (layered_verdict n m σ l ws ends result work) ≡ true → is_ok (channel_verdict n m σ l ws result work) ≡ true
  layered-accepts e = let a = accepted_parts e in channel_accepts n m σ l ws result work ∙ every_append words numbers ∙ (λ i. a.0 i && a.1.1 i)

  -- no two gates of a layer of an accepted layered circuit clash
  pub layered-free : is_ok (layered_verdict n m σ l ws ends result work) ≡ true → free clash [] (fired ends 0 (gates_of ws)) ≡ true
  layered-free e =
      sym (clashes_free [] 0 (fired ends 0 (gates_of ws)))
      ∙ (and_split (closing (length (gates_of ws)) 0 ends) (every yes (clash_questions [] 0 (fired ends 0 (gates_of ws)))) (accepted_parts e).1.0).1
