-- The branches of a program: Σ K†K = I, and each entry over the power of √2 that the program weighs.
use mathlib.Core.Path.{◌≡◌, refl, sym, ap, ◌∙◌, subst}
use mathlib.Core.Bool.{true}
use mathlib.Core.List.{List, [], ◌∷◌, map, foldl}
use Prim.Native.Nat.{ℕ, ◌+◌, ◌^◌, ◌≤◌, ◌<◌}
use native.Mathlib.Omega.{arith}
use lib.ListN.{take}
use Rattle.algebra.specs.Sum.{δ}
use Rattle.algebra.specs.Lists.{All, total}
use Rattle.algebra.proofs.Lists.{all_both, all_map, all_unmap, all_concat}
use Rattle.algebra.proofs.Sum.{list_sum-same, list_sum_map, list_sum_concat}
use Rattle.algebra.proofs.Totals.{sub_whole, sub_take, sub_all, sub_total}
use Rattle.exact.specs.Exact.{exact}
use Rattle.exact.proofs.Exact.{exacts}
use Rattle.kraus.specs.Branch.{Store, Branch, KrausOperator, apply}
use Rattle.kraus.proofs.Complete.{norm, gram, gram-start, one-branch}
use Rattle.kraus.proofs.Filtration.{exp_is}
use Rattle.kraus.proofs.Weigh.{Entries, apply-entries}
use Rattle.kraus.proofs.Weights.{graded, start_parts}
use Rattle.kraus.proofs.Enough.{Whole}
use Rattle.kraus.proofs.Limits.{Enough, exponent_of, part-fits, enough, kraus_exponent, suits}
use Rattle.gate.specs.Gate.{max_weight}
use Rattle.pauli_nodes.specs.Nodes.{Node, Placed, hermitian, axis_matrix}
use Rattle.pauli_nodes.specs.Operations.{Operation, axis, weight}
use Rattle.pauli_program.specs.Program.{Path, Way, follow, ways, operation_step, paths, program_branches}
use Rattle.pauli_program.specs.Claims.{Eighths, Sound, ProgramComplete}
use Rattle.pauli_program.proofs.Steps.{operators_of, Good, good}

module _ (n : ℕ) where
  abbrev ends : List Path → List Branch
  ends = map (λ (p : Path). p.branch)

  followed : (p : Path) (ws : List Way) → ends (map (follow n p) ws) ≡ map (apply n p.branch) (operators_of ws)
  followed p [] = refl
  followed p (w ∷ ws) = ap (λ (bs : List Branch). apply n p.branch w.operator ∷ bs) (followed p ws)

  -- entries of weight w
  abbrev Weighed : ℕ → Path → Type 0
  Weighed w p = Entries graded w p.branch

  follow_weighed : (v w : ℕ) (p : Path) → Weighed w p → (ws : List Way) → Good n v ws → All (Weighed (v + w)) (map (follow n p) ws)
  follow_weighed v w p e ws g = all_map (λ (x : Way). (r c : ℕ) → graded.Part v (x.operator.entry r c)) (Weighed (v + w)) (follow n p)
      (λ x h. apply-entries graded n v w p.branch e x.operator h) ws (all_unmap (λ (K : KrausOperator). (r c : ℕ) → graded.Part v (K.entry r c)) (λ (x : Way). x.operator) ws g.weighing)

  module _ (nodes : List Node) (few : n ≤ 5) (placed : All (Placed n) nodes) where
    abbrev Allowed : Operation → Type 0
    Allowed o = (hermitian n (axis_matrix n nodes (axis o)) ≡ true) × Eighths o

    step-gram : (o : Operation) → Allowed o → (ps : List Path) (c c' : ℕ) → c < 2 ^ n → c' < 2 ^ n → gram n (ends (operation_step n nodes ps o)) c c' ≡ gram n (ends ps) c c'
    step-gram o (h, e) ps c c' l m =
        list_sum_map exacts (norm n c c') (λ (p : Path). p.branch) (operation_step n nodes ps o)
        ∙ list_sum_concat exacts (λ (p : Path). norm n c c' p.branch) (λ (p : Path). map (follow n p) (ways n nodes o p.outcomes)) ps
        ∙ list_sum-same exacts _ _ ps (λ p. sym (list_sum_map exacts (norm n c c') (λ (p : Path). p.branch) (map (follow n p) (ways n nodes o p.outcomes)))
        ∙ ap (λ (bs : List Branch). gram n bs c c') (followed p (ways n nodes o p.outcomes))
        ∙ one-branch n (operators_of (ways n nodes o p.outcomes)) (good n nodes few placed o h e p.outcomes).complete p.branch c c' l m)
        ∙ sym (list_sum_map exacts (norm n c c') (λ (p : Path). p.branch) ps)

    steps_gram : (os : List Operation) → All Allowed os → (ps : List Path) (c c' : ℕ) → c < 2 ^ n → c' < 2 ^ n → gram n (ends (foldl (operation_step n nodes) ps os)) c c' ≡ gram n (ends ps) c c'
    steps_gram [] h ps c c' l m = refl
    steps_gram (o ∷ os) h ps c c' l m = steps_gram os h.1 (operation_step n nodes ps o) c c' l m ∙ step-gram o h.0 ps c c' l m

    steps_weighed : (os : List Operation) → All Allowed os → (w : ℕ) (ps : List Path) → All (Weighed w) ps → All (Weighed (total weight os + w)) (foldl (operation_step n nodes) ps os)
    steps_weighed [] h w ps k = let e : w ≡ 0 + w = omega arith in subst (λ (v : ℕ). All (Weighed v) ps) e k
    steps_weighed (o ∷ os) h w ps k =
        let e : total weight os + (weight o + w) ≡ weight o + total weight os + w = omega arith in
        subst (λ (v : ℕ). All (Weighed v) (foldl (operation_step n nodes) (operation_step n nodes ps o) os)) e
        (steps_weighed os h.1 (weight o + w) (operation_step n nodes ps o)
        (all_concat (Weighed w) (Weighed (weight o + w)) (λ (p : Path). map (follow n p) (ways n nodes o p.outcomes))
        (λ p e. follow_weighed (weight o) w p e (ways n nodes o p.outcomes) (good n nodes few placed o h.0.0 h.0.1 p.outcomes)) ps k))

module _ {n : ℕ} {nodes : List Node} {os : List Operation} (s : Sound n nodes os) (σ : Store) where
  allowed : All (Allowed n nodes s.few s.placed) os
  allowed = all_both (λ (o : Operation). hermitian n (axis_matrix n nodes (axis o)) ≡ true) Eighths (Allowed n nodes s.few s.placed) os (λ o h e. (h, e)) s.axes s.eighths

  pub program_gram : (c c' : ℕ) → c < 2 ^ n → c' < 2 ^ n → gram n (program_branches n nodes σ os) c c' ≡ δ exact c c'
  program_gram c c' l m = steps_gram n nodes s.few s.placed os allowed _ c c' l m ∙ gram-start n σ c c' l m

  pub program_whole : (W : ℕ) → total weight os ≤ W → Whole n (exponent_of W) (program_branches n nodes σ os)
  program_whole W l = record {
    complete = program_gram;
    fits = all_map (Weighed n (total weight os + 0)) (λ (b : Branch). (i : ℕ) → _) (λ (p : Path). p.branch)
        (λ p h i. part-fits (total weight os + 0) (exponent_of W) _ (omega (arith, exp_is (total weight os + 0))) (h i)) (paths n nodes σ os)
        (steps_weighed n nodes s.few s.placed os allowed 0 _ (start_parts n σ));
  }

-- the first k operations of a program that passed
pub first : {n : ℕ} {nodes : List Node} {os : List Operation} → Sound n nodes os → (k : ℕ) → Sound n nodes (take k os)
first {os = os} s k =
    let t = sub_take k (sub_whole os) in
    record { few = s.few; placed = s.placed; axes = sub_all _ t s.axes; eighths = sub_all _ t s.eighths }

-- NEVER TOO LARGE: programs of an accepted weight, after every k operations
pub program_enough : {n : ℕ} {nodes : List Node} {os : List Operation} → Sound n nodes os → total weight os ≤ max_weight → (σ : Store) (k : ℕ) → Enough kraus_exponent n (program_branches n nodes σ (take k os))
program_enough {n} {nodes} {os} s l σ k =
    enough kraus_exponent n (program_branches n nodes σ (take k os)) suits (program_whole (first s k) σ max_weight (omega (arith, sub_total weight (sub_take k (sub_whole os)))))

pub program_complete : ProgramComplete
program_complete n σ nodes os s r c hr hc = program_gram s σ r c hr hc
