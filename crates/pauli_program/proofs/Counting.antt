-- How many branches a program has, 2^s for s measures, their stores, and the sizes of their matrices.
use mathlib.Core.Path.{◌≡◌, refl, sym, ap, ◌∙◌}
use mathlib.Core.Bool.{Bool, true}
use mathlib.Core.List.{List, [], ◌∷◌, map, foldl}
use Prim.Native.Nat.{ℕ, ◌*◌, ◌^◌, ◌<◌}
use native.Mathlib.Nat.{mul_assoc}
use native.Mathlib.Omega.{arith}
use lib.Pow.{pow-add}
use lib.ListN.{length, length-map}
use Rattle.algebra.specs.Lists.{All, total}
use Rattle.algebra.proofs.Lists.{all_map, all_concat, concat_length}
use Rattle.gate.specs.Gate.{elem}
use Rattle.kraus.specs.Branch.{Store, Branch}
use Rattle.kraus.proofs.Dense.{tabulate-length}
use Rattle.kraus.proofs.Counting.{Fit, Marked, marked, fit_start, fit_write, all-written}
use Rattle.pauli_nodes.specs.Nodes.{Node}
use Rattle.pauli_nodes.specs.Operations.{Operation, rotate, rotate_if, measure, bits, splits}
use Rattle.pauli_program.specs.Program.{Path, Way, follow, ways, operation_step, paths, program_branches}

module _ (n : ℕ) (nodes : List Node) where
  pub ways-length : (o : Operation) (seen : List ℕ) → length (ways n nodes o seen) ≡ 2 ^ splits o
  ways-length (rotate a k) seen = refl
  ways-length (rotate_if a k j) seen = refl
  ways-length (measure a bs) seen = refl

  pub follow-length : (o : Operation) (p : Path) → length (map (follow n p) (ways n nodes o p.outcomes)) ≡ 2 ^ splits o
  follow-length o p = length-map (ways n nodes o p.outcomes) (follow n p) ∙ ways-length o p.outcomes

  pub step-length : (o : Operation) (ps : List Path) → length (operation_step n nodes ps o) ≡ length ps * 2 ^ splits o
  step-length o = concat_length (λ (p : Path). map (follow n p) (ways n nodes o p.outcomes)) (2 ^ splits o) (follow-length o)

  run_length : (os : List Operation) (ps : List Path) → length (foldl (operation_step n nodes) ps os) ≡ length ps * 2 ^ total splits os
  run_length [] ps = omega arith
  run_length (o ∷ os) ps =
      run_length os (operation_step n nodes ps o)
      ∙ ap (λ (l : ℕ). l * 2 ^ total splits os) (step-length o ps)
      ∙ mul_assoc (length ps) (2 ^ splits o) (2 ^ total splits os)
      ∙ ap (λ (l : ℕ). length ps * l) (sym (pow-add 2 (splits o) (total splits os)))

  pub path_count : (σ : Store) (os : List Operation) → length (paths n nodes σ os) ≡ 2 ^ total splits os
  path_count σ os = run_length os _ ∙ omega arith

  pub program_count : (σ : Store) (os : List Operation) → length (program_branches n nodes σ os) ≡ 2 ^ total splits os
  program_count σ os = length-map (paths n nodes σ os) (λ (p : Path). p.branch) ∙ path_count σ os

  -- ---- stores
  module _ (mark : ℕ → Bool) (σ : Store) where
    abbrev Fits : Path → Type 0
    Fits p = Fit mark σ p.branch.store

    keeps : (o : Operation) → All (λ (i : ℕ). mark i ≡ true) (bits o) → (p : Path) → Fits p → All Fits (map (follow n p) (ways n nodes o p.outcomes))
    keeps (rotate a k) h p f = (f, tt)
    keeps (rotate_if a k j) h p f = (f, tt)
    keeps (measure a bs) h p f = (fit_write mark n σ p.branch.store bs 0 f h (omega arith), (fit_write mark n σ p.branch.store bs 1 f h (omega arith), tt))

    fit_run : (os : List Operation) → All (λ (o : Operation). All (λ (i : ℕ). mark i ≡ true) (bits o)) os → (ps : List Path) → All Fits ps → All Fits (foldl (operation_step n nodes) ps os)
    fit_run [] h ps f = f
    fit_run (o ∷ os) h ps f = fit_run os h.1 (operation_step n nodes ps o) (all_concat Fits Fits (λ (p : Path). map (follow n p) (ways n nodes o p.outcomes)) (keeps o h.0) ps f)

  pub program_marked : (σ : Store) (os : List Operation) (given : All (λ (v : ℕ). v < 2) σ) → Marked (λ (o : Operation) (i : ℕ). elem i (bits o)) os σ given (program_branches n nodes σ os)
  program_marked σ os given =
      let mark : ℕ → Bool = marked (λ (o : Operation) (i : ℕ). elem i (bits o)) os σ given in
      record {
        fits = all_map (λ (p : Path). Fit mark σ p.branch.store) (λ (b : Branch). Fit mark σ b.store) (λ (p : Path). p.branch) (λ p f. f) (paths n nodes σ os)
            (fit_run mark σ os (all-written bits os os (λ i e. e)) _ (fit_start mark σ given, tt));
      }

  -- ---- matrices
  abbrev Square : Path → Type 0
  Square p = length p.branch.matrix ≡ 2 ^ n * 2 ^ n

  follow_square : (p : Path) (ws : List Way) → All Square (map (follow n p) ws)
  follow_square p [] = tt
  follow_square p (w ∷ ws) = (tabulate-length (2 ^ n * 2 ^ n) 0 _, follow_square p ws)

  run_square : (os : List Operation) (ps : List Path) → All Square ps → All Square (foldl (operation_step n nodes) ps os)
  run_square [] ps h = h
  run_square (o ∷ os) ps h = run_square os (operation_step n nodes ps o) (all_concat Square Square (λ (p : Path). map (follow n p) (ways n nodes o p.outcomes)) (λ p k. follow_square p (ways n nodes o p.outcomes)) ps h)

  pub program_square : (σ : Store) (os : List Operation) → All (λ (b : Branch). length b.matrix ≡ 2 ^ n * 2 ^ n) (program_branches n nodes σ os)
  program_square σ os = all_map Square (λ (b : Branch). length b.matrix ≡ 2 ^ n * 2 ^ n) (λ (p : Path). p.branch) (λ p h. h) (paths n nodes σ os) (run_square os _ (tabulate-length (2 ^ n * 2 ^ n) 0 _, tt))
