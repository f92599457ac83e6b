-- The paths of a program by their numbers: the outcomes of path j are the bits of j, the last one lowest; and which operator made it.
use mathlib.Core.Path.{◌≡◌, refl, sym, ap, ◌∙◌, subst}
use mathlib.Core.List.{List, [], ◌∷◌, ◌++◌, map, foldl}
use Prim.Native.Nat.{ℕ, zero, suc, ◌+◌, ◌*◌, ◌-◌, ◌/◌, ◌%◌, ◌^◌, ◌<◌}
use native.Mathlib.Nat.{div-add-mod', div-lt_iff_lt-mul, mod-lt, div-one, div-div-eq-div-mul, pow-suc, mul_comm}
use native.Mathlib.Decide.{dec_lt}
use native.Mathlib.Omega.{arith}
use lib.Pow.{pow_pos}
use lib.ListN.{length, get_or, length-append, get_or-append}
use lib.Seq.{get_or-append-add}
use Rattle.algebra.specs.Lists.{total}
use Rattle.algebra.proofs.Lists.{concat_at}
use Rattle.kraus.specs.Branch.{apply}
use Rattle.pauli_nodes.specs.Nodes.{Node}
use Rattle.pauli_nodes.specs.Operations.{Operation, rotate, rotate_if, measure, splits}
use Rattle.pauli_program.specs.Program.{Path, follow, ways, operation_step}
use Rattle.pauli_program.proofs.Counting.{follow-length, step-length}
use Rattle.pauli_run.specs.Inner.Operators.{Seen, chosen, operator_of, shift_of}

-- the last s bits of j, the highest first
abbrev pub outcomes_of : ℕ → ℕ → List ℕ
outcomes_of zero j = []
outcomes_of (suc s) j = outcomes_of s (j / 2) ++ (j % 2 ∷ [])

outcomes_length : (s j : ℕ) → length (outcomes_of s j) ≡ s
outcomes_length zero j = refl
outcomes_length (suc s) j = length-append (outcomes_of s (j / 2)) (j % 2 ∷ []) ∙ omega (arith, outcomes_length s (j / 2))

pub outcome-at : (s j o : ℕ) → o < s → get_or (outcomes_of s j) o 0 ≡ chosen (s - 1 - o) j
outcome-at zero j o l = absurd (omega arith)
outcome-at (suc s) j o l = go (dec_lt o s) (λ h. outcome-at s (j / 2) o h)
  where
    go : Dec (o < s) → (o < s → get_or (outcomes_of s (j / 2)) o 0 ≡ chosen (s - 1 - o) (j / 2)) → get_or (outcomes_of s (j / 2) ++ (j % 2 ∷ [])) o 0 ≡ chosen (suc s - 1 - o) j
    go (yes h) f =
        let e : suc (s - 1 - o) ≡ suc s - 1 - o = omega arith in
        get_or-append (outcomes_of s (j / 2)) (j % 2 ∷ []) 0 o (omega (arith, outcomes_length s (j / 2)))
        ∙ f h
        ∙ ap (λ (k : ℕ). k % 2) (div-div-eq-div-mul j 2 (2 ^ (s - 1 - o)) ∙ ap (λ (p : ℕ). j / p) (mul_comm 2 (2 ^ (s - 1 - o)) ∙ sym (pow-suc 2 (s - 1 - o))))
        ∙ ap (λ (k : ℕ). chosen k j) e
    go (no h) f =
        let p : o ≡ length (outcomes_of s (j / 2)) + 0 = omega (arith, outcomes_length s (j / 2)) in
        let e : 0 ≡ suc s - 1 - o = omega arith in
        ap (λ (k : ℕ). get_or (outcomes_of s (j / 2) ++ (j % 2 ∷ [])) k 0) p
        ∙ get_or-append-add (outcomes_of s (j / 2)) (j % 2 ∷ []) 0 0
        ∙ ap (λ (k : ℕ). k % 2) (sym (div-one j)) ∙ ap (λ (k : ℕ). chosen k j) e

nil : (xs : List ℕ) → xs ++ [] ≡ xs
nil [] = refl
nil (x ∷ xs) = ap (λ (ys : List ℕ). x ∷ ys) (nil xs)

-- ---- a step, path by path
module _ (n : ℕ) (nodes : List Node) (z : Path) where
  -- each path has the bits of its number as outcomes
  abbrev pub Told : ℕ → List Path → Type 0
  Told made ps = (j : ℕ) → j < length ps → (get_or ps j z).outcomes ≡ outcomes_of made j

  module _ (o : Operation) (ps : List Path) where
    abbrev ops : ℕ
    ops = 2 ^ splits o

    step-at : (j : ℕ) → j < length ps * 2 ^ splits o
        → get_or (operation_step n nodes ps o) j z ≡ get_or (map (follow n (get_or ps (j / 2 ^ splits o) z)) (ways n nodes o (get_or ps (j / 2 ^ splits o) z).outcomes)) (j % 2 ^ splits o) z
    step-at j h =
        ap (λ (k : ℕ). get_or (operation_step n nodes ps o) k z) (sym (div-add-mod' j ops))
        ∙ concat_at (λ (p : Path). map (follow n p) (ways n nodes o p.outcomes)) ops (follow-length n nodes o) ps z z (j / ops) (j % ops) ((div-lt_iff_lt-mul (pow_pos (splits o))).1 h) (mod-lt j (pow_pos (splits o)))

  one_way : (j : ℕ) (x y : Path) → get_or (x ∷ []) (j % 2 ^ 0) y ≡ x
  one_way j x y = let e : j % 2 ^ 0 ≡ 0 = omega arith in ap (λ (k : ℕ). get_or (x ∷ []) k y) e

  all_of : (j : ℕ) → j / 2 ^ 0 ≡ j
  all_of j = div-one j

  module _ (ps : List Path) (made : ℕ) (h : Told made ps) (j : ℕ) where
    -- the outcomes of the path that it comes from
    from : (s : ℕ) → j < length ps * 2 ^ s → (get_or ps (j / 2 ^ s) z).outcomes ≡ outcomes_of made (j / 2 ^ s)
    from s l = h (j / 2 ^ s) ((div-lt_iff_lt-mul (pow_pos s)).1 l)

    tell : (o : Operation) → j < length ps * 2 ^ splits o
        → (get_or (map (follow n (get_or ps (j / 2 ^ splits o) z)) (ways n nodes o (get_or ps (j / 2 ^ splits o) z).outcomes)) (j % 2 ^ splits o) z).outcomes ≡ outcomes_of (made + splits o) j
    tell (rotate a k) l =
        let m : made ≡ made + 0 = omega arith in
        ap (λ (p : Path). p.outcomes) (one_way j _ z) ∙ nil (get_or ps (j / 2 ^ 0) z).outcomes ∙ from 0 l ∙ (λ i. outcomes_of (m i) (all_of j i))
    tell (rotate_if a k q) l =
        let m : made ≡ made + 0 = omega arith in
        ap (λ (p : Path). p.outcomes) (one_way j _ z) ∙ nil (get_or ps (j / 2 ^ 0) z).outcomes ∙ from 0 l ∙ (λ i. outcomes_of (m i) (all_of j i))
    tell (measure a bs) l =
        let m : suc made ≡ made + 1 = omega arith in
        go (j % 2) (mod-lt j (omega arith)) ∙ (λ i. from 1 l i ++ (j % 2 ∷ [])) ∙ ap (λ (k : ℕ). outcomes_of k j) m
      where
        go : (r : ℕ) → r < 2
            → (get_or (map (follow n (get_or ps (j / 2 ^ 1) z)) (ways n nodes (measure a bs) (get_or ps (j / 2 ^ 1) z).outcomes)) r z).outcomes ≡ (get_or ps (j / 2 ^ 1) z).outcomes ++ (r ∷ [])
        go zero l = refl
        go (suc zero) l = refl
        go (suc (suc r)) l = absurd (omega arith)

    branch : (o : Operation) → Seen made o → j < length ps * 2 ^ splits o
        → (get_or (map (follow n (get_or ps (j / 2 ^ splits o) z)) (ways n nodes o (get_or ps (j / 2 ^ splits o) z).outcomes)) (j % 2 ^ splits o) z).branch
        ≡ apply n (get_or ps (j / 2 ^ splits o) z).branch (operator_of n nodes o (chosen (shift_of made o) j))
    branch (rotate a k) s l = ap (λ (p : Path). p.branch) (one_way j _ z)
    branch (rotate_if a k q) s l =
        ap (λ (p : Path). p.branch) (one_way j _ z)
        ∙ ap (λ (v : ℕ). apply n (get_or ps (j / 2 ^ 0) z).branch (operator_of n nodes (rotate_if a k q) v))
        (ap (λ (os : List ℕ). get_or os q 0) (from 0 l) ∙ outcome-at made (j / 2 ^ 0) q s ∙ ap (chosen (made - 1 - q)) (all_of j))
    branch (measure a bs) s l =
        go (j % 2) (mod-lt j (omega arith)) ∙ ap (λ (k : ℕ). apply n (get_or ps (j / 2 ^ 1) z).branch (operator_of n nodes (measure a bs) (k % 2))) (sym (all_of j))
      where
        go : (r : ℕ) → r < 2
            → (get_or (map (follow n (get_or ps (j / 2 ^ 1) z)) (ways n nodes (measure a bs) (get_or ps (j / 2 ^ 1) z).outcomes)) r z).branch ≡ apply n (get_or ps (j / 2 ^ 1) z).branch (operator_of n nodes (measure a bs) r)
        go zero l = refl
        go (suc zero) l = refl
        go (suc (suc r)) l = absurd (omega arith)

  pub step_told : (o : Operation) (ps : List Path) (made : ℕ) → Told made ps → Told (made + splits o) (operation_step n nodes ps o)
  step_told o ps made h j l = let k : j < length ps * 2 ^ splits o = omega (arith, step-length n nodes o ps) in ap (λ (p : Path). p.outcomes) (step-at o ps j k) ∙ tell ps made h j o k

  pub run_told : (os : List Operation) (ps : List Path) (made : ℕ) → Told made ps → Told (made + total splits os) (foldl (operation_step n nodes) ps os)
  run_told [] ps made h = let e : made ≡ made + 0 = omega arith in subst (λ (k : ℕ). Told k ps) e h
  run_told (o ∷ os) ps made h =
      let e : made + splits o + total splits os ≡ made + (splits o + total splits os) = omega arith in
      subst (λ (k : ℕ). Told k (foldl (operation_step n nodes) (operation_step n nodes ps o) os)) e (run_told os (operation_step n nodes ps o) (made + splits o) (step_told o ps made h))

  -- branch j of a step
  pub step-branch : (o : Operation) (ps : List Path) (made : ℕ) → Told made ps → Seen made o → (j : ℕ) → j < length ps * 2 ^ splits o
      → (get_or (operation_step n nodes ps o) j z).branch ≡ apply n (get_or ps (j / 2 ^ splits o) z).branch (operator_of n nodes o (chosen (shift_of made o) j))
  step-branch o ps made h s j l = ap (λ (p : Path). p.branch) (step-at o ps j l) ∙ branch ps made h j o s l
