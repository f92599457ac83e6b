-- How many branches there are, 2^s for s splits, and how many stores at most, 2^min(s, t) for t written bits.
use mathlib.Core.Path.{◌≡◌, refl, sym, ap, ap₂, ◌∙◌, subst}
use mathlib.Core.Bool.{Bool, true, false, cond, not, ◌&&◌, ◌||◌, true≢false}
use mathlib.Core.List.{List, [], ◌∷◌, ◌++◌, map, foldl}
use Prim.Native.Nat.{ℕ, zero, suc, ◌+◌, ◌*◌, ◌^◌, ◌≤◌, ◌<◌, min}
use native.Mathlib.Nat.{mul_assoc, add_assoc, zero-add}
use native.Mathlib.Omega.{arith}
use lib.Pow.{pow-add}
use lib.Dec.{eqb, leb}
use lib.ListN.{length, set, length-append, length-map}
use borrow.Author.Tests.{eq-eqb, leb-true, leb-false, not-true}
use Rattle.algebra.specs.Lists.{All, some, total, marks, filter_by}
use Rattle.algebra.proofs.Tests.{or_right}
use Rattle.algebra.proofs.Lists.{all_imp, all_both, all_map, all_concat, some_append, filter_all, filter_true, filter_length, filter_keep, concat_length}
use Rattle.gate.specs.Gate.{Gate, bits, elem, splits, measure, reset}
use Rattle.gate.specs.Operators.{Operator, operators, same_bits}
use Rattle.gate.proofs.Gate.{elem-all}
use Rattle.gate.proofs.Bits.{Word, same_true, same_refl}
use Rattle.kraus.specs.Branch.{Store, Branch, KrausOperator, write, apply, step, start, kraus_operator, operators_of, gate_step, branches}
use Rattle.kraus.specs.Blocks.{alive, survivors, stores}
use Rattle.kraus.proofs.Counts.{writes}
use Rattle.kraus.proofs.Stores.{other, Distinct, distinct_filter, stores-distinct, stores-length, stores-all}

by_kind : {A : Type 0} (x y : Bool) (ps qs us : List A) → length ps ≡ 2 → length qs ≡ 2 → length us ≡ 1
    → length (cond x ps (cond y qs us)) ≡ 2 ^ cond (x || (y || false)) 1 0
by_kind true y ps qs us p q u = p
by_kind false true ps qs us p q u = q
by_kind false false ps qs us p q u = u

pub operators-length : (g : Gate) → length (operators g) ≡ 2 ^ splits g
operators-length g = by_kind (eqb g.kind measure) (eqb g.kind reset) _ _ _ refl refl refl

pub step-length : (n : ℕ) (Ks : List KrausOperator) (bs : List Branch) → length (step n bs Ks) ≡ length bs * length Ks
step-length n Ks = concat_length (λ (b : Branch). map (apply n b) Ks) (length Ks) (λ b. length-map Ks (apply n b))

run_length : (n : ℕ) (gs : List Gate) (bs : List Branch) → length (foldl (gate_step n) bs gs) ≡ length bs * 2 ^ total splits gs
run_length n [] bs = omega arith
run_length n (g ∷ gs) bs =
    run_length n gs (gate_step n bs g)
    ∙ ap (λ (l : ℕ). l * 2 ^ total splits gs) (step-length n (operators_of n g) bs ∙ ap (λ (l : ℕ). length bs * l) (length-map (operators g) (kraus_operator n g) ∙ operators-length g))
    ∙ mul_assoc (length bs) (2 ^ splits g) (2 ^ total splits gs)
    ∙ ap (λ (l : ℕ). length bs * l) (sym (pow-add 2 (splits g) (total splits gs)))

pub branch_count : (n : ℕ) (σ : Store) (gs : List Gate) → length (branches n σ gs) ≡ 2 ^ total splits gs
branch_count n σ gs = run_length n gs (start n σ) ∙ omega arith

-- ---- each store is counted once
-- a list of different stores loses at most one with a store
lose_one : (l : Store) (ss : List Store) → Distinct ss → length ss ≤ suc (length (filter_by (other l) ss))
lose_one l [] h = omega arith
lose_one l (s ∷ ss) h = go (same_bits l s) refl (lose_one l ss h.1)
  where
    rest : List Store
    rest = filter_by (other l) ss

    go : (b : Bool) → same_bits l s ≡ b → length ss ≤ suc (length rest) → suc (length ss) ≤ suc (length (cond (not b) (s ∷ rest) rest))
    go true e r =
        let k : rest ≡ ss = filter_keep (other l) ss (all_imp (λ (y : Store). same_bits s y ≡ false) (λ (y : Store). other l y ≡ true) ss
        (λ y f. ap not (ap (λ (z : Store). same_bits z y) (same_true l s e) ∙ f)) h.0) in
        omega (arith, ap length k)
    go false e r = omega arith

elsewhere : (l : Store) (ls : List Store) (s : Store) → some (same_bits s) (l ∷ ls) ≡ true → not (same_bits l s) ≡ true → some (same_bits s) ls ≡ true
elsewhere l ls s m e = go (same_bits s l) refl m
  where
    go : (b : Bool) → same_bits s l ≡ b → b || some (same_bits s) ls ≡ true → some (same_bits s) ls ≡ true
    go true f k = absurd (true≢false (sym (ap (λ (z : Store). same_bits l z) (same_true s l f) ∙ same_refl l) ∙ not-true (same_bits l s) e))
    go false f k = k

fewer : (ls ss : List Store) → Distinct ss → All (λ (s : Store). some (same_bits s) ls ≡ true) ss → length ss ≤ length ls
fewer [] [] h m = omega arith
fewer [] (s ∷ ss) h m = absurd (true≢false (sym m.0))
fewer (l ∷ ls) ss h m =
    let p : Store → Bool = other l in
    let r : length (filter_by p ss) ≤ length ls =
    fewer ls (filter_by p ss) (distinct_filter p ss h)
    (all_both (λ (s : Store). some (same_bits s) (l ∷ ls) ≡ true) (λ (s : Store). p s ≡ true) (λ (s : Store). some (same_bits s) ls ≡ true) (filter_by p ss)
    (elsewhere l ls) (filter_all (λ (s : Store). some (same_bits s) (l ∷ ls) ≡ true) p ss m) (filter_true p ss)) in
    omega (arith, lose_one l ss h)

-- ---- what a store may have become
-- 0 or 1 at a marked place, and what it was elsewhere
abbrev Slot : Bool → ℕ → ℕ → Type 0
Slot true v w = w < 2
Slot false v w = w ≡ v

abbrev later : (ℕ → Bool) → ℕ → Bool
later mark i = mark (suc i)

abbrev pub Fit : (ℕ → Bool) → Store → Store → Type 0
Fit mark [] [] = Unit {0}
Fit mark [] (w ∷ τ) = ⊥
Fit mark (v ∷ σ) [] = ⊥
Fit mark (v ∷ σ) (w ∷ τ) = Slot (mark 0) v w × Fit (later mark) σ τ

-- all that it may have become
abbrev variants : (ℕ → Bool) → Store → List Store
variants mark [] = [] ∷ []
variants mark (v ∷ σ) =
    let vs = variants (later mark) σ in
    cond (mark 0) (map (λ (τ : Store). 0 ∷ τ) vs ++ map (λ (τ : Store). 1 ∷ τ) vs) (map (λ (τ : Store). v ∷ τ) vs)

-- how many of the numbers below n are marked
tally : ℕ → (ℕ → Bool) → ℕ
tally zero mark = 0
tally (suc n) mark = tally n mark + cond (mark n) 1 0

tally-front : (n : ℕ) (mark : ℕ → Bool) → tally (suc n) mark ≡ cond (mark 0) 1 0 + tally n (later mark)
unfolding tally
tally-front zero mark = omega arith
tally-front (suc n) mark = ap (λ (x : ℕ). x + cond (mark (suc n)) 1 0) (tally-front n mark) ∙ add_assoc (cond (mark 0) 1 0) (tally n (later mark)) (cond (mark (suc n)) 1 0)

variants_length : (mark : ℕ → Bool) (σ : Store) → length (variants mark σ) ≡ 2 ^ tally (length σ) mark
unfolding tally
variants_length mark [] = refl
variants_length mark (v ∷ σ) = go (mark 0) (variants_length (later mark) σ) ∙ ap (λ (k : ℕ). 2 ^ k) (sym (tally-front (length σ) mark))
  where
    vs : List Store
    vs = variants (later mark) σ

    t : ℕ
    t = tally (length σ) (later mark)

    go : (b : Bool) → length vs ≡ 2 ^ t → length (cond b (map (λ (τ : Store). 0 ∷ τ) vs ++ map (λ (τ : Store). 1 ∷ τ) vs) (map (λ (τ : Store). v ∷ τ) vs)) ≡ 2 ^ (cond b 1 0 + t)
    go true e =
        length-append (map (λ (τ : Store). 0 ∷ τ) vs) (map (λ (τ : Store). 1 ∷ τ) vs)
        ∙ ap₂ ◌+◌ (length-map vs (λ (τ : Store). 0 ∷ τ) ∙ e) (length-map vs (λ (τ : Store). 1 ∷ τ) ∙ e)
        ∙ sym (pow-add 2 1 t ∙ omega arith)
    go false e = length-map vs (λ (τ : Store). v ∷ τ) ∙ e ∙ ap (λ (k : ℕ). 2 ^ k) (sym (zero-add t))

some_cons : (w : ℕ) (τ : Store) (vs : List Store) → some (same_bits (w ∷ τ)) (map (λ (ρ : Store). w ∷ ρ) vs) ≡ some (same_bits τ) vs
some_cons w τ [] = refl
some_cons w τ (ρ ∷ vs) = ap₂ ◌||◌ (ap (λ (b : Bool). b && same_bits τ ρ) (eq-eqb w w refl)) (some_cons w τ vs)

member : (mark : ℕ → Bool) (σ τ : Store) → Fit mark σ τ → some (same_bits τ) (variants mark σ) ≡ true
member mark [] [] h = refl
member mark [] (w ∷ τ) h = absurd h
member mark (v ∷ σ) [] h = absurd h
member mark (v ∷ σ) (w ∷ τ) h = go (mark 0) w h.0 (member (later mark) σ τ h.1)
  where
    vs : List Store
    vs = variants (later mark) σ

    zs : List Store
    zs = map (λ (ρ : Store). 0 ∷ ρ) vs

    os : List Store
    os = map (λ (ρ : Store). 1 ∷ ρ) vs

    go : (b : Bool) (w : ℕ) → Slot b v w → some (same_bits τ) vs ≡ true → some (same_bits (w ∷ τ)) (cond b (zs ++ os) (map (λ (ρ : Store). v ∷ ρ) vs)) ≡ true
    go true zero l r = some_append (same_bits (0 ∷ τ)) zs os ∙ ap (λ (b : Bool). b || some (same_bits (0 ∷ τ)) os) (some_cons 0 τ vs ∙ r)
    go true (suc zero) l r = some_append (same_bits (1 ∷ τ)) zs os ∙ or_right (some (same_bits (1 ∷ τ)) zs) (some (same_bits (1 ∷ τ)) os) (some_cons 1 τ vs ∙ r)
    go true (suc (suc w)) l r = absurd (omega arith)
    go false w e r = ap (λ (x : ℕ). some (same_bits (x ∷ τ)) (map (λ (ρ : Store). v ∷ ρ) vs)) e ∙ some_cons v τ vs ∙ r

pub fit_start : (mark : ℕ → Bool) (σ : Store) → All (λ (v : ℕ). v < 2) σ → Fit mark σ σ
fit_start mark [] h = tt
fit_start mark (v ∷ σ) h = (go (mark 0), fit_start (later mark) σ h.1)
  where
    go : (b : Bool) → Slot b v v
    go true = h.0
    go false = refl

fit_set : (mark : ℕ → Bool) (σ τ : Store) (i o : ℕ) → Fit mark σ τ → mark i ≡ true → o < 2 → Fit mark σ (set τ i o)
fit_set mark [] [] i o h e b = tt
fit_set mark [] (w ∷ τ) i o h e b = absurd h
fit_set mark (v ∷ σ) [] i o h e b = absurd h
fit_set mark (v ∷ σ) (w ∷ τ) zero o h e b = (subst (λ (x : Bool). Slot x v o) (sym e) b, h.1)
fit_set mark (v ∷ σ) (w ∷ τ) (suc i) o h e b = (h.0, fit_set (later mark) σ τ i o h.1 e b)

-- its length is kept, and its bits are bits
fit_bits : (mark : ℕ → Bool) (σ τ : Store) → Fit mark σ τ → All (λ (v : ℕ). v < 2) σ → Word (length σ) τ
fit_bits mark [] [] h k = (refl, tt)
fit_bits mark [] (w ∷ τ) h k = absurd h
fit_bits mark (v ∷ σ) [] h k = absurd h
fit_bits mark (v ∷ σ) (w ∷ τ) h k = let (l, m) = fit_bits (later mark) σ τ h.1 k.1 in (ap suc l, (go (mark 0) h.0, m))
  where
    go : (b : Bool) → Slot b v w → w < 2
    go true e = e
    go false e = omega (arith, k.0)

module _ (mark : ℕ → Bool) (n : ℕ) (σ : Store) where
  pub fit_write : (τ : Store) (is : List ℕ) (o : ℕ) → Fit mark σ τ → All (λ (i : ℕ). mark i ≡ true) is → o < 2 → Fit mark σ (write is o τ)
  fit_write τ [] o h m b = h
  fit_write τ (i ∷ is) o h m b = fit_set mark σ (write is o τ) i o (fit_write τ is o h m.1 b) m.0 b

  abbrev Out : Operator → Type 0
  Out o = o.out < 2

  abbrev Fits : Branch → Type 0
  Fits b = Fit mark σ b.store

  outs : (g : Gate) → All Out (operators g)
  outs g = go (eqb g.kind measure) (eqb g.kind reset) _ _ _ (omega arith, (omega arith, tt)) (omega arith, (omega arith, tt)) (omega arith, tt)
    where
      go : (x y : Bool) (ps qs us : List Operator) → All Out ps → All Out qs → All Out us → All Out (cond x ps (cond y qs us))
      go true y ps qs us p q u = p
      go false true ps qs us p q u = q
      go false false ps qs us p q u = u

  fit_run : (gs : List Gate) → All (λ (g : Gate). All (λ (i : ℕ). mark i ≡ true) (bits g)) gs → (bs : List Branch) → All Fits bs → All Fits (foldl (gate_step n) bs gs)
  fit_run [] m bs h = h
  fit_run (g ∷ gs) m bs h =
      fit_run gs m.1 (gate_step n bs g)
      (all_concat Fits Fits (λ (b : Branch). map (apply n b) (operators_of n g)) (λ b f. all_map (Keeping b) Fits (apply n b) (λ K k. k) (operators_of n g) (keeping g m.0 b f)) bs h)
    where
      Keeping : Branch → KrausOperator → Type 0
      Keeping b K = Fit mark σ (K.writes b.store)

      keeping : (g : Gate) → All (λ (i : ℕ). mark i ≡ true) (bits g) → (b : Branch) → Fits b → All (Keeping b) (operators_of n g)
      keeping g k b f = all_map Out (Keeping b) (kraus_operator n g) (λ o x. fit_write b.store (bits g) o.out f k x) (operators g) (outs g)

-- ---- the marks are the bits that some of a list writes
pub all-written : {A : Type 0} (bits : A → List ℕ) (gs us : List A) → ((i : ℕ) → some (λ (g : A). elem i (bits g)) gs ≡ true → some (λ (g : A). elem i (bits g)) us ≡ true)
    → All (λ (g : A). All (λ (i : ℕ). some (λ (g : A). elem i (bits g)) us ≡ true) (bits g)) gs
all-written bits [] us h = tt
all-written {A} bits (g ∷ gs) us h = (
  all_imp (λ (i : ℕ). elem i (bits g) ≡ true) (λ (i : ℕ). some (λ (g : A). elem i (bits g)) us ≡ true) (bits g)
      (λ i e. h i (ap (λ (b : Bool). b || some (λ (g : A). elem i (bits g)) gs) e)) (elem-all (bits g) (bits g) (λ i e. e)),
  all-written bits gs us (λ i e. h i (or_right (elem i (bits g)) (some (λ (g : A). elem i (bits g)) gs) e)),
)

marks-tally : {A : Type 0} (mark : A → ℕ → Bool) (n : ℕ) (xs : List A) → marks n mark xs ≡ tally n (λ (i : ℕ). some (λ (a : A). mark a i) xs)
unfolding tally
marks-tally mark zero xs = refl
marks-tally {A} mark (suc n) xs = ap (λ (x : ℕ). x + cond (some (λ (a : A). mark a n) xs) 1 0) (marks-tally mark n xs)

-- ---- branches whose stores differ from the initial one in the bits alone that some of xs marks
module _ {A : Type 0} (mark : A → ℕ → Bool) (xs : List A) (σ : Store) (given : All (λ (v : ℕ). v < 2) σ) where
  abbrev pub marked : ℕ → Bool
  marked i = some (λ (a : A). mark a i) xs

  pub record Marked (bs : List Branch) : Type 0 where
    pub fits : All (λ (b : Branch). Fit marked σ b.store) bs

  module _ (bs : List Branch) (h : Marked bs) where
    pub marked-bits : All (λ (b : Branch). Word (length σ) b.store) bs
    marked-bits = all_imp (λ (b : Branch). Fit marked σ b.store) _ bs (λ b f. fit_bits marked σ b.store f given) h.fits

    stores_fit : All (Fit marked σ) (stores (survivors bs))
    stores_fit = stores-all (Fit marked σ) (survivors bs) (filter_all (λ (b : Branch). Fit marked σ b.store) alive bs h.fits)

    -- each store has as many bits as the initial one
    pub marked-stores : All (Word (length σ)) (stores (survivors bs))
    marked-stores = all_imp (Fit marked σ) (Word (length σ)) (stores (survivors bs)) (λ τ f. fit_bits marked σ τ f given) stores_fit

    pub marked-count : (s : ℕ) → length bs ≡ 2 ^ s → length (stores (survivors bs)) ≤ 2 ^ min s (marks (length σ) mark xs)
    marked-count s e = go (leb s t) refl
      where
        t : ℕ
        t = marks (length σ) mark xs

        by-branches : length (stores (survivors bs)) ≤ 2 ^ s
        by-branches = omega (arith, stores-length (survivors bs), filter_length alive bs)

        by-marks : length (stores (survivors bs)) ≤ 2 ^ t
        by-marks =
            subst (λ (k : ℕ). length (stores (survivors bs)) ≤ k) (variants_length marked σ ∙ ap (λ (k : ℕ). 2 ^ k) (sym (marks-tally mark (length σ) xs)))
            (fewer (variants marked σ) (stores (survivors bs)) (stores-distinct (survivors bs))
            (all_imp (Fit marked σ) (λ (τ : Store). some (same_bits τ) (variants marked σ) ≡ true) (stores (survivors bs)) (member marked σ) stores_fit))

        go : (b : Bool) → leb s t ≡ b → length (stores (survivors bs)) ≤ 2 ^ min s t
        go true e = let f : min s t ≡ s = omega (arith, leb-true s t e) in rw f by-branches
        go false e = let f : min s t ≡ t = omega (arith, leb-false s t e) in rw f by-marks

-- ---- of a circuit
module _ (n : ℕ) (σ : Store) (gs : List Gate) (given : All (λ (v : ℕ). v < 2) σ) where
  branches-marked : Marked writes gs σ given (branches n σ gs)
  branches-marked = record { fits = fit_run (marked writes gs σ given) n σ gs (all-written bits gs gs (λ i e. e)) (start n σ) (fit_start (marked writes gs σ given) σ given, tt) }

  pub branches-bits : All (λ (b : Branch). Word (length σ) b.store) (branches n σ gs)
  branches-bits = marked-bits writes gs σ given (branches n σ gs) branches-marked

  pub stores-bits : All (Word (length σ)) (stores (survivors (branches n σ gs)))
  stores-bits = marked-stores writes gs σ given (branches n σ gs) branches-marked

  pub store-count : length (stores (survivors (branches n σ gs))) ≤ 2 ^ min (total splits gs) (marks (length σ) writes gs)
  store-count = marked-count writes gs σ given (branches n σ gs) branches-marked (total splits gs) (branch_count n σ gs)
