-- What one more gate in front adds to the counts of a gate list.
use mathlib.Core.Path.{◌≡◌, refl, sym, ap, ap₂, ◌∙◌}
use mathlib.Core.Bool.{Bool, true, false, cond, not, ◌&&◌, ◌||◌, or-false}
use mathlib.Core.List.{List, [], ◌∷◌}
use Prim.Native.Nat.{ℕ, zero, suc, ◌+◌, ◌-◌, ◌*◌, ◌/◌, ◌≤◌, ◌<◌}
use native.Mathlib.Omega.{arith}
use lib.Dec.{eqb, ltb}
use lib.ListN.{length, get_or, take, drop}
use Rattle.std.proofs.Common.{length-drop}
use Rattle.std.proofs.lemmas.List.{get_or-drop, take_all}
use borrow.Author.Tests.{eqb-true, eqb-false, lt-ltb, le-ltb}
use Rattle.algebra.specs.Lists.{some, total, marks}
use Rattle.algebra.proofs.Tests.{or_no, leb_same}
use Rattle.gate.specs.Gate.{Gate, gate, gate_size, measure, reset, elem, gate_at, gates_from, gates_of, splits, weight}
use Rattle.gate.proofs.Gate.{elem_in}
use Rattle.gate.proofs.Listed.{gates-more, gates-none, gates-length}
use Rattle.circuit.specs.Footprint.{writes, footprint_of}
use Rattle.circuit.specs.Inner.Footprint.{gates_behind, newly}

-- ---- marks
one_more : (s : Bool) (k : ℕ) → 0 + k + 1 ≡ cond (not s) 1 0 + (k + cond s 1 0)
one_more true k = omega arith
one_more false k = omega arith

pub marks_nil : {A : Type 0} (f : A → ℕ → Bool) (m : ℕ) → marks m f [] ≡ 0
marks_nil f zero = refl
marks_nil f (suc n) = ap (λ (k : ℕ). k + 0) (marks_nil f n)

module _ {A : Type 0} (f : A → ℕ → Bool) (x : A) (xs : List A) where
  abbrev had : ℕ → Bool
  had i = some (λ (a : A). f a i) xs

  pub marks_skip : ((i : ℕ) → f x i ≡ false) → (m : ℕ) → marks m f (x ∷ xs) ≡ marks m f xs
  marks_skip h zero = refl
  marks_skip h (suc n) = ap₂ (λ (k : ℕ) (t : Bool). k + cond (t || had n) 1 0) (marks_skip h n) (h n)

  -- an element that marks b alone
  pub marks-one : (b : ℕ) → ((i : ℕ) → f x i ≡ eqb i b) → (m : ℕ) → marks m f (x ∷ xs) ≡ cond (ltb b m && not (had b)) 1 0 + marks m f xs
  marks-one b h zero = rw (le-ltb b 0 (omega arith))
  marks-one b h (suc n) = go (eqb n b) refl (marks-one b h n)
    where
      go : (t : Bool) → eqb n b ≡ t → marks n f (x ∷ xs) ≡ cond (ltb b n && not (had b)) 1 0 + marks n f xs
          → marks n f (x ∷ xs) + cond (f x n || had n) 1 0 ≡ cond (ltb b (suc n) && not (had b)) 1 0 + (marks n f xs + cond (had n) 1 0)
      go true e r =
          let q : n ≡ b = eqb-true n b e in
          ap₂ (λ (k : ℕ) (t : Bool). k + cond (t || had n) 1 0) (r ∙ ap (λ (t : Bool). cond (t && not (had b)) 1 0 + marks n f xs) (le-ltb b n (omega arith))) (h n ∙ e)
          ∙ one_more (had n) (marks n f xs)
          ∙ ap₂ (λ (s t : Bool). cond (t && not s) 1 0 + (marks n f xs + cond (had n) 1 0)) (ap had q) (sym (lt-ltb b (suc n) (omega arith)))
      go false e r =
          let ne : n ≡ b → ⊥ = eqb-false n b e in
          let s : (c k d : ℕ) → c + k + d ≡ c + (k + d) = λ c k d. omega arith in
          ap₂ (λ (k : ℕ) (t : Bool). k + cond (t || had n) 1 0) r (h n ∙ e)
          ∙ s (cond (ltb b n && not (had b)) 1 0) (marks n f xs) (cond (had n) 1 0)
          ∙ ap (λ (t : Bool). cond (t && not (had b)) 1 0 + (marks n f xs + cond (had n) 1 0))
          (leb_same (suc b) n (suc b) (suc n) (λ l. omega arith) (λ l. omega arith))

pub marks-more : (m : ℕ) (g : Gate) (gs : List Gate) → marks m writes (g ∷ gs) ≡ newly m g gs + marks m writes gs
marks-more m g gs = go (eqb g.kind measure) refl
  where
    go : (t : Bool) → eqb g.kind measure ≡ t → marks m writes (g ∷ gs) ≡ newly m g gs + marks m writes gs
    go true e = marks-one writes g gs g.b (λ i. rw e (or-false (eqb i g.b))) m ∙ rw e
    go false e = marks_skip writes g gs (λ i. rw e) m ∙ rw e (omega arith)

-- ---- each gate counts for at most 1
at_most_one : (b : Bool) → cond b 1 0 ≤ 1
at_most_one true = omega arith
at_most_one false = omega arith

pub splits-one : (g : Gate) → splits g ≤ 1
splits-one g = at_most_one (elem g.kind (measure ∷ reset ∷ []))

pub weight-one : (g : Gate) → weight g ≤ 1
weight-one g = at_most_one (elem g.kind (0 ∷ 16 ∷ 25 ∷ []))

pub newly-one : (m : ℕ) (g : Gate) (gs : List Gate) → newly m g gs ≤ 1
newly-one m g gs = at_most_one (eqb g.kind measure && (ltb g.b m && not (some (λ (h : Gate). writes h g.b) gs)))

-- ---- a gate that weighs does not split, and one that does not split writes no bit
none-counted : (b : Bool) → ◌≡◌ {A = ℕ} (cond b 1 0) 0 → b ≡ false
none-counted true e = absurd (omega arith)
none-counted false e = refl

pub heavy-whole : (g : Gate) → (weight g ≡ 0 → ⊥) → splits g ≡ 0
heavy-whole g h = go (elem g.kind (0 ∷ 16 ∷ 25 ∷ [])) refl
  where
    go : (b : Bool) → elem g.kind (0 ∷ 16 ∷ 25 ∷ []) ≡ b → splits g ≡ 0
    go true e = elem_in (λ (m : ℕ). ◌≡◌ {A = ℕ} (cond (elem m (measure ∷ reset ∷ [])) 1 0) 0) (0 ∷ 16 ∷ 25 ∷ []) (refl, (refl, (refl, tt))) g.kind e
    go false e = absurd (h (ap (λ (b : Bool). cond b 1 0) e))

pub whole-unwritten : (m : ℕ) (g : Gate) (gs : List Gate) → splits g ≡ 0 → newly m g gs ≡ 0
whole-unwritten m g gs e =
    ap (λ (t : Bool). cond (t && (ltb g.b m && not (some (λ (h : Gate). writes h g.b) gs))) 1 0)
    (or_no (eqb g.kind measure) (eqb g.kind reset || false) (none-counted (elem g.kind (measure ∷ reset ∷ [])) e)).0

-- ---- the gates behind the first i
gates-dropped : (ws : List ℕ) (i j n : ℕ) → gates_from (drop (i * gate_size) ws) j n ≡ gates_from ws (i + j) n
gates-dropped ws i j zero = refl
gates-dropped ws i j (suc n) =
    let word : (k : ℕ) → get_or (drop (i * gate_size) ws) (j * gate_size + k) 0 ≡ get_or ws ((i + j) * gate_size + k) 0 =
    λ k. get_or-drop (i * gate_size) ws (j * gate_size + k) 0 ∙ ap (λ (x : ℕ). get_or ws x 0) (omega arith) in
    let first : get_or (drop (i * gate_size) ws) (j * gate_size) 0 ≡ get_or ws ((i + j) * gate_size) 0 =
    get_or-drop (i * gate_size) ws (j * gate_size) 0 ∙ ap (λ (x : ℕ). get_or ws x 0) (omega arith) in
    let e : i + suc j ≡ suc (i + j) = omega arith in
    λ k. gate (first k) (word 1 k) (word 2 k) (word 3 k) (word 4 k) ∷ (gates-dropped ws i (suc j) n ∙ ap (λ (x : ℕ). gates_from ws x n) e) k

pub gates-behind : (ws : List ℕ) (i : ℕ) → gates_of (take (length ws - i * gate_size) (drop (i * gate_size) ws)) ≡ gates_behind ws i
gates-behind ws i =
    let long = length-drop (i * gate_size) ws in
    let e : length (drop (i * gate_size) ws) / gate_size ≡ length ws / gate_size - i = omega (arith, long) in
    let f : i + 0 ≡ i = omega arith in
    ap gates_of (take_all (length ws - i * gate_size) (drop (i * gate_size) ws) (omega (arith, long)))
    ∙ gates-dropped ws i 0 (length (drop (i * gate_size) ws) / gate_size) ∙ (λ k. gates_from ws (f k) (e k))

-- ---- gate i of a list of words, and those after it
module _ (ws : List ℕ) where
  abbrev from : ℕ → List Gate
  from = gates_behind ws

  abbrev count : ℕ
  count = length ws / gate_size

  pub written-more : (bit i : ℕ) (g : Gate) (t : Bool) → i < count → g ≡ gate_at ws (i * gate_size) → t ≡ writes g bit
      → some (λ (h : Gate). writes h bit) (from i) ≡ t || some (λ (h : Gate). writes h bit) (from (i + 1))
  written-more bit i g t l e f =
      ap (some (λ (h : Gate). writes h bit)) (gates-more ws count i l)
      ∙ ap (λ (t : Bool). t || some (λ (h : Gate). writes h bit) (from (i + 1))) (ap (λ (h : Gate). writes h bit) (sym e) ∙ sym f)

  -- what is counted of the gates before gate i, and what is left to count
  pub record Counted (m i s t w : ℕ) : Type 0 where
    pub below : i ≤ count
    pub few : (s ≤ i) × (t ≤ i) × (w ≤ i)
    pub splitting : s + total splits (from i) ≡ total splits (gates_of ws)
    pub written : t + marks m writes (from i) ≡ marks m writes (gates_of ws)
    pub heavy : w + total weight (from i) ≡ total weight (gates_of ws)

  pub counted_none : (m : ℕ) → Counted m 0 0 0 0
  counted_none m =
      let e : count - 0 ≡ count = omega arith in
      let z : (k : ℕ) → 0 + k ≡ k = λ k. omega arith in
      record {
        below = omega arith;
        few = omega arith;
        splitting = z _ ∙ rw e;
        written = z _ ∙ rw e;
        heavy = z _ ∙ rw e;
      }

  add-front : (a b c d e f : ℕ) → a + b ≡ c → b ≡ d + e → f ≡ a + d → f + e ≡ c
  add-front a b c d e f p q r = omega arith

  pub counted-more : {m i s t w : ℕ} → Counted m i s t w → i < count → (g : Gate) → g ≡ gate_at ws (i * gate_size)
      → (a b c : ℕ) → a ≡ s + splits g → b ≡ t + newly m g (gates_behind ws (i + 1)) → c ≡ w + weight g → Counted m (i + 1) a b c
  counted-more {m} {i} {s} {t} {w} k l g e a b c p q r =
      let x : (v : Gate → ℕ) → total v (from i) ≡ v g + total v (from (i + 1)) = λ v. ap (total v) (gates-more ws count i l) ∙ rw e in
      let y : marks m writes (from i) ≡ newly m g (from (i + 1)) + marks m writes (from (i + 1)) =
      ap (marks m writes) (gates-more ws count i l) ∙ marks-more m (gate_at ws (i * gate_size)) (from (i + 1)) ∙ rw e in
      let u = splits-one g in
      let v = newly-one m g (from (i + 1)) in
      let o = weight-one g in
      record {
        below = omega arith;
        few = omega (arith, k.few);
        splitting = add-front s (total splits (from i)) _ (splits g) _ a k.splitting (x splits) p;
        written = add-front t (marks m writes (from i)) _ (newly m g (from (i + 1))) _ b k.written y q;
        heavy = add-front w (total weight (from i)) _ (weight g) _ c k.heavy (x weight) r;
      }

  pub counted-all : {m i s t w : ℕ} → Counted m i s t w → count ≤ i → record { gates = count; splits = s; written = t; weight = w } ≡ footprint_of m (gates_of ws)
  counted-all {m} {i} {s} {t} {w} k l =
      let e : from i ≡ [] = gates-none ws count i l in
      let z : (k : ℕ) → k + 0 ≡ k = λ k. omega arith in
      λ j. record {
        gates = sym (gates-length ws 0 count) j;
        splits = (sym (z s) ∙ ap (λ (l : List Gate). s + total splits l) (sym e) ∙ k.splitting) j;
        written = (sym (z t) ∙ ap (λ (k : ℕ). t + k) (sym (marks_nil writes m)) ∙ ap (λ (l : List Gate). t + marks m writes l) (sym e) ∙ k.written) j;
        weight = (sym (z w) ∙ ap (λ (l : List Gate). w + total weight l) (sym e) ∙ k.heavy) j;
      }
