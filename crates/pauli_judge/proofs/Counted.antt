-- What one more operation in front adds to the counts of a program.
use mathlib.Core.Path.{◌≡◌, refl, sym, ap, ◌∙◌, subst}
use mathlib.Core.Bool.{Bool, true, false, cond, not, ◌&&◌, ◌||◌, or-false}
use mathlib.Core.List.{List, [], ◌∷◌, map}
use Prim.Native.Nat.{ℕ, suc, ◌+◌, ◌-◌, ◌*◌, ◌/◌, ◌≤◌, ◌<◌, max}
use native.Mathlib.Nat.{zero-add}
use native.Mathlib.Omega.{arith}
use lib.Dec.{eqb, ltb}
use lib.ListN.{length, length-map}
use Rattle.algebra.specs.Lists.{some, total, marks}
use Rattle.gate.specs.Gate.{Gate, gate_size, gate_at, gates_from, gates_of}
use Rattle.gate.proofs.Listed.{gates-more, gates-none, gates-length}
use Rattle.circuit.proofs.Counts.{marks_nil, marks_skip, marks-one}
use Rattle.pauli_nodes.specs.Operations.{Operation, rotate, rotate_if, measure, axis, bits, splits, weight}
use Rattle.pauli_words.specs.Words.{operation_of, operations_of}
use Rattle.pauli_words.proofs.Forms.{one_bit}
use Rattle.pauli_judge.specs.Footprint.{writes, named, program_footprint}
use Rattle.pauli_judge.specs.Inner.Newly.{newly}

some_map : (b : ℕ) (gs : List Gate) → some (λ (o : Operation). writes o b) (map operation_of gs) ≡ some (λ (g : Gate). writes (operation_of g) b) gs
some_map b [] = refl
some_map b (g ∷ gs) = ap (λ (t : Bool). writes (operation_of g) b || t) (some_map b gs)

marks-more : (m : ℕ) (o : Operation) (gs : List Gate) → length (bits o) ≤ 1 → marks m writes (o ∷ map operation_of gs) ≡ newly m o gs + marks m writes (map operation_of gs)
marks-more m (rotate a k) gs l = marks_skip writes (rotate a k) (map operation_of gs) (λ i. refl) m ∙ sym (zero-add (marks m writes (map operation_of gs)))
marks-more m (rotate_if a k o) gs l = marks_skip writes (rotate_if a k o) (map operation_of gs) (λ i. refl) m ∙ sym (zero-add (marks m writes (map operation_of gs)))
marks-more m (measure a []) gs l = marks_skip writes (measure a []) (map operation_of gs) (λ i. refl) m ∙ sym (zero-add (marks m writes (map operation_of gs)))
marks-more m (measure a (b ∷ [])) gs l =
    marks-one writes (measure a (b ∷ [])) (map operation_of gs) b (λ i. or-false (eqb i b)) m
    ∙ ap (λ (t : Bool). cond (ltb b m && not t) 1 0 + marks m writes (map operation_of gs)) (some_map b gs)
marks-more m (measure a (b ∷ c ∷ bs)) gs l = absurd (omega arith)

newly-one : (m : ℕ) (o : Operation) (gs : List Gate) → newly m o gs ≤ 1
newly-one m (rotate a k) gs = omega arith
newly-one m (rotate_if a k o) gs = omega arith
newly-one m (measure a []) gs = omega arith
newly-one m (measure a (b ∷ bs)) gs = go (ltb b m && not (some (λ (g : Gate). writes (operation_of g) b) gs))
  where
    go : (t : Bool) → cond t 1 0 ≤ 1
    go true = omega arith
    go false = omega arith

-- ---- operation i of a list of words, and those after it
module _ (ws : List ℕ) where
  abbrev from : ℕ → List Gate
  from i = gates_from ws i (length ws / gate_size - i)

  abbrev left : ℕ → List Operation
  left i = map operation_of (gates_from ws i (length ws / gate_size - i))

  abbrev count : ℕ
  count = length ws / gate_size

  pub written-more : (bit i : ℕ) (t : Bool) → i < length ws / gate_size → t ≡ writes (operation_of (gate_at ws (i * gate_size))) bit
      → some (λ (g : Gate). writes (operation_of g) bit) (gates_from ws i (length ws / gate_size - i))
      ≡ t || some (λ (g : Gate). writes (operation_of g) bit) (gates_from ws (i + 1) (length ws / gate_size - (i + 1)))
  written-more bit i t l e =
      ap (some (λ (g : Gate). writes (operation_of g) bit)) (gates-more ws count i l) ∙ ap (λ (t : Bool). t || some (λ (g : Gate). writes (operation_of g) bit) (from (i + 1))) (sym e)

  -- what is counted of the operations before operation i, and what is left to count
  pub record Counted (n m i N s t w : ℕ) : Type 0 where
    pub below : i ≤ length ws / gate_size
    pub few : (s ≤ i) × (t ≤ i) × (w ≤ 2 * i)
    pub naming : max N (named n (left i)) ≡ named n (operations_of ws)
    pub splitting : s + total splits (left i) ≡ total splits (operations_of ws)
    pub written : t + marks m writes (left i) ≡ marks m writes (operations_of ws)
    pub heavy : w + total weight (left i) ≡ total weight (operations_of ws)

  add-front : (a b c d e : ℕ) → a + b ≡ c → b ≡ d + e → a + d + e ≡ c
  add-front a b c d e p q = omega arith

  max-front : (a b c d e : ℕ) → max a b ≡ c → b ≡ max d e → max (max a d) e ≡ c
  max-front a b c d e p q = omega arith

  module _ {n m i N s t w : ℕ} (h : Counted n m i N s t w) (l : i < length ws / gate_size) {o : Operation} (e : o ≡ operation_of (gate_at ws (i * gate_size))) where
    pub counted-more : {k a b c d : ℕ} → d ≡ (axis o).node → k ≡ max N (d + 1) → (a ≡ splits o) × (a ≤ 1) → b ≡ newly m o (gates_from ws (i + 1) (length ws / gate_size - (i + 1)))
        → (c ≡ weight o) × (c ≤ 2) → Counted n m (i + 1) k (s + a) (t + b) (w + c)
    counted-more {k} {a} {b} {c} {d} f p q r v =
        let more : left i ≡ o ∷ left (i + 1) = ap (map operation_of) (gates-more ws count i l) ∙ ap (λ (x : Operation). x ∷ left (i + 1)) (sym e) in
        let x : (f : Operation → ℕ) → total f (left i) ≡ f o + total f (left (i + 1)) = λ f. ap (total f) more in
        let one : length (bits o) ≤ 1 = subst (λ (o : Operation). length (bits o) ≤ 1) (sym e) (one_bit (gate_at ws (i * gate_size))) in
        let y : marks m writes (left i) ≡ newly m o (from (i + 1)) + marks m writes (left (i + 1)) = ap (marks m writes) more ∙ marks-more m o (from (i + 1)) one in
        let next : suc (axis o).node ≡ d + 1 = omega arith in
        let top : named n (left i) ≡ max (d + 1) (named n (left (i + 1))) = ap (named n) more ∙ ap (λ (j : ℕ). max j (named n (left (i + 1)))) next in
        let u : b ≤ 1 = rw r (newly-one m o (from (i + 1))) in
        record {
          below = omega arith;
          few = omega (arith, h.few, q.1, v.1);
          naming = ap (λ (j : ℕ). max j (named n (left (i + 1)))) p ∙ max-front N (named n (left i)) _ (d + 1) _ h.naming top;
          splitting = add-front s (total splits (left i)) _ a _ h.splitting (rw q.0 (x splits));
          written = add-front t (marks m writes (left i)) _ b _ h.written (rw r y);
          heavy = add-front w (total weight (left i)) _ c _ h.heavy (rw v.0 (x weight));
        }

  pub counted-all : {n m i N s t w : ℕ} → Counted n m i N s t w → length ws / gate_size ≤ i → (k f : ℕ) → f ≡ cond (eqb n 0) 0 (1 + 2 * n) → k ≡ max N f
      → record { nodes = k; counts = record { gates = length ws / gate_size + 2 * n; splits = s; written = t; weight = w } } ≡ program_footprint n m (operations_of ws)
  counted-all {n} {m} {i} {N} {s} {t} {w} h l k f p q =
      let e : left i ≡ [] = ap (map operation_of) (gates-none ws count i l) in
      let z : (k : ℕ) → k + 0 ≡ k = λ k. omega arith in
      λ j. record {
        nodes = (q ∙ ap (max N) p ∙ ap (λ (os : List Operation). max N (named n os)) (sym e) ∙ h.naming) j;
        counts = record {
          gates = sym (length-map (gates_of ws) operation_of ∙ gates-length ws 0 count) j + 2 * n;
          splits = (sym (z s) ∙ ap (λ (os : List Operation). s + total splits os) (sym e) ∙ h.splitting) j;
          written = (sym (z t) ∙ ap (λ (k : ℕ). t + k) (sym (marks_nil writes m)) ∙ ap (λ (os : List Operation). t + marks m writes os) (sym e) ∙ h.written) j;
          weight = (sym (z w) ∙ ap (λ (os : List Operation). w + total weight os) (sym e) ∙ h.heavy) j;
        };
      }
