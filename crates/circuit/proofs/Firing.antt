-- The loops over layers: ends that close, the gates before a gate, and the first gate that clashes.
use Rattle.std.specs.Prelude.{Ok, Err}
use mathlib.Core.Path.{◌≡◌, refl, sym, ap, ◌∙◌}
use mathlib.Core.Bool.{Bool, true, false, cond, not, ◌&&◌, ◌||◌}
use mathlib.Core.List.{List, [], ◌∷◌}
use Prim.Native.Nat.{ℕ, zero, suc, ◌+◌, ◌-◌, ◌*◌, ◌/◌, ◌≤◌, ◌<◌}
use native.Mathlib.Decide.{dec_lt}
use native.Mathlib.Numerals.{add-one}
use native.Mathlib.Omega.{arith}
use lib.Dec.{eqb, leb, ltb}
use lib.ListN.{length, get_or, drop, drop_of_length-le}
use lib.Seq.{drop-cons}
use borrow.Author.Tests.{le-leb, lt-leb, eq-eqb, ne_eqb, eqb-true, ltb-true}
use Rattle.algebra.specs.Lists.{some}
use Rattle.algebra.proofs.Tests.{and_split}
use Rattle.verdict.specs.declared.Refusal.{Refusal}
use Rattle.verdict.specs.Questions.{Verdict}
use Rattle.verdict.specs.declared.Refusal.TheVariants.{BadLayers, ClashAt}
use Rattle.verdict.specs.Questions.{first_no}
use Rattle.gate.specs.Gate.{Gate, gate_size, gate_at, gates_from, gates_of}
use Rattle.gate.proofs.Listed.{gates-length}
use Rattle.circuit.specs.Layers.{closing, layer_of, Fired, fired, clash, clash_questions, layer_questions}
use Rattle.circuit.specs.Inner.Firing.{any_from, first_clash, sharing, shares_from, clashes_at}

-- ---- ends
module _ (count : ℕ) where
  pub closing-more : (last : ℕ) (s : List ℕ) (i : ℕ) → i < length s → closing count last (drop i s) ≡ ltb last (get_or s i 0) && closing count (get_or s i 0) (drop (i + 1) s)
  closing-more last s i l = rw (add-one i, drop-cons s i 0)

  pub closing-none : (last : ℕ) (s : List ℕ) (i : ℕ) → length s ≤ i → closing count last (drop i s) ≡ eqb last count
  closing-none last s i l = ap (closing count last) (drop_of_length-le s l)

  pub closing_bound : (last : ℕ) (es : List ℕ) → closing count last es ≡ true → last ≤ count
  closing_bound last [] e = omega (arith, eqb-true last count e)
  closing_bound last (e ∷ es) h = let (p, q) = and_split (ltb last e) (closing count e es) h in omega (arith, ltb-true last e p, closing_bound e es q)

  -- no end lies at or before the last one passed
  pub none_passed : (last : ℕ) (es : List ℕ) → closing count last es ≡ true → (j : ℕ) → j ≤ last → layer_of es j ≡ 0
  none_passed last [] h j l = refl
  none_passed last (e ∷ es) h j l =
      let (p, q) = and_split (ltb last e) (closing count e es) h in
      let k : last < e = ltb-true last e p in
      let r : leb e j ≡ false = lt-leb e j (omega arith) in
      (λ i. cond (r i) 1 0 + none_passed e es q j (omega arith) i)

-- ---- the gates before a gate
module _ (p : ℕ → Bool) where
  -- one more at which it does not hold
  pub any_more : (from j : ℕ) → from ≤ j → any_from from (j - from) p ≡ false → p j ≡ false → any_from from (j + 1 - from) p ≡ false
  any_more from j l h k =
      let e : j + 1 - from ≡ suc (j - from) = omega arith in
      let f : from + (j - from) ≡ j = omega arith in
      ap (λ (n : ℕ). any_from from n p) e ∙ (λ i. (ap p f ∙ k) i || h i)

  any_at : (from n k : ℕ) → k < n → p (from + k) ≡ true → any_from from n p ≡ true
  any_at from zero k l h = absurd (omega arith)
  any_at from (suc n) k l h = go (dec_lt k n) (λ m. any_at from n k m h)
    where
      or-true : (b : Bool) → b || true ≡ true
      or-true true = refl
      or-true false = refl

      go : Dec (k < n) → (k < n → any_from from n p ≡ true) → any_from from (suc n) p ≡ true
      go (yes m) r = ap (λ (b : Bool). p (from + n) || b) (r m) ∙ or-true (p (from + n))
      go (no m) r = let e : k ≡ n = omega arith in ap (λ (b : Bool). b || any_from from n p) (ap (λ (k : ℕ). p (from + k)) (sym e) ∙ h)

  -- one at which it holds
  pub any_found : (from j end : ℕ) → from ≤ j → j < end → p j ≡ true → any_from from (end - from) p ≡ true
  any_found from j end l m h = let e : from + (j - from) ≡ j = omega arith in any_at from (end - from) (j - from) (omega arith) (ap p e ∙ h)

  any_false : (n : ℕ) → ((j : ℕ) → j < n → p j ≡ false) → any_from 0 n p ≡ false
  any_false zero h = refl
  any_false (suc n) h = let e : 0 + n ≡ n = omega arith in (λ i. (ap p e ∙ h n (omega arith)) i || any_false n (λ j l. h j (omega arith)) i)

-- only those from `start` on count
any_cut : (a b : ℕ → Bool) (start n : ℕ) → ((j : ℕ) → j < start → a j ≡ false) → ((j : ℕ) → start ≤ j → j < start + n → a j ≡ true)
    → any_from 0 (start + n) (λ (j : ℕ). a j && b j) ≡ any_from start n b
any_cut a b start zero h k =
    let e : start + 0 ≡ start = omega arith in
    ap (λ (n : ℕ). any_from 0 n (λ (j : ℕ). a j && b j)) e ∙ any_false (λ (j : ℕ). a j && b j) start (λ j l. ap (λ (t : Bool). t && b j) (h j l))
any_cut a b start (suc n) h k =
    let e : start + suc n ≡ suc (start + n) = omega arith in
    let f : 0 + (start + n) ≡ start + n = omega arith in
    ap (λ (n : ℕ). any_from 0 n (λ (j : ℕ). a j && b j)) e
    ∙ (λ i. (ap (λ (j : ℕ). a j && b j) f ∙ ap (λ (t : Bool). t && b (start + n)) (k (start + n) (omega arith) (omega arith))) i || any_cut a b start n h (λ j l m. k j l (omega arith)) i)

-- ---- the first
module _ (p : ℕ → Bool) where
  first_more : (i end : ℕ) → i < end → first_clash i (end - i) p ≡ cond (p i) (Err (ClashAt i)) (first_clash (i + 1) (end - (i + 1)) p)
  first_more i end l =
      let e : end - i ≡ suc (end - (i + 1)) = omega arith in
      ap (λ (n : ℕ). first_clash i n p) e ∙ ap (λ (k : ℕ). cond (p i) (Err (ClashAt i)) (first_clash k (end - (i + 1)) p)) (sym (add-one i))

  pub clashes : (i end : ℕ) → i < end → p i ≡ true → Err (ClashAt i) ≡ first_clash i (end - i) p
  clashes i end l e = sym (first_more i end l ∙ ap (λ (b : Bool). cond b (Err (ClashAt i)) (first_clash (i + 1) (end - (i + 1)) p)) e)

  pub clashes_not : (i end : ℕ) → i < end → p i ≡ false → first_clash i (end - i) p ≡ first_clash (i + 1) (end - (i + 1)) p
  clashes_not i end l e = first_more i end l ∙ ap (λ (b : Bool). cond b (Err (ClashAt i)) (first_clash (i + 1) (end - (i + 1)) p)) e

  first-none : (i end : ℕ) → end ≤ i → first_clash i (end - i) p ≡ Ok tt
  first-none i end l = let e : end - i ≡ 0 = omega arith in ap (λ (n : ℕ). first_clash i n p) e

  -- m numbers decide, or leave it to the n after them
  first_decides : (i m n : ℕ) {r : Refusal} → Err r ≡ first_clash i m p → Err r ≡ first_clash i (m + n) p
  first_decides i zero n h = cc
  first_decides i (suc m) n h = let e : suc m + n ≡ suc (m + n) = omega arith in go (p i) (first_decides (suc i) m n) h ∙ ap (λ (k : ℕ). first_clash i k p) (sym e)
    where
      go : (b : Bool) {r : Refusal} → (Err r ≡ first_clash (suc i) m p → Err r ≡ first_clash (suc i) (m + n) p)
          → Err r ≡ cond b (Err (ClashAt i)) (first_clash (suc i) m p) → Err r ≡ cond b (Err (ClashAt i)) (first_clash (suc i) (m + n) p)
      go true f h = h
      go false f h = f h

  first_leaves : (i m n : ℕ) → Ok tt ≡ first_clash i m p → first_clash i (m + n) p ≡ first_clash (i + m) n p
  first_leaves i zero n h =
      let e : i + 0 ≡ i = omega arith in
      let f : 0 + n ≡ n = omega arith in
      λ k. first_clash (sym e k) (f k) p
  first_leaves i (suc m) n h =
      let e : suc m + n ≡ suc (m + n) = omega arith in
      let f : suc i + m ≡ i + suc m = omega arith in
      ap (λ (k : ℕ). first_clash i k p) e ∙ go (p i) (first_leaves (suc i) m n) h ∙ ap (λ (k : ℕ). first_clash k n p) f
    where
      go : (b : Bool) → (Ok tt ≡ first_clash (suc i) m p → first_clash (suc i) (m + n) p ≡ first_clash (suc i + m) n p)
          → Ok tt ≡ cond b (Err (ClashAt i)) (first_clash (suc i) m p) → cond b (Err (ClashAt i)) (first_clash (suc i) (m + n) p) ≡ first_clash (suc i + m) n p
      go true f h = cc
      go false f h = f h

first-same : (p q : ℕ → Bool) (i n : ℕ) → ((k : ℕ) → i ≤ k → k < i + n → p k ≡ q k) → first_clash i n p ≡ first_clash i n q
first-same p q i zero h = refl
first-same p q i (suc n) h = (λ k. cond (h i (omega arith) (omega arith) k) (Err (ClashAt i)) (first-same p q (suc i) n (λ j l m. h j (omega arith) (omega arith)) k))

-- ---- layer by layer: t layers are passed, and `start` gates with them
pub record Passing (ws ends : List ℕ) (start t : ℕ) : Type 0 where
  pub closes : closing (length ws / gate_size) start (drop t ends) ≡ true
  pub left : first_clash 0 (length ws / gate_size) (clashes_at ws ends) ≡ first_clash start (length ws / gate_size - start) (clashes_at ws ends)
  pub above : (i : ℕ) → start ≤ i → layer_of ends i ≡ t + layer_of (drop t ends) i
  pub below : (j : ℕ) → j < start → layer_of ends j < t

module _ {ws ends : List ℕ} {start t : ℕ} (h : Passing ws ends start t) (l : t < length ends) where
  abbrev end : ℕ
  end = get_or ends t 0

  next : (ltb start end ≡ true) × (closing (length ws / gate_size) end (drop (t + 1) ends) ≡ true)
  next = and_split (ltb start end) (closing (length ws / gate_size) end (drop (t + 1) ends)) (sym (closing-more (length ws / gate_size) start ends t l) ∙ h.closes)

  pub rises : start < end
  rises = ltb-true start end next.0

  pub ends-inside : end ≤ length ws / gate_size
  ends-inside = closing_bound (length ws / gate_size) end (drop (t + 1) ends) next.1

  rest_of : (j : ℕ) → layer_of (drop t ends) j ≡ cond (leb end j) 1 0 + layer_of (drop (t + 1) ends) j
  rest_of j = rw (add-one t, drop-cons ends t 0)

  -- a gate of the layer
  here : (j : ℕ) → start ≤ j → j < end → layer_of ends j ≡ t
  here j p q =
      let r : leb end j ≡ false = lt-leb end j q in
      let s : layer_of (drop (t + 1) ends) j ≡ 0 = none_passed (length ws / gate_size) end (drop (t + 1) ends) next.1 j (omega arith) in
      let u : layer_of (drop t ends) j ≡ 0 = rest_of j ∙ (λ i. cond (r i) 1 0 + s i) in
      omega (arith, h.above j p)

  same_test : (i : ℕ) → start ≤ i → i < end → clashes_at ws ends i ≡ shares_from ws start i
  same_test i p q =
      let e : start + (i - start) ≡ i = omega arith in
      ap (λ (n : ℕ). any_from 0 n (λ (j : ℕ). eqb (layer_of ends i) (layer_of ends j) && sharing ws i j)) (sym e)
      ∙ any_cut (λ (j : ℕ). eqb (layer_of ends i) (layer_of ends j)) (sharing ws i) start (i - start)
      (λ j k. ne_eqb (layer_of ends i) (layer_of ends j) (λ s. absurd (omega (arith, here i p q, h.below j k))))
      (λ j k m. eq-eqb (layer_of ends i) (layer_of ends j) (here i p q ∙ sym (here j k (omega arith))))

  -- the gates from `start` on are those of the layer and those after it
  split : length ws / gate_size - start ≡ (end - start) + (length ws / gate_size - end)
  split = omega (arith, rises, ends-inside)

  layer_same : first_clash start (end - start) (shares_from ws start) ≡ first_clash start (end - start) (clashes_at ws ends)
  layer_same = let f : start + (end - start) ≡ end = omega (arith, rises) in sym (first-same (clashes_at ws ends) (shares_from ws start) start (end - start) (λ i p q. same_test i p (omega (arith, f))))

  pub clash-found : {r : Refusal} → Err r ≡ first_clash start (end - start) (shares_from ws start) → Err r ≡ first_clash 0 (length ws / gate_size) (clashes_at ws ends)
  clash-found e =
      first_decides (clashes_at ws ends) start (end - start) (length ws / gate_size - end) (e ∙ layer_same)
      ∙ ap (λ (n : ℕ). first_clash start n (clashes_at ws ends)) (sym split) ∙ sym h.left

  pub passing_more : Ok tt ≡ first_clash start (end - start) (shares_from ws start) → Passing ws ends end (t + 1)
  passing_more e =
      let f : start + (end - start) ≡ end = omega (arith, rises) in
      record {
        closes = next.1;
        left = h.left ∙ ap (λ (n : ℕ). first_clash start n (clashes_at ws ends)) split
            ∙ first_leaves (clashes_at ws ends) start (end - start) (length ws / gate_size - end) (e ∙ layer_same)
            ∙ ap (λ (k : ℕ). first_clash k (length ws / gate_size - end) (clashes_at ws ends)) f;
        above = λ i q. let s : leb end i ≡ true = le-leb end i q in
            let u : layer_of (drop t ends) i ≡ 1 + layer_of (drop (t + 1) ends) i = rest_of i ∙ (λ k. cond (s k) 1 0 + layer_of (drop (t + 1) ends) i) in
            omega (arith, h.above i (omega (arith, rises)));
        below = λ j q. earlier j q (dec_lt j start);
      }
    where
      earlier : (j : ℕ) → j < end → Dec (j < start) → layer_of ends j < t + 1
      earlier j q (yes s) = omega (arith, h.below j s)
      earlier j q (no s) = omega (arith, here j (omega arith) q)

-- all layers passed: no gate clashes
pub passing_all : {ws ends : List ℕ} {start t : ℕ} → Passing ws ends start t → length ends ≤ t → first_clash 0 (length ws / gate_size) (clashes_at ws ends) ≡ Ok tt
passing_all {ws} {ends} {start} {t} h l =
    let e : start ≡ length ws / gate_size = eqb-true start (length ws / gate_size) (sym (closing-none (length ws / gate_size) start ends t l) ∙ h.closes) in
    h.left ∙ first-none (clashes_at ws ends) start (length ws / gate_size) (omega arith)

-- ---- the questions of the layers, by what the loops find
module _ (ws ends : List ℕ) where
  abbrev at : ℕ → Fired
  at j = record { gate = gate_at ws (j * gate_size); layer = layer_of ends j }

  -- from gate i on, n gates
  clash-from : (n i : ℕ) (before : List Fired) → ((q : Fired → Bool) → some q before ≡ any_from 0 i (λ (j : ℕ). q (at j)))
      → first_no (clash_questions before i (fired ends i (gates_from ws i n))) ≡ first_clash i n (clashes_at ws ends)
  clash-from zero i before h = refl
  clash-from (suc n) i before h =
      ap (λ (b : Bool). cond (not b) rest (Err (ClashAt i))) (h (clash (at i)))
      ∙ go (clashes_at ws ends i) (clash-from n (suc i) (at i ∷ before) more)
    where
      rest : Verdict
      rest = first_no (clash_questions (at i ∷ before) (suc i) (fired ends (suc i) (gates_from ws (suc i) n)))

      more : (q : Fired → Bool) → some q (at i ∷ before) ≡ any_from 0 (suc i) (λ (j : ℕ). q (at j))
      more q = let e : i ≡ 0 + i = omega arith in λ k. q (at (e k)) || h q k

      go : (b : Bool) → rest ≡ first_clash (suc i) n (clashes_at ws ends) → cond (not b) rest (Err (ClashAt i)) ≡ cond b (Err (ClashAt i)) (first_clash (suc i) n (clashes_at ws ends))
      go true r = refl
      go false r = r

  abbrev gates : List Gate
  gates = gates_of ws

  pub ends_bad : closing (length ws / gate_size) 0 ends ≡ false → Err BadLayers ≡ first_no (layer_questions ends gates)
  ends_bad e = sym (ap (λ (b : Bool). cond b (first_no (clash_questions [] 0 (fired ends 0 gates))) (Err BadLayers)) (ap (λ (k : ℕ). closing k 0 ends) (gates-length ws 0 (length ws / gate_size)) ∙ e))

  pub by_clash : closing (length ws / gate_size) 0 ends ≡ true → first_no (layer_questions ends (gates_of ws)) ≡ first_clash 0 (length ws / gate_size) (clashes_at ws ends)
  by_clash e =
      ap (λ (b : Bool). cond b (first_no (clash_questions [] 0 (fired ends 0 gates))) (Err BadLayers)) (ap (λ (k : ℕ). closing k 0 ends) (gates-length ws 0 (length ws / gate_size)) ∙ e)
      ∙ clash-from (length ws / gate_size) 0 [] (λ q. refl)
