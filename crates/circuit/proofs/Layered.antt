-- Gates in layers: a reordering inside layers clashes where the list does, and is a schedule where nothing clashes.
use mathlib.Core.Path.{◌≡◌, refl, sym, ap, ◌∙◌, subst}
use mathlib.Core.Bool.{Bool, true, false, cond, ◌&&◌, ◌||◌, true≢false}
use mathlib.Core.List.{List, [], ◌∷◌}
use Prim.Native.Nat.{ℕ, zero, suc, ◌+◌, ◌≤◌, ◌<◌}
use native.Mathlib.Decide.{dec_lt}
use native.Mathlib.Omega.{arith}
use lib.Dec.{eqb, leb}
use lib.ListN.{length, get_or}
use borrow.Author.Tests.{le-leb, leb-true, eq-eqb, ne_eqb, eqb-true, eqb-false}
use Rattle.algebra.specs.Schedule.{Schedule}
use Rattle.algebra.proofs.Schedule.{schedule_trace}
use Rattle.circuit.proofs.Pairs.{free, free_of, free-pairs}
use Rattle.gate.specs.Gate.{Gate, gate, elem, meet, qubits, bits, share}
use Rattle.circuit.specs.Layers.{layer_of, Fired, fired, clash}

-- ---- sharing goes either way round
eqb_sym : (a b : ℕ) → eqb a b ≡ eqb b a
eqb_sym a b = go (eqb a b) refl
  where
    go : (t : Bool) → eqb a b ≡ t → t ≡ eqb b a
    go true e = sym (eq-eqb b a (sym (eqb-true a b e)))
    go false e = sym (ne_eqb b a (λ q. eqb-false a b e (sym q)))

meet-none : (ss : List ℕ) → meet ss [] ≡ false
meet-none [] = refl
meet-none (s ∷ ss) = meet-none ss

meet-more : (t : ℕ) (ss ts : List ℕ) → meet ss (t ∷ ts) ≡ elem t ss || meet ss ts
meet-more t [] ts = refl
meet-more t (s ∷ ss) ts = (λ i. (eqb_sym s t i || elem s ts) || meet-more t ss ts i) ∙ regroup (eqb t s) (elem s ts) (elem t ss) (meet ss ts)
  where
    regroup : (a b c d : Bool) → (a || b) || (c || d) ≡ (a || c) || (b || d)
    regroup true b c d = refl
    regroup false true true d = refl
    regroup false true false d = refl
    regroup false false c d = refl

meet_sym : (ss ts : List ℕ) → meet ss ts ≡ meet ts ss
meet_sym ss [] = meet-none ss
meet_sym ss (t ∷ ts) = meet-more t ss ts ∙ ap (λ (b : Bool). elem t ss || b) (meet_sym ss ts)

pub share_sym : (g h : Gate) → share g h ≡ share h g
share_sym g h = λ i. meet_sym (qubits g) (qubits h) i || meet_sym (bits g) (bits h) i

clash_sym : (a b : Fired) → clash a b ≡ clash b a
clash_sym a b = λ i. eqb_sym a.layer b.layer i && share_sym a.gate b.gate i

-- ---- a later gate is in no earlier layer
pub layer_rises : (ends : List ℕ) (i j : ℕ) → i ≤ j → layer_of ends i ≤ layer_of ends j
layer_rises [] i j l = omega arith
layer_rises (e ∷ es) i j l = let h : layer_of es i ≤ layer_of es j = layer_rises es i j l in go (leb e i) refl h
  where
    go : (b : Bool) → leb e i ≡ b → layer_of es i ≤ layer_of es j → cond b 1 0 + layer_of es i ≤ cond (leb e j) 1 0 + layer_of es j
    go true p h = let q : e ≤ i = leb-true e i p in let r : leb e j ≡ true = le-leb e j (omega arith) in rw r (omega arith)
    go false p h = omega arith

-- ---- the gates with their layers
pub fired-length : (ends : List ℕ) (i : ℕ) (gs : List Gate) → length (fired ends i gs) ≡ length gs
fired-length ends i [] = refl
fired-length ends i (g ∷ gs) = ap suc (fired-length ends (suc i) gs)

abbrev pub idle : Fired
idle = record { gate = gate 0 0 0 0 0; layer = 0 }

fired-from : (ends : List ℕ) (i : ℕ) (gs : List Gate) (k : ℕ) → k < length gs
    → get_or (fired ends i gs) k idle ≡ record { gate = get_or gs k (gate 0 0 0 0 0); layer = layer_of ends (i + k) }
fired-from ends i [] k l = absurd (omega arith)
fired-from ends i (g ∷ gs) zero l = let e : i + 0 ≡ i = omega arith in rw e
fired-from ends i (g ∷ gs) (suc k) l = let e : suc i + k ≡ i + suc k = omega arith in fired-from ends (suc i) gs k (omega arith) ∙ rw e

pub fired-at : (ends : List ℕ) (gs : List Gate) (k : ℕ) → k < length gs
    → get_or (fired ends 0 gs) k idle ≡ record { gate = get_or gs k (gate 0 0 0 0 0); layer = layer_of ends k }
fired-at ends gs k l = let e : 0 + k ≡ k = omega arith in fired-from ends 0 gs k l ∙ rw e

-- ---- a reordering that moves no gate out of its layer
module _ (ends : List ℕ) {xs ys : List Gate} {table : List ℕ} (order : Schedule (λ (g h : Gate). false) (gate 0 0 0 0 0) xs ys table)
    (inside : (i : ℕ) → i < length table → layer_of ends (get_or table i 0) ≡ layer_of ends i) where
  -- the gates with their layers are reordered by the same table
  fired_order : Schedule (λ (a b : Fired). false) idle (fired ends 0 xs) (fired ends 0 ys) table
  fired_order = record {
    long = fired-length ends 0 ys ∙ order.long ∙ sym (fired-length ends 0 xs);
    wide = order.wide ∙ sym (fired-length ends 0 xs);
    below = λ i l. subst (λ (n : ℕ). get_or table i 0 < n) (sym (fired-length ends 0 xs)) (order.below i l);
    once = order.once;
    moved = λ i l. fired-at ends ys i (omega (arith, order.long, order.wide))
        ∙ (λ j. record { gate = order.moved i l j; layer = sym (inside i l) j })
        ∙ sym (fired-at ends xs (get_or table i 0) (order.below i l));
    kept = λ i j l h e. absurd (true≢false (sym e));
  }

  -- a reordering inside layers clashes exactly where the list does
  pub clashes_alike : free clash [] (fired ends 0 ys) ≡ free clash [] (fired ends 0 xs)
  clashes_alike = free_of clash clash_sym (schedule_trace (λ (a b : Fired). false) idle fired_order) []

  -- where nothing clashes a reordering inside layers is a schedule
  pub layered_schedule : free clash [] (fired ends 0 ys) ≡ true → Schedule share (gate 0 0 0 0 0) xs ys table
  layered_schedule e = record { long = order.long; wide = order.wide; below = order.below; once = order.once; moved = order.moved; kept = kept }
    where
      in_list : (i : ℕ) → i < length table → i < length ys
      in_list i l = omega (arith, order.long, order.wide)

      apart : (i j : ℕ) → i < j → j < length table → share (get_or ys i (gate 0 0 0 0 0)) (get_or ys j (gate 0 0 0 0 0)) ≡ true → eqb (layer_of ends j) (layer_of ends i) ≡ false
      apart i j l h s = free-of-share (eqb (layer_of ends j) (layer_of ends i)) (share (get_or ys j (gate 0 0 0 0 0)) (get_or ys i (gate 0 0 0 0 0)))
          (share_sym (get_or ys j (gate 0 0 0 0 0)) (get_or ys i (gate 0 0 0 0 0)) ∙ s)
          ((λ k. clash (sym (fired-at ends ys j (in_list j h)) k) (sym (fired-at ends ys i (in_list i (omega arith))) k))
          ∙ free-pairs clash idle (fired ends 0 ys) e i j l (subst (λ (n : ℕ). j < n) (sym (fired-length ends 0 ys)) (in_list j h)))
        where
          free-of-share : (a b : Bool) → b ≡ true → a && b ≡ false → a ≡ false
          free-of-share true b p q = sym p ∙ q
          free-of-share false b p q = refl

      kept : (i j : ℕ) → i < j → j < length table → share (get_or ys i (gate 0 0 0 0 0)) (get_or ys j (gate 0 0 0 0 0)) ≡ true → get_or table i 0 < get_or table j 0
      kept i j l h s = go (dec_lt (get_or table i 0) (get_or table j 0))
        where
          differ : layer_of ends j ≡ layer_of ends i → ⊥
          differ = eqb-false (layer_of ends j) (layer_of ends i) (apart i j l h s)

          go : Dec (get_or table i 0 < get_or table j 0) → get_or table i 0 < get_or table j 0
          go (yes p) = p
          go (no p) = absurd (differ (omega (arith, layer_rises ends i j (omega arith), layer_rises ends (get_or table j 0) (get_or table i 0) (omega arith), inside i (omega arith), inside j h)))
