-- A position is sound exactly where it has no fault, and a table of no faults is a schedule.
use mathlib.Core.Path.{◌≡◌, refl, sym, ap, ◌∙◌}
use mathlib.Core.Bool.{Bool, true, false, not, ◌&&◌, ◌||◌, true≢false, and-true}
use mathlib.Core.List.{List}
use Prim.Native.Nat.{ℕ, zero, suc, ◌≤◌, ◌<◌}
use native.Mathlib.Decide.{dec_lt}
use native.Mathlib.Omega.{arith}
use lib.Dec.{eqb, ltb}
use lib.ListN.{length, get_or}
use borrow.Author.Tests.{ltb-true, ltb-false, lt-ltb, eqb-true, eqb-false, eq-eqb, not-true}
use Rattle.algebra.specs.Lists.{all_below}
use Rattle.algebra.specs.Schedule.{Schedule}
use Rattle.algebra.proofs.Tests.{and_split, or_no, all-at}
use Rattle.gate.specs.Gate.{Gate, gate, share}
use Rattle.schedule.specs.Questions.{idle, alike, bars, sound}
use Rattle.schedule.specs.Claims.{Fault, past_end, used, differs, overtaken}

-- ---- gates word by word
alike-true : (g h : Gate) → alike g h ≡ true → g ≡ h
alike-true g h e =
    let p = and_split (eqb g.kind h.kind) _ e in
    let q = and_split (eqb g.a h.a) _ p.1 in
    let r = and_split (eqb g.b h.b) _ q.1 in
    let s = and_split (eqb g.c h.c) _ r.1 in
    λ i. gate (eqb-true g.kind h.kind p.0 i) (eqb-true g.a h.a q.0 i) (eqb-true g.b h.b r.0 i) (eqb-true g.c h.c s.0 i) (eqb-true g.k h.k s.1 i)

alike_self : (g : Gate) → alike g g ≡ true
alike_self g = λ i. eq-eqb g.kind g.kind refl i && (eq-eqb g.a g.a refl i && (eq-eqb g.b g.b refl i && (eq-eqb g.c g.c refl i && eq-eqb g.k g.k refl i)))

alike-false : (g h : Gate) → alike g h ≡ false → g ≡ h → ⊥
alike-false g h e q = true≢false (sym (alike_self g) ∙ ap (alike g) q ∙ e)

module _ (old new : List Gate) (table : List ℕ) where
  abbrev at : ℕ → ℕ
  at i = get_or table i 0

  abbrev gate_of : ℕ → Gate
  gate_of i = get_or new i idle

  -- gate j stands in no way of gate i
  abbrev clear : ℕ → ℕ → Bool
  clear i j = not (bars new table (gate_of i) (at i) j)

  -- ---- sound positions
  record Parts (i : ℕ) : Type 0 where
    pub below : ltb (at i) (length old) ≡ true
    pub same : alike (gate_of i) (get_or old (at i) idle) ≡ true
    pub free : all_below i (clear i) ≡ true

  parts : (i : ℕ) → sound old new table i ≡ true → Parts i
  parts i e =
      let (p, q) = and_split (ltb (at i) (length old)) (alike (gate_of i) (get_or old (at i) idle) && all_below i (clear i)) e in
      let (r, s) = and_split (alike (gate_of i) (get_or old (at i) idle)) (all_below i (clear i)) q in
      record { below = p; same = r; free = s }

  -- what an earlier gate that stands in no way says
  aside : (i j : ℕ) → Parts i → j < i → (eqb (at j) (at i) ≡ false) × ((ltb (at i) (at j) && share (gate_of j) (gate_of i)) ≡ false)
  aside i j s l = or_no (eqb (at j) (at i)) (ltb (at i) (at j) && share (gate_of j) (gate_of i)) (not-true (bars new table (gate_of i) (at i) j) (all-at i (clear i) s.free j l))

  faultless : (i : ℕ) → Parts i → Fault old new table i → ⊥
  faultless i s (past_end h) = omega (arith, ltb-true (at i) (length old) s.below)
  faultless i s (used j l h) = eqb-false (at j) (at i) (aside i j s l).0 h
  faultless i s (differs h) = h (alike-true (gate_of i) (get_or old (at i) idle) s.same)
  faultless i s (overtaken j l h e) = true≢false (sym (λ k. lt-ltb (at i) (at j) h k && e k) ∙ (aside i j s l).1)

  pub sound-free : (i : ℕ) → sound old new table i ≡ true → Fault old new table i → ⊥
  sound-free i e = faultless i (parts i e)

  -- ---- positions that are not
  barred : (i j : ℕ) → j < i → bars new table (gate_of i) (at i) j ≡ true → Fault old new table i
  barred i j l e = go (eqb (at j) (at i)) refl e
    where
      go : (b : Bool) → eqb (at j) (at i) ≡ b → b || (ltb (at i) (at j) && share (gate_of j) (gate_of i)) ≡ true → Fault old new table i
      go true h e = used j l (eqb-true (at j) (at i) h)
      go false h e = let (p, q) = and_split (ltb (at i) (at j)) (share (gate_of j) (gate_of i)) e in overtaken j l (ltb-true (at i) (at j) p) q

  one-bars : (i n : ℕ) → n ≤ i → all_below n (clear i) ≡ false → Fault old new table i
  one-bars i zero l e = absurd (true≢false e)
  one-bars i (suc n) l e = go (bars new table (gate_of i) (at i) n) refl e (one-bars i n (omega arith))
    where
      go : (b : Bool) → bars new table (gate_of i) (at i) n ≡ b → (all_below n (clear i) && not b) ≡ false → (all_below n (clear i) ≡ false → Fault old new table i) → Fault old new table i
      go true h e r = barred i n (omega arith) h
      go false h e r = r (sym (and-true (all_below n (clear i))) ∙ e)

  pub unsound_fault : (i : ℕ) → sound old new table i ≡ false → Fault old new table i
  unsound_fault i e = go (ltb (at i) (length old)) refl (alike (gate_of i) (get_or old (at i) idle)) refl e
    where
      go : (a : Bool) → ltb (at i) (length old) ≡ a → (b : Bool) → alike (gate_of i) (get_or old (at i) idle) ≡ b → (a && (b && all_below i (clear i))) ≡ false → Fault old new table i
      go false p b q e = past_end (ltb-false (at i) (length old) p)
      go true p false q e = differs (alike-false (gate_of i) (get_or old (at i) idle) q)
      go true p true q e = one-bars i i (omega arith) e

  pub free-sound : (i : ℕ) → (Fault old new table i → ⊥) → sound old new table i ≡ true
  free-sound i h = go (sound old new table i) refl
    where
      go : (b : Bool) → sound old new table i ≡ b → b ≡ true
      go true e = refl
      go false e = absurd (h (unsound_fault i e))

  -- ---- schedules
  pub schedule_free : Schedule share idle old new table → (i : ℕ) → i < length table → Fault old new table i → ⊥
  schedule_free s i l (past_end h) = omega (arith, s.below i l)
  schedule_free s i l (used j k h) = s.once j i k l h
  schedule_free s i l (differs h) = h (s.moved i l)
  schedule_free s i l (overtaken j k h e) = omega (arith, s.kept j i k l e)

  pub free_schedule : length new ≡ length old → length table ≡ length old → ((i : ℕ) → i < length table → Fault old new table i → ⊥) → Schedule share idle old new table
  free_schedule long wide free = record {
    long = long;
    wide = wide;
    below = λ i l. below i l (dec_lt (at i) (length old));
    once = λ i j l h e. free j h (used i l e);
    moved = λ i l. moved i l (alike (gate_of i) (get_or old (at i) idle)) refl;
    kept = λ i j l h e. kept i j l h e (dec_lt (at i) (at j)) (dec_lt (at j) (at i));
  }
    where
      below : (i : ℕ) → i < length table → Dec (at i < length old) → at i < length old
      below i l (yes p) = p
      below i l (no p) = absurd (free i l (past_end (omega arith)))

      moved : (i : ℕ) → i < length table → (b : Bool) → alike (gate_of i) (get_or old (at i) idle) ≡ b → gate_of i ≡ get_or old (at i) idle
      moved i l true e = alike-true (gate_of i) (get_or old (at i) idle) e
      moved i l false e = absurd (free i l (differs (alike-false (gate_of i) (get_or old (at i) idle) e)))

      kept : (i j : ℕ) → i < j → j < length table → share (gate_of i) (gate_of j) ≡ true → Dec (at i < at j) → Dec (at j < at i) → at i < at j
      kept i j l h e (yes p) q = p
      kept i j l h e (no p) (yes q) = absurd (free j h (overtaken i l q e))
      kept i j l h e (no p) (no q) = absurd (free j h (used i l (omega arith)))
