-- Sound counts are small, and stay small as they are moved; the bits of a gate that has passed its questions have counts.
use Rattle.std.specs.Prelude.{is_ok, Some, None}
use mathlib.Core.Path.{◌≡◌, refl, sym, ap, ◌∙◌, subst}
use mathlib.Core.Bool.{Bool, true, false, cond, ◌&&◌, ◌||◌, true≢false}
use mathlib.Core.List.{List, [], ◌∷◌}
use Prim.Native.Nat.{ℕ, zero, suc, ◌+◌, ◌-◌, ◌/◌, ◌≤◌, ◌<◌}
use native.Mathlib.Nat.{le_trans, min-le_left, min-le_right}
use native.Mathlib.Decide.{dec_lt, ℕ_discrete}
use native.Mathlib.Omega.{arith}
use lib.Dec.{eqb, leb, ltb}
use lib.ListN.{length, get_or, set, length-set}
use lib.Seq.{get_or-set_same, get_or-set_other}
use lib.IntN.{ℤ, pos, negsuc, nat_abs}
use borrow.Author.Tests.{leb-true, le-leb, ltb-true, lt-ltb}
use Rattle.algebra.specs.Lists.{every}
use Rattle.algebra.specs.Words.{up_to}
use Rattle.algebra.proofs.Tests.{and_split, all-at}
use Rattle.algebra.proofs.Signed.{word_is}
use Rattle.channel.specs.Layout.{word}
use Rattle.store.specs.Store.{max_word}
use Rattle.verdict.specs.Questions.{first_no}
use Rattle.verdict.proofs.Questions.{all_yes}
use Rattle.gate.specs.Gate.{Gate, gate_size, measure, bits, bit_of, weight, splits, qubits, distinct, formed, placed}
use Rattle.circuit.proofs.Counts.{splits-one, weight-one}
use Rattle.kept_circuit.specs.Kept.{qubits_place, bits_place, gates_place, weight_place, splits_place, written_place, measures_place, gate_place}
use Rattle.kept_circuit.specs.Kept.{max_qubits, max_bits, max_gates, head_size, count_at, qubits_of, bits_of, gates_of, room, all_up_to, sound}
use Rattle.kept_circuit.specs.Edits.{moved, move_at, mark, mark_all, counted, ask_gate, gate_in, covers, takeable}
use Rattle.kept_circuit.specs.Inner.Within.{Within}

-- ---- words from 0 to a bound
pub up_more : {s t : ℕ} (z : ℤ) → up_to s z ≡ true → s ≤ t → up_to t z ≡ true
up_more {s} {t} (pos a) e h = le-leb a t (le_trans (leb-true a s e) h)
up_more (negsuc a) e h = absurd (true≢false (sym e))

pub up_at : (l : List ℤ) (at n top : ℕ) → all_up_to l at n top ≡ true → (k : ℕ) → k < n → up_to top (word l (at + k)) ≡ true
unfolding all_up_to
up_at l at n top e k h = all-at n (λ (k : ℕ). up_to top (word l (at + k))) e k h

-- what sound counts say
pub record Sound (l : List ℤ) : Type 0 where
  pub long : head_size ≤ length l
  pub qubits_up : up_to max_qubits (word l qubits_place) ≡ true
  pub bits_up : up_to max_bits (word l bits_place) ≡ true
  pub gates_up : up_to (room (length l)) (word l gates_place) ≡ true
  pub rest_up : all_up_to l weight_place (head_size - weight_place) (gates_of l) ≡ true

pub sound_is : (l : List ℤ) → sound l ≡ true → Sound l
unfolding sound
sound_is l e =
    let a = and_split (leb head_size (length l)) _ e in
    let b = and_split (up_to max_qubits (word l qubits_place)) _ a.1 in
    let c = and_split (up_to max_bits (word l bits_place)) _ b.1 in
    let d = and_split (up_to (room (length l)) (word l gates_place)) _ c.1 in
    record { long = leb-true _ _ a.0; qubits_up = b.0; bits_up = c.0; gates_up = d.0; rest_up = d.1 }

-- ---- counts that are small
module _ {l : List ℤ} {t : ℕ} (w : Within l t) where
  pub within_is : (k : ℕ) → k < head_size → (word l k ≡ pos (count_at l k)) × (count_at l k ≤ t)
  within_is k h = word_is t (word l k) (w.small k h)

  pub within_more : {s : ℕ} → t ≤ s → Within l s
  within_more h = record { long = w.long; small = λ k b. up_more (word l k) (w.small k b) h }

  moved_up : (more : Bool) (x d : ℕ) → x ≤ t → d ≤ 1 → up_to (t + 1) (pos (moved more x d)) ≡ true
  moved_up true x d h b = le-leb (x + d) (t + 1) (omega arith)
  moved_up false x d h b = le-leb (x - d) (t + 1) (omega arith)

  pub within_move : (more : Bool) (at d : ℕ) → at < head_size → d ≤ 1 → Within (move_at more l at d) (t + 1)
  unfolding move_at
  within_move more at d b u = record { long = omega (arith, length-set l at new, w.long); small = λ k h. go k h (ℕ_discrete k at) }
    where
      new : ℤ
      new = pos (moved more (count_at l at) d)

      go : (k : ℕ) → k < head_size → Dec (k ≡ at) → up_to (t + 1) (get_or (set l at (pos (moved more (count_at l at) d))) k (pos 0)) ≡ true
      go k h (yes e) =
          ap (λ (j : ℕ). up_to (t + 1) (get_or (set l at (pos (moved more (count_at l at) d))) j (pos 0))) e
          ∙ ap (up_to (t + 1)) (get_or-set_same l at (pos (moved more (count_at l at) d)) (pos 0) (omega (arith, w.long))) ∙ moved_up more (count_at l at) d (within_is at b).1 u
      go k h (no ne) =
          ap (up_to (t + 1)) (get_or-set_other l at k (pos (moved more (count_at l at) d)) (pos 0) ne) ∙ up_more (word l k) (w.small k h) (omega arith)

-- a part of the counts after a mark, and after a gate
module _ {l : List ℤ} {t : ℕ} (w : Within l t) (more : Bool) where
  pub within-mark : (b : ℕ) → b < max_bits → Within (mark more l b) (t + 2)
  unfolding mark
  within-mark b h = go (eqb (count_at l (measures_place + b)) 0 || eqb (count_at (move_at more l (measures_place + b) 1) (measures_place + b)) 0)
    where
      once : Within (move_at more l (measures_place + b) 1) (t + 1)
      once = within_move w more (measures_place + b) 1 (omega arith) (omega arith)

      go : (c : Bool) → Within (cond c (move_at more (move_at more l (measures_place + b) 1) written_place 1) (move_at more l (measures_place + b) 1)) (t + 2)
      go true = within_more (within_move once more written_place 1 (omega arith) (omega arith)) (omega arith)
      go false = within_more once (omega arith)

  -- the first three counts
  pub within-totals : (g : Gate) → Within (move_at more (move_at more (move_at more l gates_place 1) weight_place (weight g)) splits_place (splits g)) (t + 3)
  within-totals g =
      within_more (within_move (within_move (within_move w more gates_place 1 (omega arith) (omega arith)) more weight_place (weight g) (omega arith) (weight-one g)) more splits_place (splits g) (omega arith) (splits-one g)) (omega arith)

pub within-counted : {l : List ℤ} {t : ℕ} → Within l t → (more : Bool) (g : Gate) → every (λ (b : ℕ). ltb b max_bits) (bits g) ≡ true → Within (counted more l g) (t + 5)
unfolding counted
within-counted {l} {t} w more g e = go (eqb g.kind measure) e
  where
    go : (c : Bool) → every (λ (b : ℕ). ltb b max_bits) (cond c (g.b ∷ []) []) ≡ true
        → Within (mark_all more (move_at more (move_at more (move_at more l gates_place 1) weight_place (weight g)) splits_place (splits g)) (cond c (g.b ∷ []) [])) (t + 5)
    go true e = within_more (within-mark (within-totals w more g) more g.b (ltb-true g.b max_bits (and_split (ltb g.b max_bits) true e).0)) (omega arith)
    go false e = within_more (within-totals w more g) (omega arith)

-- ---- lengths
pub length_move : (more : Bool) (l : List ℤ) (at d : ℕ) → length (move_at more l at d) ≡ length l
unfolding move_at
length_move more l at d = length-set l at (pos (moved more (count_at l at) d))

pub length-mark : (more : Bool) (l : List ℤ) (b : ℕ) → length (mark more l b) ≡ length l
unfolding mark
length-mark more l b = go (eqb (count_at l (measures_place + b)) 0 || eqb (count_at (move_at more l (measures_place + b) 1) (measures_place + b)) 0)
  where
    go : (c : Bool) → length (cond c (move_at more (move_at more l (measures_place + b) 1) written_place 1) (move_at more l (measures_place + b) 1)) ≡ length l
    go true = length_move more (move_at more l (measures_place + b) 1) written_place 1 ∙ length_move more l (measures_place + b) 1
    go false = length_move more l (measures_place + b) 1

pub length-counted : (more : Bool) (l : List ℤ) (g : Gate) → length (counted more l g) ≡ length l
unfolding counted
length-counted more l g = go (eqb g.kind measure)
  where
    totals : length (move_at more (move_at more (move_at more l gates_place 1) weight_place (weight g)) splits_place (splits g)) ≡ length l
    totals = length_move more (move_at more (move_at more l gates_place 1) weight_place (weight g)) splits_place (splits g) ∙ length_move more (move_at more l gates_place 1) weight_place (weight g) ∙ length_move more l gates_place 1

    go : (c : Bool) → length (mark_all more (move_at more (move_at more (move_at more l gates_place 1) weight_place (weight g)) splits_place (splits g)) (cond c (g.b ∷ []) [])) ≡ length l
    go true = length-mark more _ g.b ∙ totals
    go false = totals

-- the bit that a gate measures into, if it measures
pub bits-one : (g : Gate) {b : ℕ} → bit_of g ≡ Some b → bits g ≡ b ∷ []
bits-one g {b} = go (eqb g.kind measure)
  where
    go : (t : Bool) → cond t (Some g.b) None ≡ Some b → cond t (g.b ∷ []) [] ≡ b ∷ []
    go true e = cc
    go false e = absurd (cc)

pub bits-none : (g : Gate) → bit_of g ≡ None → bits g ≡ []
bits-none g = go (eqb g.kind measure)
  where
    go : (t : Bool) → cond t (Some g.b) None ≡ None → cond t (g.b ∷ []) [] ≡ []
    go true e = absurd (cc)
    go false e = refl

pub bit-small : (g : Gate) {b : ℕ} → bit_of g ≡ Some b → every (λ (b : ℕ). ltb b max_bits) (bits g) ≡ true → b < max_bits
bit-small g {b} e h = ltb-true b max_bits (and_split (ltb b max_bits) true (sym (ap (every (λ (b : ℕ). ltb b max_bits)) (bits-one g e)) ∙ h)).0

-- ---- sound counts
module _ {l : List ℤ} (s : Sound l) where
  pub gates-few : (gates_of l ≤ max_gates) × (gates_of l ≤ (length l - head_size) / gate_size)
  gates-few =
      let h : gates_of l ≤ room (length l) = (word_is (room (length l)) (word l gates_place) s.gates_up).1 in
      (le_trans h (min-le_left max_gates ((length l - head_size) / gate_size)), le_trans h (min-le_right max_gates ((length l - head_size) / gate_size)))

  pub sound-within : Within l max_gates
  sound-within = record { long = s.long; small = λ k h. go k h (dec_lt k weight_place) }
    where
      first : (k : ℕ) → k < weight_place → up_to max_gates (word l k) ≡ true
      first zero h = up_more (word l qubits_place) s.qubits_up (omega arith)
      first (suc zero) h = up_more (word l bits_place) s.bits_up (omega arith)
      first (suc (suc zero)) h = up_more (word l gates_place) s.gates_up (min-le_left max_gates ((length l - head_size) / gate_size))
      first (suc (suc (suc k))) h = absurd (omega arith)

      go : (k : ℕ) → k < head_size → Dec (k < weight_place) → up_to max_gates (word l k) ≡ true
      go k h (yes p) = first k p
      go k h (no p) =
          let e : k ≡ weight_place + (k - weight_place) = omega arith in
          ap (λ (j : ℕ). up_to max_gates (word l j)) e
          ∙ up_more (word l (weight_place + (k - weight_place))) (up_at l weight_place (head_size - weight_place) (gates_of l) s.rest_up (k - weight_place) (omega arith)) gates-few.0

  pub count_is : (k : ℕ) → k < head_size → word l k ≡ pos (count_at l k)
  count_is k h = (within_is sound-within k h).0

  pub place_in : (i : ℕ) → i < gates_of l → gate_place i + gate_size ≤ length l
  place_in i h = omega (arith, gates-few.1, s.long)

  pub place-free : (i : ℕ) → i < room (length l) → gate_place i + gate_size ≤ length l
  place-free i h = omega (arith, le_trans h (min-le_right max_gates ((length l - head_size) / gate_size)), s.long)

  -- the bits of a gate that has passed its questions have counts
  pub bits-counted : (i : ℕ) (g : Gate) → is_ok (first_no (ask_gate l i g)) ≡ true → every (λ (b : ℕ). ltb b max_bits) (bits g) ≡ true
  bits-counted i g e =
      let all = sym (all_yes tt (ask_gate l i g)) ∙ e in
      let p = (and_split (placed (qubits_of l) (bits_of l) g) _ (and_split (formed g) _ all).1).0 in
      let d = (and_split (every (λ (q : ℕ). ltb q (qubits_of l)) (qubits g)) _ p).1 in
      more (bits g) (and_split (distinct (qubits g)) (every (λ (b : ℕ). ltb b (bits_of l)) (bits g)) d).1
    where
      top : bits_of l ≤ max_bits
      top = (word_is max_bits (word l bits_place) s.bits_up).1

      more : (bs : List ℕ) → every (λ (b : ℕ). ltb b (bits_of l)) bs ≡ true → every (λ (b : ℕ). ltb b max_bits) bs ≡ true
      more [] e = refl
      more (b ∷ bs) e =
          let (h, k) = and_split (ltb b (bits_of l)) (every (λ (b : ℕ). ltb b (bits_of l)) bs) e in
          let lt : b < bits_of l = ltb-true b (bits_of l) h in
          let r = more bs k in
          λ i. lt-ltb b max_bits (le_trans lt top) i && r i

-- what a gate that can be taken out has passed
pub record Takes (l : List ℤ) (i : ℕ) : Type 0 where
  pub words_up : all_up_to l (gate_place i) gate_size max_word ≡ true
  pub asked : is_ok (first_no (ask_gate l i (gate_in l i))) ≡ true
  pub covered : covers l (gate_in l i) ≡ true

pub takes_is : (l : List ℤ) (i : ℕ) → takeable l i ≡ true → Takes l i
unfolding takeable
takes_is l i e =
    let a = and_split (all_up_to l (gate_place i) gate_size max_word) _ e in
    let b = and_split (is_ok (first_no (ask_gate l i (gate_in l i)))) _ a.1 in
    record { words_up = a.0; asked = b.0; covered = b.1 }

-- sound counts are there, and small
module _ (l : List ℤ) (k : ℕ) (e : sound l ≡ true) (h : k < head_size) where
  pub counts_there : (k < length l) × (word l k ≡ pos (nat_abs (word l k)))
  counts_there = let s = sound_is l e in (omega (arith, s.long), count_is s k h)

  pub counts_small : nat_abs (word l k) ≤ max_gates
  counts_small = (within_is (sound-within (sound_is l e)) k h).1

-- words from `at` on that are numbers up to a bound, word j of them
module _ (l : List ℤ) (at n top j : ℕ) (e : all_up_to l at n top ≡ true) (h : at ≤ j) (k : j < at + n) where
  up_is : (word l j ≡ pos (nat_abs (word l j))) × (nat_abs (word l j) ≤ top)
  up_is =
      let there : at + (j - at) ≡ j = omega arith in
      word_is top (word l j) (ap (λ (i : ℕ). up_to top (word l i)) (sym there) ∙ up_at l at n top e (j - at) (omega arith))

  pub up_there : word l j ≡ pos (nat_abs (word l j))
  up_there = up_is.0

  pub up_small : nat_abs (word l j) ≤ top
  up_small = up_is.1

-- counts after a move
module _ {l m : List ℤ} {t : ℕ} (w : Within l t) (more : Bool) (at d : ℕ) (h : at < head_size) (u : d ≤ 1) (e : m ≡ move_at more l at d) where
  pub within_after : Within m (t + 1)
  within_after = subst (λ (l : List ℤ). Within l (t + 1)) (sym e) (within_move w more at d h u)

pub within_there : {l : List ℤ} {t : ℕ} → Within l t → (k : ℕ) → k < head_size → (k < length l) × (word l k ≡ pos (nat_abs (word l k)))
within_there w k h = (omega (arith, w.long), (within_is w k h).0)
