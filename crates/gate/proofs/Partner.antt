-- A row of a gate's matrix has entries in two columns alone: its own, and the one with the bits flipped that the gate may change.
use mathlib.Core.Path.{◌≡◌, refl, sym, ap, ◌∙◌}
use mathlib.Core.Logic.{◌≢◌}
use mathlib.Core.Bool.{Bool, true, false, cond, not, ◌&&◌, ◌||◌, or-false, true≢false}
use mathlib.Core.List.{List, [], ◌∷◌}
use Prim.Native.Nat.{ℕ, ◌+◌, ◌-◌, ◌/◌, ◌%◌, ◌^◌, ◌≤◌, ◌<◌}
use native.Mathlib.Decide.{ℕ_discrete}
use native.Mathlib.Omega.{arith}
use lib.Bits.{bit_xor}
use lib.Dec.{T, eqb, ltb}
use lib.ListN.{length}
use lib.Pow.{pow_mono}
use borrow.Author.Tests.{ltb-true, eqb-true, eqb-false, eq-eqb, ne_eqb, not-true}
use Rattle.algebra.specs.Lists.{all_below}
use Rattle.algebra.proofs.Tests.{exhaust, and_split, holds-true}
use Rattle.exact.specs.Exact.{Exact, exact}
use Rattle.gate.specs.Gate.{Gate, gate, arity, elem, measure, reset}
use Rattle.gate.specs.Inner.Kinds.{one_qubit, controlled_once, controlled_twice, swap, cswap}
use Rattle.gate.specs.Operators.{Small, one, none, operators, controlled, swapped, operator_at}
use Rattle.gate.specs.Embed.{bit, bits_of, embed, gate_entry}
use Rattle.gate.specs.Inner.Entries.{target_of, partner, Ready, Apart2, Apart3}
use Rattle.gate.proofs.Embedding.{respects_identity}
use Rattle.gate.proofs.Placed.{clear, cleared, agree-one, embed-controlled, embed-swap}
use Rattle.gate.proofs.Gate.{elem_in}
use Rattle.gate.proofs.Dispatch.{one-kinds, two-kinds, three-kinds, three_else, one_on, two-on, three-on, controlled-entry, swap-entry, twice_controlled_entry, controlled-swap-entry}

-- row r has entries in columns r and s alone, below d
pub record Two (d : ℕ) (row : ℕ → Exact) (r s : ℕ) : Type 0 where
  pub below : s < d
  pub other : s ≢ r
  pub zeros : (c : ℕ) → c < d → c ≢ r → c ≢ s → row c ≡ none

two-same : {d : ℕ} {row row' : ℕ → Exact} {r s : ℕ} → ((c : ℕ) → row c ≡ row' c) → Two d row r s → Two d row' r s
two-same e t = record { below = t.below; other = t.other; zeros = λ c h p q. sym (e c) ∙ t.zeros c h p q }

-- a test by computation, at different numbers
ruled : (a b c : Bool) → (a || (b || not c)) ≡ true → a ≡ false → b ≡ false → c ≡ false
ruled true b c h p q = absurd (true≢false p)
ruled false true c h p q = absurd (true≢false q)
ruled false false c h p q = not-true c h

pub small : {n : ℕ} → n ≤ 5 → (r : ℕ) → r < 2 ^ n → r < 32
small few r h = omega (arith, pow_mono {i = _} {j = 5} few)

exhaust2 : (p : ℕ → ℕ → Bool) (m n : ℕ) → T (all_below m (λ (a : ℕ). all_below n (p a))) → (a b : ℕ) → a < m → b < n → p a b ≡ true
exhaust2 p m n t a b ha hb = holds-true (exhaust (p a) n (exhaust (λ (a : ℕ). all_below n (p a)) m t a ha) b hb)

exhaust3 : (p : ℕ → ℕ → ℕ → Bool) (m n k : ℕ) → T (all_below m (λ (a : ℕ). all_below n (λ (b : ℕ). all_below k (p a b)))) → (a b c : ℕ) → a < m → b < n → c < k → p a b c ≡ true
exhaust3 p m n k t a b c ha hb hc = exhaust2 (p a) n k (exhaust (λ (a : ℕ). all_below n (λ (b : ℕ). all_below k (p a b))) m t a ha) b c hb hc

-- ---- one bit
abbrev one_below : ℕ → ℕ → ℕ → Bool
one_below n w r = ltb (bit_xor r (2 ^ w)) (2 ^ n)

abbrev one-other : ℕ → ℕ → Bool
one-other w r = not (eqb (bit_xor r (2 ^ w)) r)

abbrev one-alone : ℕ → ℕ → ℕ → Bool
one-alone w r c = eqb c r || (eqb c (bit_xor r (2 ^ w)) || not (eqb (clear w r) (clear w c)))

one_computed : T (all_below 6 (λ (n : ℕ). all_below n (λ (w : ℕ). all_below (2 ^ n) (one_below n w))))
one_computed = tt

other_computed : T (all_below 5 (λ (w : ℕ). all_below 32 (one-other w)))
other_computed = tt

alone_computed : T (all_below 5 (λ (w : ℕ). all_below 32 (λ (r : ℕ). all_below 32 (one-alone w r))))
alone_computed = tt

pub one-two : (n q r : ℕ) → n ≤ 5 → q < n → r < 2 ^ n → (u : Small) → Two (2 ^ n) (embed exact n (q ∷ []) u r) r (bit_xor r (2 ^ (n - 1 - q)))
one-two n q r few l hr u =
    record {
      below = ltb-true (bit_xor r (2 ^ w)) (2 ^ n) (holds-true
          (exhaust (one_below n w) (2 ^ n)
          (exhaust (λ (w : ℕ). all_below (2 ^ n) (one_below n w)) n (exhaust (λ (n : ℕ). all_below n (λ (w : ℕ). all_below (2 ^ n) (one_below n w))) 6 one_computed n (omega arith)) w lw) r hr));
      other = eqb-false (bit_xor r (2 ^ w)) r (not-true _ (exhaust2 one-other 5 32 other_computed w r lw5 (small few r hr)));
      zeros = λ c hc p e.
          ap (λ (t : Bool). cond t (u (bits_of n (q ∷ []) r) (bits_of n (q ∷ []) c)) none)
          (agree-one n q r c l hr hc ∙ ruled (eqb c r) (eqb c (bit_xor r (2 ^ w))) (eqb (clear w r) (clear w c))
          (exhaust3 one-alone 5 32 32 alone_computed w r c lw5 (small few r hr) (small few c hc))
          (ne_eqb c r p) (ne_eqb c (bit_xor r (2 ^ w)) e));
    }
  where
    w : ℕ
    w = n - 1 - q

    lw : w < n
    lw = omega arith

    lw5 : w < 5
    lw5 = omega arith

-- one bit flipped: the other bits are the same
abbrev one_flipped : ℕ → ℕ → Bool
one_flipped w r = eqb (clear w r) (clear w (bit_xor r (2 ^ w))) && eqb (1 - r / 2 ^ w % 2) (bit_xor r (2 ^ w) / 2 ^ w % 2)

flipped_computed : T (all_below 5 (λ (w : ℕ). all_below 32 (one_flipped w)))
flipped_computed = tt

-- the two entries of a row of a matrix on one qubit
module _ (n q r : ℕ) (few : n ≤ 5) (l : q < n) (hr : r < 2 ^ n) (u : Small) where
  pub single-own : u (bit n q r ∷ []) (bit n q r ∷ []) ≡ embed exact n (q ∷ []) u r r
  single-own = sym (ap (λ (t : Bool). cond t (u (bit n q r ∷ []) (bit n q r ∷ [])) none) (agree-one n q r r l hr hr ∙ eq-eqb (cleared n q r) (cleared n q r) refl))

  pub single-other : u (bit n q r ∷ []) ((1 - bit n q r) ∷ []) ≡ embed exact n (q ∷ []) u r (bit_xor r (2 ^ (n - 1 - q)))
  single-other =
      ap (λ (y : ℕ). u (bit n q r ∷ []) (y ∷ [])) (eqb-true (1 - bit n q r) (bit n q s) tests.1)
      ∙ sym (ap (λ (t : Bool). cond t (u (bit n q r ∷ []) (bit n q s ∷ [])) none) (agree-one n q r s l hr (one-two n q r few l hr u).below ∙ tests.0))
    where
      w : ℕ
      w = n - 1 - q

      s : ℕ
      s = bit_xor r (2 ^ w)

      tests : (eqb (clear w r) (clear w s) ≡ true) × (eqb (1 - r / 2 ^ w % 2) (s / 2 ^ w % 2) ≡ true)
      tests = and_split _ _ (exhaust2 one_flipped 5 32 flipped_computed w r (omega arith) (small few r hr))

-- ---- a control
pub control_two : (n q : ℕ) (qs : List ℕ) (u : Small) {r s : ℕ} → r < 2 ^ n → q < n → elem q qs ≡ false → Two (2 ^ n) (embed exact n qs u r) r s → Two (2 ^ n) (embed exact n (q ∷ qs) (controlled u) r) r s
control_two n q qs u {r} hr l other t =
    record {
      below = t.below;
      other = t.other;
      zeros = λ c hc p e.
          embed-controlled n q qs r c l other u
          ∙ both (eqb (bit n q r) 1) (t.zeros c hc p e) (respects_identity n qs r c hr hc ∙ ap (λ (b : Bool). cond b one none) (ne_eqb r c (λ x. p (sym x))));
    }
  where
    both : (b : Bool) {x y : Exact} → x ≡ none → y ≡ none → cond b x y ≡ none
    both true e f = e
    both false e f = f

-- ---- two bits
abbrev both_below : ℕ → ℕ → ℕ → ℕ → Bool
both_below n w v r = eqb w v || ltb (bit_xor r (2 ^ w + 2 ^ v)) (2 ^ n)

abbrev both-other : ℕ → ℕ → ℕ → Bool
both-other w v r = not (eqb (bit_xor r (2 ^ w + 2 ^ v)) r)

abbrev pub changed : ℕ → ℕ → ℕ → ℕ → Bool
changed w v r c = eqb (clear w (clear v r)) (clear w (clear v c)) && (eqb (r / 2 ^ w % 2) (c / 2 ^ v % 2) && eqb (r / 2 ^ v % 2) (c / 2 ^ w % 2))

abbrev both-alone : ℕ → ℕ → ℕ → ℕ → Bool
both-alone w v r c = eqb c r || (eqb c (bit_xor r (2 ^ w + 2 ^ v)) || not (changed w v r c))

both_computed : T (all_below 6 (λ (n : ℕ). all_below n (λ (w : ℕ). all_below n (λ (v : ℕ). all_below (2 ^ n) (both_below n w v)))))
both_computed = tt

differ_computed : T (all_below 5 (λ (w : ℕ). all_below 5 (λ (v : ℕ). all_below 32 (both-other w v))))
differ_computed = tt

swap_computed : T (all_below 5 (λ (w : ℕ). all_below 5 (λ (v : ℕ). all_below 32 (λ (r : ℕ). all_below 32 (both-alone w v r)))))
swap_computed = tt

pub swap-two : (n a b r : ℕ) → n ≤ 5 → Apart2 n a b → r < 2 ^ n → Two (2 ^ n) (embed exact n (a ∷ b ∷ []) swapped r) r (bit_xor r (2 ^ (n - 1 - a) + 2 ^ (n - 1 - b)))
swap-two n a b r few h hr =
    record {
      below = ltb-true s (2 ^ n) (unequal (eqb w v) (ltb s (2 ^ n)) (holds-true
          (exhaust (both_below n w v) (2 ^ n)
          (exhaust (λ (v : ℕ). all_below (2 ^ n) (both_below n w v)) n
          (exhaust (λ (w : ℕ). all_below n (λ (v : ℕ). all_below (2 ^ n) (both_below n w v))) n
          (exhaust (λ (n : ℕ). all_below n (λ (w : ℕ). all_below n (λ (v : ℕ). all_below (2 ^ n) (both_below n w v)))) 6 both_computed n (omega arith)) w lw) v lv) r hr)) (ne_eqb w v apart));
      other = eqb-false s r (not-true (eqb s r) (exhaust3 both-other 5 5 32 differ_computed w v r (omega arith) (omega arith) (small few r hr)));
      zeros = λ c hc p e.
          embed-swap n a b r c h.first h.second hr hc
          ∙ ap (λ (t : Bool). cond t one none) (ruled (eqb c r) (eqb c s) (changed w v r c)
          (exhaust3 (both-alone w) 5 32 32 (exhaust (λ (w : ℕ). all_below 5 (λ (v : ℕ). all_below 32 (λ (r : ℕ). all_below 32 (both-alone w v r)))) 5 swap_computed w (omega arith)) v r c (omega arith)
          (small few r hr) (small few c hc))
          (ne_eqb c r p) (ne_eqb c s e));
    }
  where
    w : ℕ
    w = n - 1 - a

    v : ℕ
    v = n - 1 - b

    s : ℕ
    s = bit_xor r (2 ^ w + 2 ^ v)

    lw : w < n
    lw = omega (arith, h.first)

    lv : v < n
    lv = omega (arith, h.second)

    apart : w ≢ v
    apart e = eqb-false a b h.other (omega (arith, e, h.first, h.second))

    unequal : (x y : Bool) → (x || y) ≡ true → x ≡ false → y ≡ true
    unequal true y e f = absurd (true≢false f)
    unequal false y e f = e

-- ---- gates
module _ (n j r : ℕ) (few : n ≤ 5) (hr : r < 2 ^ n) (a b c k : ℕ) where
  abbrev Pair : ℕ → Type 0
  Pair m = Two (2 ^ n) (gate_entry n (gate m a b c k) j r) r (partner n (gate m a b c k) r)

  abbrev Asked : ℕ → Type 0
  Asked m = j < length (operators (gate m a b c k)) → Pair m

  one-pair : a < n → (m : ℕ) → elem m one_qubit ≡ true → Pair m
  one-pair l = elem_in Pair one_qubit
      (o measure, (o reset, (o 2, (o 3, (o 4, (o 5, (o 6, (o 7, (o 0, (o 1, (o 15, (o 16, tt))))))))))))
    where
      o : (m : ℕ) → Two (2 ^ n) (embed exact n (a ∷ []) (operator_at (gate m a b c k) j).small r) r (bit_xor r (2 ^ (n - 1 - a)))
      o m = one-two n a r few l hr (operator_at (gate m a b c k) j).small

  module _ (on : Apart2 n a b) where
    controlled-pair : (m : ℕ) → elem m controlled_once ≡ true → Asked m
    controlled-pair m e w = go m e (two-same (λ s. controlled-entry n j r s a b c k m e w) (control_two n a (b ∷ []) (target_of m) hr on.first (or-false (eqb a b) ∙ on.other) (one-two n b r few on.second hr (target_of m))))
      where
        go : (m : ℕ) → elem m controlled_once ≡ true → Two (2 ^ n) (gate_entry n (gate m a b c k) j r) r (bit_xor r (2 ^ (n - 1 - b))) → Pair m
        go = elem_in (λ (m : ℕ). Two (2 ^ n) (gate_entry n (gate m a b c k) j r) r (bit_xor r (2 ^ (n - 1 - b))) → Pair m) controlled_once ((λ t. t), ((λ t. t), ((λ t. t), ((λ t. t), tt))))

    swap-pair : Asked swap
    swap-pair w = two-same (λ s. swap-entry n j r s a b c k swap refl w) (swap-two n a b r few on hr)

    two-pair : (m : ℕ) → elem m (swap ∷ controlled_once) ≡ true → Asked m
    two-pair = elem_in Asked (swap ∷ controlled_once) (swap-pair, (controlled-pair 8 refl, (controlled-pair 9 refl, (controlled-pair 20 refl, (controlled-pair 25 refl, tt)))))

  module _ (on : Apart3 n a b c) where
    twice_pair : (m : ℕ) → Two (2 ^ n) (embed exact n (a ∷ b ∷ c ∷ []) (controlled (controlled (target_of m))) r) r (bit_xor r (2 ^ (n - 1 - c)))
    twice_pair m =
        let on2 = on.others in
        control_two n a (b ∷ c ∷ []) (controlled (target_of m)) hr on.first on.other
        (control_two n b (c ∷ []) (target_of m) hr on2.first (or-false (eqb b c) ∙ on2.other) (one-two n c r few on2.second hr (target_of m)))

    three-pair : (m : ℕ) → elem m (cswap ∷ controlled_twice) ≡ true → Asked m
    three-pair = elem_in Asked (cswap ∷ controlled_twice) (
      (λ w. two-same (λ s. controlled-swap-entry n j r s a b c k cswap refl w) (control_two n a (b ∷ c ∷ []) swapped hr on.first on.other (swap-two n b c r few on.others hr))),
      ((λ w. two-same (λ s. twice_controlled_entry n j r s a b c k 10 refl w) (twice_pair 10)), ((λ w. two-same (λ s. twice_controlled_entry n j r s a b c k 11 refl w) (twice_pair 11)), tt)),
    )

-- a row of operator j of a gate that passes the questions
pub row-two : {n : ℕ} {g : Gate} {j : ℕ} → Ready n g j → n ≤ 5 → (r : ℕ) → r < 2 ^ n → Two (2 ^ n) (gate_entry n g j r) r (partner n g r)
row-two {n} {g} {j} ready few r hr = go (ℕ_discrete (arity g.kind) 1) (ℕ_discrete (arity g.kind) 2)
  where
    go : Dec (arity g.kind ≡ 1) → Dec (arity g.kind ≡ 2) → Two (2 ^ n) (gate_entry n g j r) r (partner n g r)
    go (yes p) q = one-pair n j r few hr g.a g.b g.c g.k (one_on ready p) g.kind (one-kinds ready p)
    go (no p) (yes q) = two-pair n j r few hr g.a g.b g.c g.k (two-on ready q) g.kind (two-kinds ready q) ready.which
    go (no p) (no q) = let e = three_else ready (arity g.kind) refl p q in three-pair n j r few hr g.a g.b g.c g.k (three-on ready e) g.kind (three-kinds ready e) ready.which
