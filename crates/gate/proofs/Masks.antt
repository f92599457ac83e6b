-- The rows of a gate's matrix as masks choose them: the controls' bits first, then the bits that the gate may change.
use mathlib.Core.Path.{◌≡◌, refl, sym, ap, ◌∙◌, subst}
use mathlib.Core.Logic.{◌≢◌}
use mathlib.Core.Bool.{Bool, true, false, cond, or-false}
use mathlib.Core.List.{List, [], ◌∷◌}
use Prim.Native.Nat.{ℕ, zero, suc, ◌+◌, ◌-◌, ◌*◌, ◌/◌, ◌%◌, ◌^◌, ◌≤◌, ◌<◌}
use native.Mathlib.Nat.{mod-lt}
use native.Mathlib.Decide.{ℕ_discrete}
use native.Mathlib.Omega.{arith}
use lib.Bits.{bit_and, bit_xor, and_zero_r}
use lib.Dec.{T, eqb}
use lib.ListN.{length}
use lib.Pow.{pow_pos}
use borrow.Author.Tests.{eqb-false, eq-eqb, ne_eqb}
use Rattle.std.proofs.lemmas.Nat.{and_comm}
use Rattle.algebra.specs.Lists.{all_below}
use Rattle.algebra.proofs.Tests.{exhaust, equal2, or_no}
use Rattle.exact.specs.Exact.{Exact, exact}
use Rattle.scalar.specs.Calls.{value}
use Rattle.gate.specs.Gate.{Gate, gate, arity, elem}
use Rattle.gate.specs.Inner.Kinds.{one_qubit, controlled_once, controlled_twice, swap, cswap}
use Rattle.gate.specs.Operators.{Small, one, none, operators, controlled, swapped, identity}
use Rattle.gate.specs.Embed.{bit, embed, gate_entry}
use Rattle.gate.specs.Inner.Entries.{Table, Pair, table_of, small_of, core_of, flips, partner, row_entry, controls, pair_of, kept, exchanged, side, row_pair, Ready, Apart2, Apart3}
use Rattle.gate.proofs.Gate.{elem_in}
use Rattle.gate.proofs.Embedding.{respects_identity}
use Rattle.gate.proofs.Placed.{embed-controlled, embed-swap}
use Rattle.gate.proofs.Dispatch.{one-kinds, two-kinds, three-kinds, three_else, one_on, two-on, three-on, one_entry, controlled_core, controlled-entry, swap-entry, twice_controlled_core, twice_controlled_entry, controlled-swap-entry}
use Rattle.gate.proofs.Partner.{Two, small, changed, one-two, swap-two, single-own, single-other}

-- ---- facts by computation
-- 0 or 1 where the bits m of r are all 0 or all 1, else 2
abbrev class : ℕ → ℕ → ℕ
class m r = cond (eqb (bit_and r m) 0) 0 (cond (eqb (bit_and r m) m) 1 2)

-- 1 where the bits m of r are all 1
abbrev full : ℕ → ℕ → ℕ
full m r = cond (eqb (bit_and r m) m) 1 0

one_class : (w r : ℕ) → w < 5 → r < 32 → class (2 ^ w) r ≡ r / 2 ^ w % 2
one_class = equal2 (λ (w r : ℕ). class (2 ^ w) r) (λ (w r : ℕ). r / 2 ^ w % 2) 5 32 tt

one-full : (w r : ℕ) → w < 5 → r < 32 → full (2 ^ w) r ≡ r / 2 ^ w % 2
one-full = equal2 (λ (w r : ℕ). full (2 ^ w) r) (λ (w r : ℕ). r / 2 ^ w % 2) 5 32 tt

-- two different bits
module _ (f g : ℕ → ℕ → ℕ → ℕ) (t : T (all_below 5 (λ (w : ℕ). all_below 5 (λ (v : ℕ). all_below 32 (λ (r : ℕ). eqb (cond (eqb w v) 0 (f w v r)) (cond (eqb w v) 0 (g w v r))))))) where
  two-equal : (w v r : ℕ) → w < 5 → v < 5 → w ≢ v → r < 32 → f w v r ≡ g w v r
  two-equal w v r hw hv ne hr =
      sym (ap (λ (b : Bool). cond b 0 (f w v r)) (ne_eqb w v ne))
      ∙ equal2 (λ (v r : ℕ). cond (eqb w v) 0 (f w v r)) (λ (v r : ℕ). cond (eqb w v) 0 (g w v r)) 5 32
      (exhaust (λ (w : ℕ). all_below 5 (λ (v : ℕ). all_below 32 (λ (r : ℕ). eqb (cond (eqb w v) 0 (f w v r)) (cond (eqb w v) 0 (g w v r))))) 5 t w hw) v r hv hr
      ∙ ap (λ (b : Bool). cond b 0 (g w v r)) (ne_eqb w v ne)

two-full : (w v r : ℕ) → w < 5 → v < 5 → w ≢ v → r < 32 → full (2 ^ w + 2 ^ v) r ≡ (r / 2 ^ w % 2) * (r / 2 ^ v % 2)
two-full = two-equal (λ (w v r : ℕ). full (2 ^ w + 2 ^ v) r) (λ (w v r : ℕ). (r / 2 ^ w % 2) * (r / 2 ^ v % 2)) tt

-- 1 where the bits m of r differ
abbrev mixed : ℕ → ℕ → ℕ
mixed m r = cond (eqb (bit_and r m) 0) 0 (cond (eqb (bit_and r m) m) 0 1)

mixed-own : (w v r : ℕ) → w < 5 → v < 5 → w ≢ v → r < 32 → mixed (2 ^ w + 2 ^ v) r ≡ cond (changed w v r r) 0 1
mixed-own = two-equal (λ (w v r : ℕ). mixed (2 ^ w + 2 ^ v) r) (λ (w v r : ℕ). cond (changed w v r r) 0 1) tt

mixed-other : (w v r : ℕ) → w < 5 → v < 5 → w ≢ v → r < 32 → mixed (2 ^ w + 2 ^ v) r ≡ cond (changed w v r (bit_xor r (2 ^ w + 2 ^ v))) 1 0
mixed-other = two-equal (λ (w v r : ℕ). mixed (2 ^ w + 2 ^ v) r) (λ (w v r : ℕ). cond (changed w v r (bit_xor r (2 ^ w + 2 ^ v))) 1 0) tt

-- ---- pairs
-- the entries of a row in columns r and s
record Holds (p : Pair) (row : ℕ → Exact) (r s : ℕ) : Type 0 where
  pub in_own : value p.own ≡ row r
  pub in_other : value p.other ≡ row s

holds_path : {p q : Pair} {row : ℕ → Exact} {r s : ℕ} → p ≡ q → Holds p row r s → Holds q row r s
holds_path {row = row} {r} {s} e h = subst (λ (p : Pair). Holds p row r s) e h

holds_same : {p : Pair} {row row' : ℕ → Exact} {r s : ℕ} → ((c : ℕ) → row c ≡ row' c) → Holds p row r s → Holds p row' r s
holds_same {r = r} {s} e h = record { in_own = h.in_own ∙ e r; in_other = h.in_other ∙ e s }

-- by the bits m that a gate may change
abbrev choice : Table → ℕ → ℕ → Pair
choice t m r = cond (eqb (bit_and r m) 0) (pair_of t 0) (cond (eqb (bit_and r m) m) (pair_of t 1) exchanged)

module _ (n r : ℕ) (few : n ≤ 5) (hr : r < 2 ^ n) where
  low-row : r < 32
  low-row = small few r hr

  low_bit : (q : ℕ) → q < n → n - 1 - q < 5
  low_bit q l = omega arith

  bit-two : (q : ℕ) → bit n q r < 2
  bit-two q = mod-lt (r / 2 ^ (n - 1 - q)) (omega arith)

  apart : {a b : ℕ} → a < n → b < n → eqb a b ≡ false → n - 1 - a ≢ n - 1 - b
  apart {a} {b} ha hb e f = eqb-false a b e (omega (arith, f, ha, hb))

  -- a two-by-two matrix on qubit q
  one_holds : (t : Table) (q : ℕ) → q < n → Holds (choice t (2 ^ (n - 1 - q)) r) (embed exact n (q ∷ []) (small_of t) r) r (bit_xor r (2 ^ (n - 1 - q)))
  one_holds t q l =
      holds_path (sym (go (eqb (bit_and r m) 0) (eqb (bit_and r m) m) (bit n q r) (bit-two q) (one_class (n - 1 - q) r (low_bit q l) low-row)))
      (record { in_own = single-own n q r few l hr (small_of t); in_other = single-other n q r few l hr (small_of t) })
    where
      m : ℕ
      m = 2 ^ (n - 1 - q)

      go : (a b : Bool) (x : ℕ) → x < 2 → cond a 0 (cond b 1 2) ≡ x → cond a (pair_of t 0) (cond b (pair_of t 1) exchanged) ≡ pair_of t x
      go true b x h e = ap (pair_of t) e
      go false true x h e = ap (pair_of t) e
      go false false x h e = absurd (omega (arith, e, h))

  -- qubits a and b change places
  swap_holds : (a b : ℕ) → Apart2 n a b
      → Holds (choice (table_of identity) (2 ^ (n - 1 - a) + 2 ^ (n - 1 - b)) r) (embed exact n (a ∷ b ∷ []) swapped r) r (bit_xor r (2 ^ (n - 1 - a) + 2 ^ (n - 1 - b)))
  swap_holds a b h =
      holds_path (sym (go (eqb (bit_and r m) 0) (eqb (bit_and r m) m)))
      (record {
        in_own = own (changed w v r r) (mixed m r) (mixed-own w v r lw lv other low-row) ∙ sym (embed-swap n a b r r h.first h.second hr hr);
        in_other = partner-of (changed w v r s) (mixed m r) (mixed-other w v r lw lv other low-row) ∙ sym (embed-swap n a b r s h.first h.second hr (swap-two n a b r few h hr).below);
      })
    where
      w : ℕ
      w = n - 1 - a

      v : ℕ
      v = n - 1 - b

      m : ℕ
      m = 2 ^ w + 2 ^ v

      s : ℕ
      s = bit_xor r m

      lw : w < 5
      lw = low_bit a h.first

      lv : v < 5
      lv = low_bit b h.second

      other : w ≢ v
      other = apart h.first h.second h.other

      by : ℕ → Pair
      by x = cond (eqb x 0) kept exchanged

      go : (a b : Bool) → cond a (pair_of (table_of identity) 0) (cond b (pair_of (table_of identity) 1) exchanged) ≡ by (cond a 0 (cond b 0 1))
      go true b = refl
      go false true = refl
      go false false = refl

      own : (c : Bool) (x : ℕ) → x ≡ cond c 0 1 → value (by x).own ≡ cond c one none
      own true x e = ap (λ (x : ℕ). value (by x).own) e
      own false x e = ap (λ (x : ℕ). value (by x).own) e

      partner-of : (c : Bool) (x : ℕ) → x ≡ cond c 1 0 → value (by x).other ≡ cond c one none
      partner-of true x e = ap (λ (x : ℕ). value (by x).other) e
      partner-of false x e = ap (λ (x : ℕ). value (by x).other) e

  -- under control q
  control-holds : (q : ℕ) (qs : List ℕ) (u : Small) {p : Pair} {s : ℕ} → q < n → elem q qs ≡ false → s < 2 ^ n → s ≢ r → Holds p (embed exact n qs u r) r s
      → Holds (cond (eqb (bit n q r) 1) p kept) (embed exact n (q ∷ qs) (controlled u) r) r s
  control-holds q qs u {p} {s} l e hs ne h = holds_same (λ c. sym (embed-controlled n q qs r c l e u)) (go (eqb (bit n q r) 1))
    where
      identity-at : (c : ℕ) → c < 2 ^ n → {b : Bool} → eqb r c ≡ b → cond b one none ≡ embed exact n qs identity r c
      identity-at c hc f = sym (respects_identity n qs r c hr hc ∙ ap (λ (b : Bool). cond b one none) f)

      go : (b : Bool) → Holds (cond b p kept) (λ (c : ℕ). cond b (embed exact n qs u r c) (embed exact n qs identity r c)) r s
      go true = h
      go false = record { in_own = identity-at r hr (eq-eqb r r refl); in_other = identity-at s hs (ne_eqb r s (λ x. ne (sym x))) }

  -- the masks of one control and of two test its bits
  one_held : (p : Pair) (a : ℕ) → a < n → cond (eqb (bit n a r) 1) p kept ≡ cond (eqb (bit_and r (2 ^ (n - 1 - a))) (2 ^ (n - 1 - a))) p kept
  one_held p a l = go (eqb (bit_and r (2 ^ (n - 1 - a))) (2 ^ (n - 1 - a))) (bit n a r) (one-full (n - 1 - a) r (low_bit a l) low-row)
    where
      go : (b : Bool) (x : ℕ) → cond b 1 0 ≡ x → cond (eqb x 1) p kept ≡ cond b p kept
      go true x e = ap (λ (x : ℕ). cond (eqb x 1) p kept) (sym e)
      go false x e = ap (λ (x : ℕ). cond (eqb x 1) p kept) (sym e)

  two-held : (p : Pair) (a b : ℕ) → a < n → b < n → eqb a b ≡ false
      → cond (eqb (bit n a r) 1) (cond (eqb (bit n b r) 1) p kept) kept ≡ cond (eqb (bit_and r (2 ^ (n - 1 - a) + 2 ^ (n - 1 - b))) (2 ^ (n - 1 - a) + 2 ^ (n - 1 - b))) p kept
  two-held p a b ha hb e =
      go (eqb (bit_and r m) m) (bit n a r) (bit n b r) (bit-two a) (bit-two b)
      (two-full (n - 1 - a) (n - 1 - b) r (low_bit a ha) (low_bit b hb) (apart ha hb e) low-row)
    where
      m : ℕ
      m = 2 ^ (n - 1 - a) + 2 ^ (n - 1 - b)

      go : (c : Bool) (x y : ℕ) → x < 2 → y < 2 → cond c 1 0 ≡ x * y → cond (eqb x 1) (cond (eqb y 1) p kept) kept ≡ cond c p kept
      go true zero y hx hy e = absurd (omega (arith, e))
      go false zero y hx hy e = refl
      go true (suc zero) zero hx hy e = absurd (omega (arith, e))
      go false (suc zero) zero hx hy e = refl
      go true (suc zero) (suc zero) hx hy e = refl
      go false (suc zero) (suc zero) hx hy e = absurd (omega (arith, e))
      go c (suc zero) (suc (suc y)) hx hy e = absurd (omega arith)
      go c (suc (suc x)) y hx hy e = absurd (omega arith)

  -- no control
  none_held : (p : Pair) → p ≡ cond (eqb (bit_and r 0) 0) p kept
  none_held p = sym (ap (λ (b : Bool). cond b p kept) (eq-eqb (bit_and r 0) 0 (and_zero_r r)))

  -- ---- gates
  module _ (j a b c k : ℕ) where
    abbrev pairs : ℕ → Pair
    pairs m = let g = gate m a b c k in row_pair (pair_of (core_of g j) 0) (pair_of (core_of g j) 1) (controls n g) (flips n g) r

    abbrev Row : ℕ → Type 0
    Row m = j < length (operators (gate m a b c k)) → Holds (pairs m) (gate_entry n (gate m a b c k) j r) r (partner n (gate m a b c k) r)

    one-row : a < n → (m : ℕ) → elem m one_qubit ≡ true → Row m
    one-row l m e w = go m e (holds_path (none_held _) (holds_same (λ s. one_entry n j r s a b c k m e w) (one_holds (core_of (gate m a b c k) j) a l)))
      where
        Reduced : ℕ → Type 0
        Reduced m = Holds (cond (eqb (bit_and r 0) 0) (choice (core_of (gate m a b c k) j) (2 ^ (n - 1 - a)) r) kept) (gate_entry n (gate m a b c k) j r) r (bit_xor r (2 ^ (n - 1 - a)))
            → Holds (pairs m) (gate_entry n (gate m a b c k) j r) r (partner n (gate m a b c k) r)

        go : (m : ℕ) → elem m one_qubit ≡ true → Reduced m
        go = elem_in Reduced one_qubit
            ((λ t. t), ((λ t. t), ((λ t. t), ((λ t. t), ((λ t. t), ((λ t. t), ((λ t. t), ((λ t. t), ((λ t. t), ((λ t. t), ((λ t. t), ((λ t. t), tt))))))))))))

    module _ (on : Apart2 n a b) where
      controlled-row : (m : ℕ) → elem m controlled_once ≡ true → Row m
      controlled-row m e w =
          go m e (holds_path (one_held _ a on.first)
          (holds_same (λ s. controlled_core n j r s a b c k m e ∙ controlled-entry n j r s a b c k m e w)
          (control-holds a (b ∷ []) (small_of t) on.first (or-false (eqb a b) ∙ on.other) two.below two.other (one_holds t b on.second))))
        where
          t : Table
          t = core_of (gate m a b c k) j

          two : Two (2 ^ n) (embed exact n (b ∷ []) (small_of t) r) r (bit_xor r (2 ^ (n - 1 - b)))
          two = one-two n b r few on.second hr (small_of t)

          Reduced : ℕ → Type 0
          Reduced m =
              Holds (cond (eqb (bit_and r (2 ^ (n - 1 - a))) (2 ^ (n - 1 - a))) (choice (core_of (gate m a b c k) j) (2 ^ (n - 1 - b)) r) kept) (gate_entry n (gate m a b c k) j r) r (bit_xor r (2 ^ (n - 1 - b)))
              → Holds (pairs m) (gate_entry n (gate m a b c k) j r) r (partner n (gate m a b c k) r)

          go : (m : ℕ) → elem m controlled_once ≡ true → Reduced m
          go = elem_in Reduced controlled_once ((λ t. t), ((λ t. t), ((λ t. t), ((λ t. t), tt))))

      swap-row : Row swap
      swap-row w = holds_path (none_held _) (holds_same (λ s. swap-entry n j r s a b c k swap refl w) (swap_holds a b on))

      two-row : (m : ℕ) → elem m (swap ∷ controlled_once) ≡ true → Row m
      two-row = elem_in Row (swap ∷ controlled_once) (swap-row, (controlled-row 8 refl, (controlled-row 9 refl, (controlled-row 20 refl, (controlled-row 25 refl, tt)))))

    module _ (on : Apart3 n a b c) where
      twice_holds : (t : Table) → Holds (cond (eqb (bit_and r (2 ^ (n - 1 - a) + 2 ^ (n - 1 - b))) (2 ^ (n - 1 - a) + 2 ^ (n - 1 - b))) (choice t (2 ^ (n - 1 - c)) r) kept)
          (embed exact n (a ∷ b ∷ c ∷ []) (controlled (controlled (small_of t))) r) r (bit_xor r (2 ^ (n - 1 - c)))
      twice_holds t =
          let on2 = on.others in
          let two = one-two n c r few on2.second hr (small_of t) in
          holds_path (two-held _ a b on.first on2.first (or_no (eqb a b) (elem a (c ∷ [])) on.other).0)
          (control-holds a (b ∷ c ∷ []) (controlled (small_of t)) on.first on.other two.below two.other
          (control-holds b (c ∷ []) (small_of t) on2.first (or-false (eqb b c) ∙ on2.other) two.below two.other (one_holds t c on2.second)))

      twice_row : (m : ℕ) → elem m controlled_twice ≡ true → Row m
      twice_row = elem_in Row controlled_twice (o 10 refl, (o 11 refl, tt))
        where
          o : (m : ℕ) → elem m controlled_twice ≡ true → j < length (operators (gate m a b c k))
              → Holds (cond (eqb (bit_and r (2 ^ (n - 1 - a) + 2 ^ (n - 1 - b))) (2 ^ (n - 1 - a) + 2 ^ (n - 1 - b))) (choice (core_of (gate m a b c k) j) (2 ^ (n - 1 - c)) r) kept)
              (gate_entry n (gate m a b c k) j r) r (bit_xor r (2 ^ (n - 1 - c)))
          o m e w = holds_same (λ s. twice_controlled_core n j r s a b c k m e ∙ twice_controlled_entry n j r s a b c k m e w) (twice_holds (core_of (gate m a b c k) j))

      controlled-swap-row : Row cswap
      controlled-swap-row w =
          let two = swap-two n b c r few on.others hr in
          holds_path (one_held _ a on.first) (holds_same (λ s. controlled-swap-entry n j r s a b c k cswap refl w)
          (control-holds a (b ∷ c ∷ []) swapped on.first on.other two.below two.other (swap_holds b c on.others)))

      three-row : (m : ℕ) → elem m (cswap ∷ controlled_twice) ≡ true → Row m
      three-row = elem_in Row (cswap ∷ controlled_twice) (controlled-swap-row, (twice_row 10 refl, (twice_row 11 refl, tt)))

-- the pair of row r of a gate that passes the questions
row-holds : {n : ℕ} {g : Gate} {j : ℕ} → Ready n g j → n ≤ 5 → (r : ℕ) → r < 2 ^ n
    → Holds (row_pair (pair_of (core_of g j) 0) (pair_of (core_of g j) 1) (controls n g) (flips n g) r) (gate_entry n g j r) r (partner n g r)
row-holds {n} {g} {j} ready few r hr = go (ℕ_discrete (arity g.kind) 1) (ℕ_discrete (arity g.kind) 2)
  where
    go : Dec (arity g.kind ≡ 1) → Dec (arity g.kind ≡ 2)
        → Holds (row_pair (pair_of (core_of g j) 0) (pair_of (core_of g j) 1) (controls n g) (flips n g) r) (gate_entry n g j r) r (partner n g r)
    go (yes p) q = one-row n r few hr j g.a g.b g.c g.k (one_on ready p) g.kind (one-kinds ready p) ready.which
    go (no p) (yes q) = two-row n r few hr j g.a g.b g.c g.k (two-on ready q) g.kind (two-kinds ready q) ready.which
    go (no p) (no q) =
        let e = three_else ready (arity g.kind) refl p q in
        three-row n r few hr j g.a g.b g.c g.k (three-on ready e) g.kind (three-kinds ready e) ready.which

-- entry i of the rows, as the code finds it
pub row-entry : (i : ℕ) {n : ℕ} {g : Gate} {j m held : ℕ} {low high : Pair} → Ready n g j → n ≤ 5 → m ≡ flips n g → held ≡ controls n g → low ≡ pair_of (core_of g j) 0 → high ≡ pair_of (core_of g j) 1
    → i < 2 ^ n * 2 → value (side (row_pair low high held m (i / 2)) i) ≡ row_entry n g j i
row-entry i {n} {g} {j} ready few em eh el eu l =
    (λ t. value (side (row_pair (el t) (eu t) (eh t) (em t) (i / 2)) i)) ∙ go (eqb (i % 2) 0)
  where
    h : Holds (row_pair (pair_of (core_of g j) 0) (pair_of (core_of g j) 1) (controls n g) (flips n g) (i / 2)) (gate_entry n g j (i / 2)) (i / 2) (partner n g (i / 2))
    h = row-holds ready few (i / 2) (omega arith)

    go : (b : Bool)
        → value (let p = row_pair (pair_of (core_of g j) 0) (pair_of (core_of g j) 1) (controls n g) (flips n g) (i / 2) in cond b p.own p.other)
        ≡ gate_entry n g j (i / 2) (cond b (i / 2) (partner n g (i / 2)))
    go true = h.in_own
    go false = h.in_other

-- ---- the bits that a gate may change are none of its controls
single : (w v : ℕ) → w < 5 → v < 5 → w ≢ v → bit_and (2 ^ w) (2 ^ v) ≡ 0
single w v hw hv ne = two-equal (λ (w v r : ℕ). bit_and (2 ^ w) (2 ^ v)) (λ (w v r : ℕ). 0) tt w v 0 hw hv ne (omega arith)

-- a number, or 0 where u is w or v
abbrev third : ℕ → ℕ → ℕ → ℕ → ℕ
third w v u x = cond (eqb u w) 0 (cond (eqb u v) 0 x)

double : (w v u : ℕ) → w < 5 → v < 5 → u < 5 → w ≢ v → u ≢ w → u ≢ v → bit_and (2 ^ w + 2 ^ v) (2 ^ u) ≡ 0
double w v u hw hv hu ne p q =
    sym (ap (λ (b : Bool). cond b 0 (cond (eqb u v) 0 x)) (ne_eqb u w p) ∙ ap (λ (b : Bool). cond b 0 x) (ne_eqb u v q))
    ∙ two-equal (λ (w v u : ℕ). third w v u (bit_and (2 ^ w + 2 ^ v) (2 ^ u))) (λ (w v u : ℕ). 0) tt w v u hw hv ne (omega arith)
  where
    x : ℕ
    x = bit_and (2 ^ w + 2 ^ v) (2 ^ u)

pub masks-apart : {n : ℕ} {g : Gate} {j : ℕ} → Ready n g j → n ≤ 5 → bit_and (flips n g) (controls n g) ≡ 0
masks-apart {n} {g} {j} ready few = go (ℕ_discrete (arity g.kind) 1) (ℕ_discrete (arity g.kind) 2)
  where
    Disjoint : ℕ → Type 0
    Disjoint m = let f = gate m g.a g.b g.c g.k in bit_and (flips n f) (controls n f) ≡ 0

    uncontrolled : (x : ℕ) → bit_and x 0 ≡ 0
    uncontrolled x = and_zero_r x

    other : {a b : ℕ} → a < n → b < n → eqb a b ≡ false → n - 1 - a ≢ n - 1 - b
    other = apart n 0 few (pow_pos n)

    low : (q : ℕ) → q < n → n - 1 - q < 5
    low q l = omega arith

    go : Dec (arity g.kind ≡ 1) → Dec (arity g.kind ≡ 2) → bit_and (flips n g) (controls n g) ≡ 0
    go (yes p) q =
        let o = uncontrolled (2 ^ (n - 1 - g.a)) in
        elem_in Disjoint one_qubit (o, (o, (o, (o, (o, (o, (o, (o, (o, (o, (o, (o, tt)))))))))))) g.kind (one-kinds ready p)
    go (no p) (yes q) =
        let on = two-on ready q in
        let o = single (n - 1 - g.b) (n - 1 - g.a) (low g.b on.second) (low g.a on.first) (λ e. other on.first on.second on.other (sym e)) in
        elem_in Disjoint (swap ∷ controlled_once) (uncontrolled (2 ^ (n - 1 - g.a) + 2 ^ (n - 1 - g.b)), (o, (o, (o, (o, tt))))) g.kind (two-kinds ready q)
    go (no p) (no q) =
        let e = three_else ready (arity g.kind) refl p q in
        let on = three-on ready e in
        let rest = on.others in
        let (ab, ac) = or_no (eqb g.a g.b) (elem g.a (g.c ∷ [])) on.other in
        let x = other on.first rest.first ab in
        let y = other on.first rest.second (sym (or-false (eqb g.a g.c)) ∙ ac) in
        let z = other rest.first rest.second rest.other in
        let twice = and_comm (2 ^ (n - 1 - g.c)) (2 ^ (n - 1 - g.a) + 2 ^ (n - 1 - g.b)) ∙ double (n - 1 - g.a) (n - 1 - g.b) (n - 1 - g.c) (low g.a on.first) (low g.b rest.first) (low g.c rest.second) x (λ e. y (sym e)) (λ e. z (sym e)) in
        elem_in Disjoint (cswap ∷ controlled_twice)
        (double (n - 1 - g.b) (n - 1 - g.c) (n - 1 - g.a) (low g.b rest.first) (low g.c rest.second) (low g.a on.first) z x y, (twice, (twice, tt))) g.kind (three-kinds ready e)
