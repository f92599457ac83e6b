-- An operator by its rows: what its entries are and how large; rows made of pairs, and those of a gate, by the tables.
use mathlib.Core.Path.{◌≡◌, refl, sym, ap, ◌∙◌, subst}
use mathlib.Core.Bool.{Bool, true, false, cond, not, ◌&&◌, ◌||◌}
use Prim.Native.Nat.{ℕ, zero, suc, ◌+◌, ◌-◌, ◌*◌, ◌/◌, ◌%◌, ◌^◌, ◌≤◌, ◌<◌}
use native.Mathlib.Omega.{arith}
use lib.Bits.{bit_and}
use lib.Dec.{eqb, leb}
use borrow.Author.Tests.{leb-true, eq-eqb}
use Rattle.std.specs.Prelude.{Option, Some, None, is_some}
use Rattle.algebra.specs.Dyadic.{power, frac}
use Rattle.algebra.proofs.Tests.{and_split}
use Rattle.algebra.proofs.Quadratic.{ℤ√2i}
use Rattle.algebra.proofs.Dyadic.{lowest-up, lowest_is}
use Rattle.exact.specs.Exact.{Exact, equal, Number, numbers, number_of, lowest, within, is_lowest, narrow_exponent}
use Rattle.exact.specs.Inner.Sizes.{Within, Coords}
use Rattle.exact.proofs.Equal.{equal-true}
use Rattle.exact.proofs.Exact.{exact_halving, is_lowest_lem}
use Rattle.exact.proofs.Align.{scaled_is, raised, widen}
use Rattle.exact.proofs.Sizes.{within_of}
use Rattle.scalar.specs.Calls.{value}
use Rattle.gate.specs.declared.rows.Row.{Row}
use Rattle.gate.specs.declared.tables.Core.{Core}
use Rattle.gate.specs.Gate.{Gate, splits}
use Rattle.gate.specs.Inner.Entries.{Table, Pair, Ready, core_of, flips, controls, row_entry, pair_of, kept, exchanged, side, row_pair}
use Rattle.gate.specs.Inner.Rows.{Form, entry_in, over, Represents, Sized}
use Rattle.gate.specs.Inner.Tables.{phase_of, phase_core, place, core_at, is_over, is_row, is_core, kept_row, exchanged_row, rows_by}
use Rattle.gate.proofs.Trials.{plain, at-supported}
use Rattle.gate.proofs.Masks.{row-entry}

module _ {R : Form} {m : ℕ} {E : ℕ → Exact} (h : Represents R m E) where
  -- an entry in lowest form is what it was made of
  pub represented : (i : ℕ) → i < m → is_lowest (E i) ≡ true → entry_in R i ≡ E i
  represented i l e =
      let d : ℕ = R.exponent - (E i).exp in
      let n : R.exponent ≡ (E i).exp + d = omega (arith, h.reached i l) in
      ap (λ (z : Number). lowest z R.exponent) (h.numerators i l ∙ scaled_is (E i).num d) ∙ ap (lowest (numbers.◌⊗◌ (E i).num (power numbers d))) n
      ∙ lowest-up ℤ√2i exact_halving d (E i) ∙ is_lowest_lem (E i) e

  -- numerators from −1 to 1 are so over a larger power of two
  pub sized : ((i : ℕ) → i < m → Coords 1 narrow_exponent (E i)) → Sized R m
  sized s = record {
    small = h.small;
    sizes = λ i l. subst (Within (2 ^ R.exponent)) (sym (h.numerators i l)) (widen (1 * 2 ^ R.exponent) (2 ^ R.exponent) (over R.exponent (E i)) (omega arith) (raised 1 (E i).exp R.exponent (E i).num (h.reached i l) (s i l).size));
  }

-- the same rows represent the same numbers
pub rows_same : {R S : Form} {m : ℕ} {E : ℕ → Exact} → R.exponent ≡ S.exponent → ((r : ℕ) → r * 2 < m → R.row r ≡ S.row r) → Represents R m E → Represents S m E
rows_same {R} {S} {m} {E} e rows h = record {
  small = subst (λ (k : ℕ). k ≤ narrow_exponent) e h.small;
  reached = λ i l. subst (λ (k : ℕ). (E i).exp ≤ k) e (h.reached i l);
  numerators = λ i l. ap (λ (w : Row). number_of (cond (eqb (i % 2) 0) w.own w.other)) (sym (rows (i / 2) (omega (arith, l)))) ∙ h.numerators i l ∙ ap (λ (k : ℕ). over k (E i)) e;
}

-- ---- sizes, tested
abbrev pub is_coords : ℕ → Exact → Bool
is_coords k x = leb x.exp k && within (1 * 2 ^ x.exp) x.num

pub coords_is : (k : ℕ) (x : Exact) → is_coords k x ≡ true → Coords 1 k x
coords_is k x e = let (a, b) = and_split (leb x.exp k) (within (1 * 2 ^ x.exp) x.num) e in record { exponent = leb-true x.exp k a; size = within_of (1 * 2 ^ x.exp) x.num b }

-- ---- rows made of pairs
-- numerators over 2^k are those of their lowest form over 2^k
pub over_lowest : (k : ℕ) (z : Number) → over k (lowest z k) ≡ z
over_lowest k z =
    let (j, h, g) = lowest_is ℤ√2i exact_halving z k in
    let d : k - (lowest z k).exp ≡ j = omega arith in
    scaled_is (lowest z k).num (k - (lowest z k).exp) ∙ ap (λ (j : ℕ). numbers.◌⊗◌ (lowest z k).num (power numbers j)) d ∙ sym h

-- the numerators of a row are those of a pair over 2^k
pub record Stands (w : Row) (p : Pair) (k : ℕ) : Type 0 where
  pub own_reached : p.own.e ≤ k
  pub other_reached : p.other.e ≤ k
  pub own : number_of w.own ≡ over k (value p.own)
  pub other : number_of w.other ≡ over k (value p.other)

-- p r is that of row r
module _ {R : Form} {m : ℕ} {E : ℕ → Exact} (p : ℕ → Pair) where
  pub rows_stand : R.exponent ≤ narrow_exponent → ((r : ℕ) → Stands (R.row r) (p r) R.exponent) → ((i : ℕ) → i < m → value (side (p (i / 2)) i) ≡ E i) → Represents R m E
  rows_stand small rows entries = record {
    small = small;
    reached = λ i l. subst (λ (x : Exact). x.exp ≤ R.exponent) (entries i l) (reach (rows (i / 2)) (eqb (i % 2) 0));
    numerators = λ i l. one-of (rows (i / 2)) (eqb (i % 2) 0) ∙ ap (over R.exponent) (entries i l);
  }
    where
      reach : {w : Row} {q : Pair} → Stands w q R.exponent → (b : Bool) → (value (cond b q.own q.other)).exp ≤ R.exponent
      reach h true = h.own_reached
      reach h false = h.other_reached

      one-of : {w : Row} {q : Pair} → Stands w q R.exponent → (b : Bool) → number_of (cond b w.own w.other) ≡ over R.exponent (value (cond b q.own q.other))
      one-of h true = h.own
      one-of h false = h.other

-- ---- of a gate
is_stands : (k : ℕ) (w : Row) (p : Pair) → is_row k w p ≡ true → Stands w p k
is_stands k w p e =
    let (a, b) = and_split (is_over k w.own p.own) (is_over k w.other p.other) e in
    let (c, d) = and_split (leb p.own.e k) (equal (frac (number_of w.own) k) (frac (over k (value p.own)) k)) a in
    let (f, g) = and_split (leb p.other.e k) (equal (frac (number_of w.other) k) (frac (over k (value p.other)) k)) b in
    record {
      own_reached = leb-true p.own.e k c;
      other_reached = leb-true p.other.e k f;
      own = ap (λ (x : Exact). x.num) (equal-true _ _ d);
      other = ap (λ (x : Exact). x.num) (equal-true _ _ g);
    }

-- the matrix of a kind that is a phase is that by the power of ω
abbrev core_is : Option ℕ → Table → Bool
core_is None t = true
core_is (Some p) t = is_core (phase_core p) t

pub at-phase : {n : ℕ} {g : Gate} {j p : ℕ} → Ready n g j → phase_of g.kind g.k ≡ Some p → is_core (phase_core p) (core_of g 0) ≡ true
at-phase {g = g} ready e = subst (λ (o : Option ℕ). core_is o (core_of g 0) ≡ true) e (at-supported g ready.known ready.able (λ (kind k : ℕ). core_is (phase_of kind k) (core_of (plain kind k) 0)) refl)

-- and any other is that of the table, where it splits nothing
abbrev is_listed : ℕ → ℕ → Bool
is_listed kind k = is_some (phase_of kind k) || (not (eqb (splits (plain kind k)) 0) || is_core (core_at (place kind)) (core_of (plain kind k) 0))

pub at-place : {n : ℕ} {g : Gate} {j : ℕ} → Ready n g j → phase_of g.kind g.k ≡ None → splits g ≡ 0 → is_core (core_at (place g.kind)) (core_of g 0) ≡ true
at-place {g = g} ready e none =
    let tested = is_core (core_at (place g.kind)) (core_of g 0) in
    subst (λ (t : Bool). not t || tested ≡ true) (eq-eqb (splits g) 0 none) (subst (λ (o : Option ℕ). is_some o || (not (eqb (splits g) 0) || tested) ≡ true) e (at-supported g ready.known ready.able is_listed refl))

-- rows that mix nothing
unmixed : (e : ℕ) → e ≤ 1 → Stands (kept_row e) kept e × Stands (exchanged_row e) exchanged e
unmixed zero h = (is_stands 0 (kept_row 0) kept refl, is_stands 0 (exchanged_row 0) exchanged refl)
unmixed (suc zero) h = (is_stands 1 (kept_row 1) kept refl, is_stands 1 (exchanged_row 1) exchanged refl)
unmixed (suc (suc e)) h = absurd (omega arith)

-- by a two-by-two matrix
pub gate-represented : {n : ℕ} {g : Gate} {j : ℕ} → Ready n g j → (c : Core) → is_core c (core_of g j) ≡ true → {m held : ℕ} → n ≤ 5 → m ≡ flips n g → held ≡ controls n g
    → Represents (rows_by held m c) (2 ^ n * 2) (row_entry n g j)
gate-represented {n} {g} {j} ready c tested {m} {held} few em eh =
    rows_stand (row_pair (pair_of (core_of g j) 0) (pair_of (core_of g j) 1) held m) (omega (arith, small))
    (λ r. rows (eqb (bit_and r held) held) (eqb (bit_and r m) 0) (eqb (bit_and r m) m))
    (λ i. row-entry i ready few em eh refl refl)
  where
    small : c.e ≤ 1
    small = leb-true c.e 1 (and_split (leb c.e 1) _ tested).0

    both : (is_row c.e c.low (pair_of (core_of g j) 0) ≡ true) × (is_row c.e c.high (pair_of (core_of g j) 1) ≡ true)
    both = and_split _ _ (and_split (leb c.e 1) _ tested).1

    rows : (s t v : Bool) → Stands (cond s (cond t c.low (cond v c.high (exchanged_row c.e))) (kept_row c.e)) (cond s (cond t (pair_of (core_of g j) 0) (cond v (pair_of (core_of g j) 1) exchanged)) kept) c.e
    rows true true v = is_stands c.e c.low _ both.0
    rows true false true = is_stands c.e c.high _ both.1
    rows true false false = (unmixed c.e small).1
    rows false t v = (unmixed c.e small).0
