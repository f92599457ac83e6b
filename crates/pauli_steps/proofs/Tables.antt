-- Coefficients in the code's tables, products with powers of i, and the rows of p·1 + q·A.
use mathlib.Core.Path.{◌≡◌, refl, sym, ap, ◌∙◌, subst}
use mathlib.Core.Bool.{Bool, true, false, cond, ◌&&◌}
use mathlib.Core.List.{List, [], ◌∷◌, map}
use Prim.Native.Nat.{ℕ, zero, suc, ◌+◌, ◌-◌, ◌*◌, ◌/◌, ◌%◌, ◌^◌, ◌≤◌, ◌<◌}
use native.Mathlib.Nat.{mod-lt, le_refl, le_trans}
use native.Mathlib.Omega.{arith}
use lib.Dec.{eqb, lit≤}
use lib.IntN.{ℤ, pos, neg_ℤ, nat_abs}
use lib.ListN.{get_or, get_or-map}
use borrow.Author.Tests.{eqb-true}
use Rattle.std.proofs.lemmas.List.{get_or_default}
use Rattle.algebra.proofs.Tests.{exhaust, holds-true, and_split}
use Rattle.algebra.specs.Quadratic.{pair, Pair as Quadratic}
use Rattle.algebra.proofs.Ring.{ℤR, mul_neg}
use Rattle.algebra.proofs.Quadratic.{ℤ√2i}
use Rattle.algebra.proofs.Dyadic.{low_exp}
use Rattle.algebra.proofs.Solver.{Expr, con, var, ⊟, look, ⟦◌⟧, eqn}
use Rattle.algebra.proofs.Bound.{bnd, bounded, Within as Bounded}
use Rattle.exact.specs.Exact.{Exact, Number, number, numbers, exact, half, imaginary, number_of, list_of, lowest, narrow_exponent, narrow_numerator, power_of}
use Rattle.exact.specs.Inner.Sizes.{Within, Coords, room_numerator}
use Rattle.exact.proofs.Coordinates.{formulas, x, xy, eight}
use Rattle.exact.proofs.Exact.{exact_halving}
use Rattle.exact.proofs.Align.{scaled-none, widen, factor_within}
use Rattle.exact.proofs.Overflow.{lowest-coords}
use Rattle.scalar.specs.Calls.{value, scalar_of}
use Rattle.gate.specs.Operators.{one}
use Rattle.gate.specs.Inner.Entries.{Pair as Entries}
use Rattle.gate.specs.Inner.Rows.{over, Represents}
use Rattle.gate.proofs.Represented.{is_coords, coords_is, over_lowest, Stands, rows_stand}
use Rattle.pauli_nodes.specs.Nodes.{turned}
use Rattle.pauli_nodes.specs.Inner.Masks.{Mask}
use Rattle.pauli_program.specs.Operators.{Coefficients, turn_by, onto}
use Rattle.pauli_program.proofs.Steps.{table, entry, table_is}
use Rattle.pauli_steps.specs.declared.coefficients.Pair.{Pair}
use Rattle.pauli_steps.specs.Inner.Rows.{pair_of, turns_in, axis_entry, axis_row, Level, row_about, rows_about}

-- the pair of a number of eighths
pub pair-at : (k : ℕ) (z : Pair) → k < 8 → get_or (map pair_of table) k z ≡ pair_of (turn_by k)
pair-at k z l = get_or_default (map pair_of table) k z (pair_of (entry 0)) l ∙ get_or-map pair_of table k (entry 0) ∙ ap pair_of (get_or_default table k (entry 0) _ l ∙ sym (table_is k l))

-- ---- times a power of i
module _ (p : ℕ) (z : Number) (h : Within p z) (y : Number) where
  abbrev most : List ℕ → Expr → ℕ
  most bs = bnd (look 0 (p ∷ p ∷ p ∷ p ∷ bs))

  by_unit : (bs : List ℕ) → Bounded (list_of y) bs → most bs xy.re.re ≤ p → most bs xy.re.im ≤ p → most bs xy.im.re ≤ p → most bs xy.im.im ≤ p → Within p (numbers.◌⊗◌ z y)
  by_unit bs k a b c d = record { w0 = size xy.re.re a; w1 = size xy.re.im b; w2 = size xy.im.re c; w3 = size xy.im.im d }
    where
      size : (e : Expr) → most bs e ≤ p → nat_abs (⟦◌⟧ ℤR (look (pos 0) (eight z y)) e) ≤ p
      size e u = le_trans (bounded (eight z y) (p ∷ p ∷ p ∷ p ∷ bs) e (h.w0, (h.w1, (h.w2, (h.w3, k))))) u

  by_real : Bounded (list_of y) (1 ∷ 0 ∷ 0 ∷ 0 ∷ []) → Within p (numbers.◌⊗◌ z y)
  by_real k = by_unit (1 ∷ 0 ∷ 0 ∷ 0 ∷ []) k (omega arith) (omega arith) (omega arith) (omega arith)

  by_imaginary : Bounded (list_of y) (0 ∷ 0 ∷ 1 ∷ 0 ∷ []) → Within p (numbers.◌⊗◌ z y)
  by_imaginary k = by_unit (0 ∷ 0 ∷ 1 ∷ 0 ∷ []) k (omega arith) (omega arith) (omega arith) (omega arith)

pub turned-within : (p : ℕ) (z : Number) (s : ℕ) → Within p z → Within p (numbers.◌⊗◌ z (turned s).num)
turned-within p z s h = go (s % 4) (mod-lt s (omega arith))
  where
    go : (j : ℕ) → j < 4 → Within p (numbers.◌⊗◌ z (power_of imaginary j).num)
    go zero l = by_real p z h (power_of imaginary 0).num (omega arith)
    go (suc zero) l = by_imaginary p z h (power_of imaginary 1).num (omega arith)
    go (suc (suc zero)) l = by_real p z h (power_of imaginary 2).num (omega arith)
    go (suc (suc (suc zero))) l = by_imaginary p z h (power_of imaginary 3).num (omega arith)
    go (suc (suc (suc (suc j)))) l = absurd (omega arith)

turned-whole : (s : ℕ) → (turned s).exp ≡ 0
turned-whole s = eqb-true (turned s).exp 0 (holds-true (exhaust (λ (j : ℕ). eqb (power_of imaginary j).exp 0) 4 tt (s % 4) (mod-lt s (omega arith))))

turned_is : (x : Exact) (s : ℕ) → exact.◌⊗◌ x (turned s) ≡ lowest (numbers.◌⊗◌ x.num (turned s).num) x.exp
turned_is x s = let e : x.exp + (turned s).exp ≡ x.exp = omega (arith, turned-whole s) in ap (lowest (numbers.◌⊗◌ x.num (turned s).num)) e

turned-small : (q : Exact) (s : ℕ) → Coords 1 narrow_exponent q → Coords 1 narrow_exponent (exact.◌⊗◌ q (turned s))
turned-small q s h =
    subst (Coords 1 narrow_exponent) (sym (turned_is q s))
    (lowest-coords narrow_exponent (numbers.◌⊗◌ q.num (turned s).num) q.exp h.exponent (turned-within (1 * 2 ^ q.exp) q.num s h.size))

-- i times, and i^(t + 2) is −i^t
abbrev by_i : Quadratic (Quadratic Expr)
by_i = formulas.◌⊗◌ x (pair (pair (con (pos 0)) (con (pos 0))) (pair (con (pos 1)) (con (pos 0))))

pub by_i_is : (z : Number) → number (neg_ℤ z.im.re) (neg_ℤ z.im.im) z.re.re z.re.im ≡ numbers.◌⊗◌ z (turned 1).num
by_i_is z =
    let xs : List ℤ = z.re.re ∷ z.re.im ∷ z.im.re ∷ z.im.im ∷ [] in
    let p0 = eqn ℤR xs (⊟ (var 2)) by_i.re.re tt in
    let p1 = eqn ℤR xs (⊟ (var 3)) by_i.re.im tt in
    let p2 = eqn ℤR xs (var 0) by_i.im.re tt in
    let p3 = eqn ℤR xs (var 1) by_i.im.im tt in
    λ i. number (p0 i) (p1 i) (p2 i) (p3 i)

pub opposite : (z : Number) (t : ℕ) → t < 4 → numbers.neg (numbers.◌⊗◌ z (turned t).num) ≡ numbers.◌⊗◌ z (turned (t + 2)).num
opposite z t l = sym (mul_neg ℤ√2i z (turned t).num) ∙ ap (numbers.◌⊗◌ z) (go t l)
  where
    go : (t : ℕ) → t < 4 → numbers.neg (turned t).num ≡ (turned (t + 2)).num
    go zero l = refl
    go (suc zero) l = refl
    go (suc (suc zero)) l = refl
    go (suc (suc (suc zero))) l = refl
    go (suc (suc (suc (suc t)))) l = absurd (omega arith)

-- a number from −1 to 1 may be turned
pub roomy_factor : {x : Exact} → Coords 1 narrow_exponent x → Within room_numerator x.num
roomy_factor {x} h = widen narrow_numerator room_numerator x.num (lit≤ tt) (factor_within x h)

-- ---- coefficients
pub record Small (f : Coefficients) : Type 0 where
  pub own : Coords 1 narrow_exponent f.own
  pub other : Coords 1 narrow_exponent f.other
  pub level : f.own.exp ≡ f.other.exp

abbrev are_small : Coefficients → Bool
are_small f = is_coords narrow_exponent f.own && (is_coords narrow_exponent f.other && eqb f.own.exp f.other.exp)

smalls : (f : Coefficients) → are_small f ≡ true → Small f
smalls f e =
    let (a, r) = and_split (is_coords narrow_exponent f.own) (is_coords narrow_exponent f.other && eqb f.own.exp f.other.exp) e in
    let (b, c) = and_split (is_coords narrow_exponent f.other) (eqb f.own.exp f.other.exp) r in
    record { own = coords_is narrow_exponent f.own a; other = coords_is narrow_exponent f.other b; level = eqb-true f.own.exp f.other.exp c }

pub pair-level : {p : Pair} {f : Coefficients} → p ≡ pair_of f → Small f → Level p
pair-level e s = subst Level (sym e) record { own = s.own; other = s.other; level = s.level }

pub turn_small : (k : ℕ) → k < 8 → Small (turn_by k)
turn_small k l = smalls (turn_by k) (holds-true (exhaust (λ (k : ℕ). are_small (turn_by k)) 8 tt k l))

pub onto-small : (v : ℕ) → Small (onto v)
onto-small v = go (eqb v 0)
  where
    go : (b : Bool) → Small (record { own = half one; other = half (cond b one (exact.neg one)) })
    go true = smalls (onto 0) refl
    go false = smalls (onto 1) refl

-- ---- rows
-- the entries before an axis and before 1, of small coefficients
pub row-small : {f : Coefficients} → Small f → (m : Mask) (i : ℕ) → Coords 1 narrow_exponent (axis_row m f.own f.other i)
row-small {f} h m i = go (eqb (i % 2) 0)
  where
    go : (b : Bool) → Coords 1 narrow_exponent (cond b f.own (exact.◌⊗◌ f.other (axis_entry m (i / 2))))
    go true = h.own
    go false = turned-small f.other (turns_in m (i / 2)) h.other

-- a row by the quarter turns of the axis's entry
pub row_turned : (m : Mask) (p : Pair) (r t : ℕ) → turned t ≡ axis_entry m r → row_about p t ≡ (rows_about m p).row r
row_turned m p r t e = ap (λ (y : Exact). record { own = p.own.n; other = list_of (numbers.◌⊗◌ (number_of p.other.n) y.num) }) e

-- what rows stand for
pub axis_represented : (m : Mask) (pair : Pair) → Level pair → (d : ℕ) → Represents (rows_about m pair) d (axis_row m (value pair.own) (value pair.other))
axis_represented m pair h d = rows_stand with h.own.exponent stands (λ i u. entry-of (i / 2) (eqb (i % 2) 0))
  where
    with : ℕ → Entries
    with r = record { own = pair.own; other = scalar_of (exact.◌⊗◌ (value pair.other) (axis_entry m r)) }

    stands : (r : ℕ) → Stands (row_about pair (turns_in m r)) (with r) pair.own.e
    stands r =
        let x : Exact = value pair.other in
        let y : Number = numbers.◌⊗◌ x.num (axis_entry m r).num in
        let e : exact.◌⊗◌ x (axis_entry m r) ≡ lowest y pair.own.e = turned_is x (turns_in m r) ∙ ap (lowest y) (sym h.level) in
        record {
          own_reached = le_refl pair.own.e;
          other_reached = subst (λ (x : Exact). x.exp ≤ pair.own.e) (sym e) (low_exp ℤ√2i exact_halving y pair.own.e);
          own = sym (scaled-none (number_of pair.own.n) (pair.own.e - pair.own.e) (omega arith));
          other = sym (ap (over pair.own.e) e ∙ over_lowest pair.own.e y);
        }

    entry-of : (r : ℕ) (b : Bool) → value (cond b (with r).own (with r).other) ≡ cond b (value pair.own) (exact.◌⊗◌ (value pair.other) (axis_entry m r))
    entry-of r true = refl
    entry-of r false = refl
