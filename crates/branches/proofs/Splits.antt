-- A measure and a reset of a qubit: their operators are projections, and their mask is one bit.
use mathlib.Core.Path.{◌≡◌, refl, sym, ap, ◌∙◌, subst}
use mathlib.Core.Logic.{◌≢◌}
use mathlib.Core.Bool.{Bool, true, false, cond, not, ◌||◌, true≢false}
use Prim.Native.Nat.{ℕ, ◌*◌, ◌-◌, ◌^◌, ◌≤◌, ◌<◌}
use native.Mathlib.Decide.{ℕ_discrete}
use native.Mathlib.Omega.{arith}
use lib.Bits.{bit_and, and_zero_r}
use lib.Dec.{T, eqb}
use lib.Pow.{pow_pos}
use borrow.Author.Tests.{eqb-true, eq-eqb, ne_eqb}
use Rattle.std.specs.Prelude.{is_some}
use Rattle.algebra.specs.Lists.{all_below}
use Rattle.algebra.proofs.Tests.{exhaust, holds-true}
use Rattle.exact.specs.Exact.{Exact}
use Rattle.gate.specs.Gate.{Gate, gate, elem, measure, reset, splits, bit_of}
use Rattle.gate.specs.Inner.Kinds.{splitting}
use Rattle.gate.specs.Inner.Entries.{flips, row_entry, Ready}
use Rattle.gate.specs.Inner.Rows.{Represents}
use Rattle.gate.specs.Inner.Tables.{kept_row, exchanged_row, rows_by}
use Rattle.gate.specs.declared.rows.Row.{Row}
use Rattle.gate.specs.declared.tables.Core.{Core}
use Rattle.gate.proofs.Gate.{elem_in}
use Rattle.gate.proofs.Partner.{small}
use Rattle.gate.proofs.Represented.{rows_same, gate-represented}
use Rattle.branches.specs.Inner.Project.{part, projection}
use Rattle.branches.proofs.Gates.{splits-some}

-- of one bit a number has nothing or the whole
abbrev whole_or_none : ℕ → ℕ → Bool
whole_or_none w r = eqb (bit_and r (2 ^ w)) 0 || eqb (bit_and r (2 ^ w)) (2 ^ w)

whole_computed : T (all_below 5 (λ (w : ℕ). all_below 32 (whole_or_none w)))
whole_computed = tt

whole_bit : (w r : ℕ) → w < 5 → r < 32 → (bit_and r (2 ^ w) ≡ 0 → ⊥) → bit_and r (2 ^ w) ≡ 2 ^ w
whole_bit w r hw hr n =
    let x = bit_and r (2 ^ w) in
    eqb-true x (2 ^ w) (go (eqb x 0) (holds-true (exhaust (whole_or_none w) 32 (exhaust (λ (w : ℕ). all_below 32 (whole_or_none w)) 5 whole_computed w hw) r hr)) (ne_eqb x 0 n))
  where
    go : (b : Bool) {c : Bool} → b || c ≡ true → b ≡ false → c ≡ true
    go true e f = absurd (true≢false f)
    go false e f = e

-- ---- a projection is an operator of a gate with no controls, by this matrix
abbrev half : Bool → Bool → Core
half high moved = record { low = part moved (not high); high = part moved high; e = 0 }

module _ {w r : ℕ} (hw : w < 5) (hr : r < 32) (high moved : Bool) where
  abbrev m : ℕ
  m = 2 ^ w

  row-is : (rows_by 0 m (half high moved)).row r ≡ (projection m high moved).row r
  row-is = ap (λ (t : Bool). cond t target (kept_row 0)) (eq-eqb (bit_and r 0) 0 (and_zero_r r)) ∙ go (ℕ_discrete (bit_and r m) 0)
    where
      target : Row
      target = cond (eqb (bit_and r m) 0) (part moved (not high)) (cond (eqb (bit_and r m) m) (part moved high) (exchanged_row 0))

      some : m ≢ 0
      some e = omega (arith, e, pow_pos w)

      none : (high : Bool) → not high ≡ eqb 0 (cond high m 0)
      none true = sym (ne_eqb 0 m (λ e. some (sym e)))
      none false = refl

      all : (high : Bool) → high ≡ eqb m (cond high m 0)
      all true = sym (eq-eqb m m refl)
      all false = sym (ne_eqb m 0 some)

      go : Dec (bit_and r m ≡ 0) → target ≡ (projection m high moved).row r
      go (yes e) = rw e (ap (part moved) (none high))
      go (no n) =
          let e = whole_bit w r hw hr n in
          ap (λ (t : Bool). cond t (part moved (not high)) (cond (eqb (bit_and r m) m) (part moved high) (exchanged_row 0))) (ne_eqb (bit_and r m) 0 n)
          ∙ ap (λ (t : Bool). cond t (part moved high) (exchanged_row 0)) (eq-eqb (bit_and r m) m e)
          ∙ ap (part moved) (all high ∙ ap (λ (k : ℕ). eqb k (cond high m 0)) (sym e))

-- ---- a gate of one of the two kinds
pub record Halves (n : ℕ) (g : Gate) (m : ℕ) (resets : Bool) : Type 0 where
  pub first : Represents (projection m false false) (2 ^ n * 2) (row_entry n g 0)
  pub second : Represents (projection m (not resets) resets) (2 ^ n * 2) (row_entry n g 1)

module _ {n : ℕ} (few : n ≤ 5) (m a b c k : ℕ) where
  abbrev Asked : ℕ → Type 0
  Asked kind = let g = gate kind a b c k in Ready n g 0 → Ready n g 1 → m ≡ flips n g → (resets : Bool) → is_some (bit_of g) ≡ not resets → Halves n g m resets

  projected : (high moved : Bool) {E : ℕ → Exact} → m ≡ 2 ^ (n - 1 - a) → Represents (rows_by 0 m (half high moved)) (2 ^ n * 2) E → Represents (projection m high moved) (2 ^ n * 2) E
  projected high moved {E} e h =
      rows_same refl (λ r l. subst (λ (m : ℕ). (rows_by 0 m (half high moved)).row r ≡ (projection m high moved).row r) (sym e) (row-is {w = n - 1 - a} (omega arith) (small few r (omega (arith, l))) high moved)) h

  of-measure : Asked measure
  of-measure ready other e true t = absurd (true≢false t)
  of-measure ready other e false t =
      record { first = projected false false e (gate-represented ready (half false false) refl few e refl); second = projected true false e (gate-represented other (half true false) refl few e refl) }

  of-reset : Asked reset
  of-reset ready other e true t =
      record { first = projected false false e (gate-represented ready (half false false) refl few e refl); second = projected false true e (gate-represented other (half false true) refl few e refl) }
  of-reset ready other e false t = absurd (true≢false (sym t))

  halves-of : (kind : ℕ) → elem kind splitting ≡ true → Asked kind
  halves-of = elem_in Asked splitting (of-measure, (of-reset, tt))

splitting-kind : (g : Gate) → (splits g ≡ 0 → ⊥) → elem g.kind splitting ≡ true
splitting-kind g h = go (elem g.kind splitting) h
  where
    go : (b : Bool) → (◌≡◌ {A = ℕ} (cond b 1 0) 0 → ⊥) → b ≡ true
    go true h = refl
    go false h = absurd (h refl)

pub halves : {n m : ℕ} {g : Gate} → n ≤ 5 → Ready n g 0 → (splits g ≡ 0 → ⊥) → m ≡ flips n g → (resets : Bool) → is_some (bit_of g) ≡ not resets → Halves n g m resets
halves {m = m} {g} few ready some =
    halves-of few m g.a g.b g.c g.k g.kind (splitting-kind g some) ready (record { known = ready.known; on = ready.on; able = ready.able; which = omega (arith, splits-some g some) })
