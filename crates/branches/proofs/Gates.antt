-- One gate in words: how many operators it has, what its step asks, and what it leaves.
use mathlib.Core.Path.{◌≡◌, refl, sym, ap, ◌∙◌, subst, subst₂, fun_ext}
use mathlib.Core.Bool.{Bool, true, false, cond, ◌||◌}
use mathlib.Core.List.{List, [], ◌∷◌}
use Prim.Native.Nat.{ℕ, zero, suc, ◌+◌, ◌*◌, ◌-◌, ◌/◌, ◌%◌, ◌^◌, ◌≤◌, ◌<◌}
use native.Mathlib.Nat.{mod-lt, le_of_eq}
use native.Mathlib.Omega.{arith}
use lib.Bits.{bit_and, bit_xor}
use lib.Pow.{pow_mono, pow_pos}
use lib.ListN.{length}
use lib.IntN.{ℤ}
use Rattle.std.specs.Prelude.{Some, None, eqb, unwrap_or}
use Rattle.algebra.specs.Words.{blocks}
use Rattle.algebra.specs.Inner.Apart.{Apart}
use Rattle.exact.specs.Exact.{is_lowest, narrow_exponent}
use Rattle.exact.specs.Inner.Sizes.{Coords}
use Rattle.gate.specs.Gate.{Gate, elem, measure, reset, splits, bit_of}
use Rattle.gate.specs.Operators.{operators}
use Rattle.gate.specs.Inner.Entries.{flips, controls, core_of, partner, row_entry}
use Rattle.gate.specs.Inner.Rows.{Form, entry_in, Represents}
use Rattle.gate.specs.declared.tables.Core.{Core}
use Rattle.gate.specs.Inner.Tables.{is_core, rows_by}
use Rattle.gate.proofs.Masks.{masks-apart}
use Rattle.gate.proofs.Partner.{row-two}
use Rattle.gate.proofs.Represented.{represented, sized, gate-represented}
use Rattle.kraus.proofs.Counting.{operators-length}
use Rattle.branches.specs.declared.bank.Bank.{Bank}
use Rattle.branches.specs.Inner.Store.{no_bit, outcome_bit}
use Rattle.branches.specs.Inner.Bank.{branch_size}
use Rattle.branches.specs.Inner.Step.{Step, StepInPlace, MasksApart, operator_in, product_words, step_words, turned}
use Rattle.branches.specs.Inner.Run.{gate_stepped, place_after, GateStep}
use Rattle.branches.proofs.Products.{partner_lt, product_same}
use Rattle.branches.proofs.Steps.{none_is}

splits-one : (g : Gate) → splits g ≤ 1
splits-one g = go (elem g.kind (measure ∷ reset ∷ []))
  where
    go : (b : Bool) → cond b 1 0 ≤ 1
    go true = omega arith
    go false = omega arith

two-operators : (g : Gate) → length (operators g) ≤ 2
two-operators g = omega (arith, operators-length g, pow_mono {i = splits g} {j = 1} (splits-one g))

pub operators-some : (g : Gate) → 1 ≤ length (operators g)
operators-some g = omega (arith, operators-length g, pow_mono {i = 0} {j = splits g} (omega arith))

-- a gate that splits no branch has one operator, and any other has two
pub splits-none : (g : Gate) → splits g ≡ 0 → length (operators g) ≡ 1
splits-none g e = operators-length g ∙ ap (λ (k : ℕ). 2 ^ k) e

pub splits-some : (g : Gate) → (splits g ≡ 0 → ⊥) → length (operators g) ≡ 2
splits-some g h = let e : splits g ≡ 1 = omega (arith, splits-one g, h) in operators-length g ∙ ap (λ (k : ℕ). 2 ^ k) e

-- a gate that splits no branch leaves each in its place and writes no bit, and any other has its products in the other bank
pub place-kept : (g : Gate) (from to : ℕ) → splits g ≡ 0 → from ≡ place_after g from to
place-kept g from to e = ap (λ (k : ℕ). cond (eqb k 0) from to) (sym e)

pub place-other : (g : Gate) (from to : ℕ) → (splits g ≡ 0 → ⊥) → to ≡ place_after g from to
place-other g from to h = let e : splits g ≡ 1 = omega (arith, splits-one g, h) in ap (λ (k : ℕ). cond (eqb k 0) from to) (sym e)

pub no_bit_is : (g : Gate) → splits g ≡ 0 → no_bit ≡ outcome_bit g
no_bit_is g e = go (eqb g.kind measure) (eqb g.kind reset) (le_of_eq e)
  where
    go : (a b : Bool) → cond (a || (b || false)) 1 0 ≤ 0 → no_bit ≡ cond a g.b no_bit
    go true b h = absurd (omega arith)
    go false b h = refl

-- the bit that a gate writes, as a number
pub bit_is : (g : Gate) → unwrap_or (bit_of g) no_bit ≡ outcome_bit g
bit_is g = elim (eqb g.kind measure) as (λ (b : Bool). unwrap_or (cond b (Some g.b) None) no_bit ≡ cond b g.b no_bit) [ true ↦ refl | false ↦ refl ]

-- ---- one gate, read from its words, and the rows of its k operators
module _ {l : List ℤ} {g read : Gate} {n d from to count : ℕ} (p : GateStep l g n d from to count) (e : read ≡ g) {first second : Form} {m k : ℕ} (m_is : m ≡ flips n read) (k_is : length (operators read) ≡ k)
    (one : Represents first (2 ^ n * 2) (row_entry n read 0)) (other : 1 < k → Represents second (2 ^ n * 2) (row_entry n read 1)) where
  abbrev ops : ℕ
  ops = length (operators g)

  ops_are : ops ≡ k
  ops_are = ap (λ (g : Gate). length (operators g)) (sym e) ∙ k_is

  masks : m ≡ flips n g
  masks = m_is ∙ ap (flips n) e

  -- the operator with a number
  abbrev R : ℕ → Form
  R = operator_in first second

  partner-lt : (r : ℕ) → r < d → partner n g r < d
  partner-lt r h = partner_lt p.ready p.few p.dim h

  rows : (v : ℕ) → v < ops → Represents (R v) (d * 2) (row_entry n g v)
  rows v h = subst₂ (λ (d : ℕ) (g : Gate). Represents (R v) (d * 2) (row_entry n g v)) (sym p.dim) e (go v h)
    where
      go : (v : ℕ) → v < ops → Represents (R v) (2 ^ n * 2) (row_entry n read v)
      go zero h = one
      go (suc zero) h = other (omega (arith, ops_are))
      go (suc (suc v)) h = absurd (omega (arith, two-operators g))

  entries : (v i : ℕ) → v < ops → i < d * 2 → Coords 1 narrow_exponent (row_entry n g v i) × (is_lowest (row_entry n g v i) ≡ true)
  entries v i hv h = p.entries v (i / 2) (cond (eqb (i % 2) 0) (i / 2) (partner n g (i / 2))) hv (omega (arith, p.dim)) (subst (λ (e : ℕ). cond (eqb (i % 2) 0) (i / 2) (partner n g (i / 2)) < e) p.dim column)
    where
      column : cond (eqb (i % 2) 0) (i / 2) (partner n g (i / 2)) < d
      column = elim (eqb (i % 2) 0) as (λ (b : Bool). cond b (i / 2) (partner n g (i / 2)) < d) [ true ↦ omega arith | false ↦ partner-lt (i / 2) (omega arith) ]

  pub gate_in_place : StepInPlace l m (operator_in first second) (k - 1) from d count
  gate_in_place = record {
    dim = omega (arith, p.dim, pow_mono {i = n} {j = 5} p.few);
    below = λ r h. subst (λ (m : ℕ). bit_xor r m < d) (sym masks) (partner-lt r h);
    sized = λ v h. let q : v < ops = omega (arith, ops_are, operators-some g) in sized (rows v q) (λ i hi. (entries v i q hi).0);
    room = p.from_room;
    factors = p.factors;
  }

  pub gate_splits : k ≡ 2 → Step l m (operator_in first second) from to d count
  gate_splits two = record {
    branches = subst (λ (k : ℕ). StepInPlace l m R (k - 1) from d count) two gate_in_place;
    to_room = subst (λ (k : ℕ). to + count * k * branch_size d ≤ length l) (ops_are ∙ two) p.to_room;
    from_apart = subst (λ (k : ℕ). Apart from (count * branch_size d) to (count * k * branch_size d)) (ops_are ∙ two) p.from_apart;
    stores = p.stores;
  }

  -- each product is one with an operator of the gate
  words : (bit j : ℕ) → step_words l m (λ (v : ℕ). entry_in (R v)) (λ (j : ℕ). j % ops) ops from d bit j ≡ step_words l (flips n g) (row_entry n g) (λ (j : ℕ). j % ops) ops from d bit j
  words bit j =
      let v = j % ops in
      let h : v < ops = mod-lt j (operators-some g) in
      let old = from + j / ops * branch_size d in
      (λ i. product_words l (masks i) (entry_in (R v)) old d bit v) ∙ product_same l (flips n g) old d bit v (λ i hi. represented (rows v h) i hi (entries v i h hi).1)

  -- the bank that the products are in, and their words
  pub gate_done : {q : List ℤ} {at total bit : ℕ} {number : ℕ → ℕ} → at ≡ place_after read from to → total ≡ count * k → number ≡ (λ (j : ℕ). j % k) → bit ≡ outcome_bit read
      → q ≡ blocks (branch_size d) l at total (step_words l m (λ (v : ℕ). entry_in (operator_in first second v)) number k from d bit)
      → ◌≡◌ {A = Bank} (record { at = at; d = d; count = total }) (record { at = place_after g from to; d = d; count = count * length (operators g) }) × (q ≡ gate_stepped l n d from (place_after g from to) count g)
  gate_done {at = at} {total = total} {bit = bit} {number = number} a t v u h = (
    λ i. record { at = place i; d = d; count = number_of i },
    h ∙ (λ i. blocks (branch_size d) l (place i) (number_of i) (step_words l m (λ (v : ℕ). entry_in (R v)) (digit i) (sym ops_are i) from d (written i)))
        ∙ ap (blocks (branch_size d) l (place_after g from to) (count * ops)) (fun_ext (words (outcome_bit g))),
  )
    where
      place : at ≡ place_after g from to
      place = a ∙ ap (λ (g : Gate). place_after g from to) e

      number_of : total ≡ count * ops
      number_of = t ∙ ap (λ (k : ℕ). count * k) (sym ops_are)

      written : bit ≡ outcome_bit g
      written = u ∙ ap outcome_bit e

      digit : number ≡ (λ (j : ℕ). j % ops)
      digit = v ∙ ap (λ (k : ℕ). λ (j : ℕ). j % k) (sym ops_are)

-- ---- a gate that splits nothing, by its two-by-two matrix c
module _ {l : List ℤ} {g : Gate} {n d from to count : ℕ} (p : GateStep l g n d from to count) (none : splits g ≡ 0) (c : Core) (tested : is_core c (core_of g 0) ≡ true) {m held : ℕ}
    (m_is : m ≡ flips n g) (held_is : held ≡ controls n g) where
  abbrev by_core : Form
  by_core = rows_by held m c

  rows_are : Represents by_core (2 ^ n * 2) (row_entry n g 0)
  rows_are = gate-represented p.ready c tested p.few m_is held_is

  pub turning_asked : MasksApart held m × StepInPlace l m (operator_in by_core by_core) 0 from d count
  turning_asked = (
    record { some = omega (arith, m_is, (row-two p.ready p.few 0 (pow_pos n)).other); apart = (λ i. bit_and (m_is i) (held_is i)) ∙ masks-apart p.ready p.few },
    gate_in_place p refl m_is (splits-none g none) rows_are (λ h. absurd (omega arith)),
  )

  pub turning_done : {q : List ℤ} → q ≡ turned l m by_core from d count → q ≡ gate_stepped l n d from from count g
  turning_done h =
      (gate_done p refl m_is (splits-none g none) rows_are (λ h. absurd (omega arith)) (place-kept g from to none) (omega arith) (none_is 0) (no_bit_is g none) h).1
      ∙ ap (λ (k : ℕ). gate_stepped l n d from k count g) (sym (place-kept g from to none))

-- ---- what a step leaves, said of the gate that was read
pub gate_left : (l : List ℤ) (n d from to count : ℕ) {read g : Gate} → read ≡ g → {at total : ℕ} → at ≡ place_after read from to → total ≡ count * length (operators read) → {q : List ℤ} → q ≡ gate_stepped l n d from at count read
    → ◌≡◌ {A = Bank} (record { at = at; d = d; count = total }) (record { at = place_after g from to; d = d; count = count * length (operators g) }) × (q ≡ gate_stepped l n d from (place_after g from to) count g)
gate_left l n d from to count {read} e {at} {total} a t h =
    let place = a ∙ ap (λ (g : Gate). place_after g from to) e in
    let number = t ∙ ap (λ (g : Gate). count * length (operators g)) e in
    (λ i. record { at = place i; d = d; count = number i }, h ∙ (λ i. gate_stepped l n d from (place i) count (e i)))
