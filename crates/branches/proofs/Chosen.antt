-- A gate's rows by its masks and its two-by-two matrix: which rows a row and its partner are.
use mathlib.Core.Path.{◌≡◌, refl, sym, ap, ◌∙◌, transport}
use mathlib.Core.Logic.{◌≢◌}
use mathlib.Core.Bool.{Bool, true, false, cond}
use mathlib.Core.List.{List}
use Prim.Native.Nat.{ℕ, ◌<◌}
use native.Mathlib.Omega.{arith}
use lib.Bits.{bit_and, bit_xor, xor_assoc, xor_self}
use lib.Dec.{eqb, ltb}
use lib.IntN.{ℤ}
use borrow.Author.Tests.{lt-ltb, eq-eqb, ne_eqb}
use Rattle.std.proofs.lemmas.Nat.{and_xor_apart}
use Rattle.algebra.proofs.Tests.{equal2}
use Rattle.exact.specs.Exact.{number_of}
use Rattle.gate.specs.declared.rows.Row.{Row}
use Rattle.gate.specs.declared.tables.Core.{Core}
use Rattle.gate.specs.Inner.Rows.{Form}
use Rattle.rows.specs.Inner.Rows.{Mixing, mixed}
use Rattle.gate.specs.Inner.Tables.{one_over, zeros, kept_row, exchanged_row, rows_by}
use Rattle.branches.specs.Inner.Step.{MasksApart}

-- 0 or 1 where the bits m of r are all 0 or all 1, else 2
abbrev class : ℕ → ℕ → ℕ
class m r = cond (eqb (bit_and r m) 0) 0 (cond (eqb (bit_and r m) m) 1 2)

-- what is said of r where its partner is above it
abbrev first : ℕ → ℕ → ℕ → ℕ
first m r k = cond (ltb r (bit_xor r m)) k 0

own-class : (m r : ℕ) → m < 32 → r < 32 → first m r (class m r) ≡ first m r (cond (eqb (bit_and r m) 0) 0 2)
own-class = equal2 (λ (m r : ℕ). first m r (class m r)) (λ (m r : ℕ). first m r (cond (eqb (bit_and r m) 0) 0 2)) 32 32 tt

partner-class : (m r : ℕ) → m < 32 → r < 32 → first m r (class m (bit_xor r m)) ≡ first m r (cond (eqb (bit_and r m) 0) 1 2)
partner-class = equal2 (λ (m r : ℕ). first m r (class m (bit_xor r m))) (λ (m r : ℕ). first m r (cond (eqb (bit_and r m) 0) 1 2)) 32 32 tt

-- a row is not its own partner
pub moved : {held m : ℕ} → MasksApart held m → (r : ℕ) → bit_xor r m ≢ r
moved {m = m} a r e =
    let f : m ≡ 0 = sym (ap (λ (k : ℕ). bit_xor k m) (xor_self r)) ∙ xor_assoc r r m ∙ ap (bit_xor r) e ∙ xor_self r in
    omega (arith, f, a.some)

-- a row by its class
abbrev of_class : Row → Row → Row → ℕ → Row
of_class low high exchanged k = cond (eqb k 0) low (cond (eqb k 1) high exchanged)

by_class : (low high exchanged : Row) (t v : Bool) → cond t low (cond v high exchanged) ≡ of_class low high exchanged (cond t 0 (cond v 1 2))
by_class low high exchanged true v = refl
by_class low high exchanged false true = refl
by_class low high exchanged false false = refl

-- both rows of a pair, r first
module _ {held m : ℕ} (a : MasksApart held m) (c : Core) {r : ℕ} (hm : m < 32) (hr : r < 32) (h : r < bit_xor r m) where
  abbrev R : Form
  R = rows_by held m c

  abbrev s : ℕ
  s = bit_xor r m

  abbrev Are : Row → Row → Type 0
  Are x y = (R.row r ≡ x) × (R.row s ≡ y)

  held-same : bit_and s held ≡ bit_and r held
  held-same = and_xor_apart held r m a.apart

  counted : (k : ℕ) → first m r k ≡ k
  counted k = ap (λ (b : Bool). cond b k 0) (lt-ltb r s h)

  -- where all are 1
  module _ (e : bit_and r held ≡ held) where
    abbrev exchanged : Row
    exchanged = exchanged_row c.e

    mixed-row : (k n : ℕ) → bit_and k held ≡ held → class m k ≡ n → R.row k ≡ of_class c.low c.high exchanged n
    mixed-row k n f g =
        ap (λ (b : Bool). cond b (cond (eqb (bit_and k m) 0) c.low (cond (eqb (bit_and k m) m) c.high exchanged)) (kept_row c.e)) (eq-eqb (bit_and k held) held f)
        ∙ by_class c.low c.high exchanged (eqb (bit_and k m) 0) (eqb (bit_and k m) m)
        ∙ ap (of_class c.low c.high exchanged) g

    both : {t : Bool} → eqb (bit_and r m) 0 ≡ t → Are (of_class c.low c.high exchanged (cond t 0 2)) (of_class c.low c.high exchanged (cond t 1 2))
    both {t} f = (
      mixed-row r (cond t 0 2) e (sym (counted (class m r)) ∙ own-class m r hm hr ∙ counted (cond (eqb (bit_and r m) 0) 0 2) ∙ ap (λ (b : Bool). cond b 0 2) f),
      mixed-row s (cond t 1 2) (held-same ∙ e) (sym (counted (class m s)) ∙ partner-class m r hm hr ∙ counted (cond (eqb (bit_and r m) 0) 1 2) ∙ ap (λ (b : Bool). cond b 1 2) f),
    )

    pub mixed_rows : bit_and r m ≡ 0 → Are c.low c.high
    mixed_rows f = both (eq-eqb (bit_and r m) 0 f)

    pub exchanged_rows : bit_and r m ≢ 0 → {o : List ℤ} → o ≡ one_over c.e → Are (record { own = zeros; other = o }) (record { own = zeros; other = o })
    exchanged_rows f eo =
        let (x, y) = both (ne_eqb (bit_and r m) 0 f) in
        (x ∙ other eo, y ∙ other eo)
      where
        other : {o : List ℤ} → o ≡ one_over c.e → exchanged ≡ record { own = zeros; other = o }
        other eo = ap (λ (o : List ℤ). record { own = zeros; other = o }) (sym eo)

  -- known rows are mixed
  module _ {x y : Row} (are : Are x y) (b : List ℤ) (p q d : ℕ) where
    pub mixing_by : Mixing b (number_of (R.row r).own) (number_of (R.row r).other) p (number_of (R.row s).own) (number_of (R.row s).other) q d → Mixing b (number_of x.own) (number_of x.other) p (number_of y.own) (number_of y.other) q d
    mixing_by = transport (λ i. Mixing b (number_of (are.0 i).own) (number_of (are.0 i).other) p (number_of (are.1 i).own) (number_of (are.1 i).other) q d)

    pub mixed_by : {w : List ℤ} → w ≡ mixed b (number_of x.own) (number_of x.other) p (number_of y.own) (number_of y.other) q d
        → w ≡ mixed b (number_of (R.row r).own) (number_of (R.row r).other) p (number_of (R.row s).own) (number_of (R.row s).other) q d
    mixed_by g = g ∙ sym (λ i. mixed b (number_of (are.0 i).own) (number_of (are.0 i).other) p (number_of (are.1 i).own) (number_of (are.1 i).other) q d)
