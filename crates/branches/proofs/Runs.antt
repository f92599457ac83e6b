-- A circuit run gate by gate: what holds of the buffer after i gates, what the next gate may ask, and what it leaves.
use mathlib.Core.Path.{◌≡◌, refl, sym, ap, ◌∙◌, subst}
use mathlib.Core.Bool.{Bool, true, false, cond}
use mathlib.Core.Logic.{◌⊎◌, inl, inr, ⊎_elim}
use mathlib.Core.List.{List, [], ◌∷◌, foldl-append}
use Prim.Native.Nat.{ℕ, ◌+◌, ◌*◌, ◌-◌, ◌/◌, ◌%◌, ◌^◌, ◌≤◌, ◌<◌}
use native.Mathlib.Nat.{mul-le-mul, le_refl, le_of_eq, add-mul, mul_assoc, zero-add}
use native.Mathlib.Numerals.{add-one}
use native.Mathlib.Omega.{arith}
use lib.Dec.{eqb}
use lib.Pow.{pow_mono, pow_pos}
use lib.ListN.{length, get_or, take, get_or-append}
use lib.Seq.{sets, take-suc, take_all, length-sets}
use lib.IntN.{ℤ, pos}
use Rattle.algebra.specs.Lists.{All, total}
use Rattle.algebra.proofs.Lists.{every-all, all_get_d}
use Rattle.algebra.proofs.Totals.{sub_whole, sub_take, sub_total}
use Rattle.algebra.proofs.Blocks.{Writing, wrote, kept, long, sets_at, sets_above}
use Rattle.gate.specs.Gate.{Gate, gate_at, gates_of, splits, gate_size}
use Rattle.gate.specs.Operators.{operators}
use Rattle.gate.specs.Inner.Entries.{valid, flips, row_entry}
use Rattle.gate.proofs.Bits.{Word}
use Rattle.gate.proofs.Dispatch.{valid_ready}
use Rattle.gate.proofs.Listed.{gates-length, gates-at}
use Rattle.kraus.specs.Branch.{Store, Branch, branches, start, gate_step}
use Rattle.kraus.proofs.Counting.{branch_count, branches-bits}
use Rattle.kraus.proofs.Limits.{Enough, kraus_exponent, circuit_enough}
use Rattle.branches.specs.Inner.Store.{outcome_bit}
use Rattle.branches.specs.Inner.Bank.{branch_size, slot_size, branch_words, bank_words, identity_branch, Holds}
use Rattle.branches.specs.Inner.Step.{step_words}
use Rattle.branches.specs.Inner.Run.{work_size, place_after, gate_stepped, GateStep, Runs, Ran}
use Rattle.branches.proofs.Banks.{length-branch, length-bank}
use Rattle.branches.proofs.Steps.{length-product}
use Rattle.branches.proofs.Gates.{operators-some}
use Rattle.branches.proofs.Link.{gate-length, step_entries, step_factors, step-store, step_held}

pub branch_fits : (d : ℕ) → 1 ≤ d → branch_size d ≤ slot_size d
branch_fits d h = omega (arith, mul-le-mul h h)

-- the work buffer has room for two banks
pub work_room : (d banks : ℕ) → 1 ≤ d → 2 * (banks * branch_size d) ≤ work_size d banks
work_room d banks h = omega (arith, add-mul (2 * banks) 2 (slot_size d), mul_assoc 2 banks (slot_size d), mul-le-mul (le_refl banks) (branch_fits d h))

-- ---- two banks, one after the other
-- what stays in its bank, or goes to the other, lies in one of them
pub in_bank : {bank from at : ℕ} (b : Bool) → at ≡ cond b from (bank - from) → (from ≡ 0) ⊎ (from ≡ bank) → (at ≡ 0) ⊎ (at ≡ bank)
in_bank true a p = ⊎_elim (λ e. inl (a ∙ e)) (λ e. inr (a ∙ e)) p
in_bank false a p = ⊎_elim (λ e. inr (omega arith)) (λ e. inl (omega arith)) p

-- and what is no longer than a bank ends within both
pub ends_within : {bank at size : ℕ} → (at ≡ 0) ⊎ (at ≡ bank) → size ≤ bank → at + size ≤ 2 * bank
ends_within p h = ⊎_elim (λ e. omega arith) (λ e. omega arith) p

-- the buffer after i gates: their branches at `from`
pub record Running (l₀ : List ℤ) (ws : List ℕ) (σ : Store) (n d banks : ℕ) (l : List ℤ) (from count i : ℕ) : Type 0 where
  pub below : i ≤ length ws / gate_size
  pub counted : count ≡ length (branches n σ (take i (gates_of ws)))
  pub held : Holds l from (bank_words d (branches n σ (take i (gates_of ws))))
  pub place : (from ≡ 0) ⊎ (from ≡ banks * branch_size d)
  pub same_length : length l ≡ length l₀
  pub past : (k : ℕ) → work_size d banks ≤ k → get_or l k (pos 0) ≡ get_or l₀ k (pos 0)

module _ {l₀ : List ℤ} {ws : List ℕ} {σ : Store} {n banks : ℕ} (r : Runs l₀ ws σ n (2 ^ n) banks) where
  abbrev d : ℕ
  d = 2 ^ n

  abbrev size : ℕ
  size = branch_size d

  abbrev bank : ℕ
  bank = banks * size

  abbrev after : ℕ → List Branch
  after i = branches n σ (take i (gates_of ws))

  count_le : (i : ℕ) → length (after i) ≤ banks
  count_le i = omega (
    arith,
    branch_count n σ (take i (gates_of ws)),
    r.banked,
    pow_mono {i = total splits (take i (gates_of ws))} {j = total splits (gates_of ws)} (sub_total splits (sub_take i (sub_whole (gates_of ws)))),
  )

  bank_le : (i : ℕ) → length (after i) * size ≤ bank
  bank_le i = mul-le-mul (count_le i) (le_refl size)

  -- the branch that all starts from
  module _ {b : List ℤ} (e : b ≡ sets l₀ 0 (branch_words (2 ^ n) (identity_branch (2 ^ n) σ))) where
    abbrev first : List ℤ
    first = branch_words d (identity_branch d σ)

    first-room : size ≤ length l₀
    first-room = omega (arith, r.room, work_room d banks (pow_pos n), branch_fits d (pow_pos n))

    running_begin : Running b ws σ n (2 ^ n) banks b 0 1 0
    running_begin = record {
      below = omega arith;
      counted = refl;
      held = record {
        room = omega (arith, ap length e, length-sets l₀ 0 first, length-bank d (start n σ), first-room);
        word = λ k h.
            let p : k < length first = omega (arith, length-bank d (start n σ), length-branch d (identity_branch d σ)) in
            ap (λ (m : List ℤ). get_or m (0 + k) (pos 0)) e ∙ sets_at first l₀ 0 k (pos 0) p (omega (arith, length-branch d (identity_branch d σ), first-room)) ∙ sym (get_or-append first [] (pos 0) k p);
      };
      place = inl refl;
      same_length = refl;
      past = λ k h. refl;
    }

  -- ---- gate i
  module _ {l : List ℤ} {from count i : ℕ} (w : Running l₀ ws σ n (2 ^ n) banks l from count i) (h : i < length ws / gate_size) where
    abbrev g : Gate
    g = gate_at ws (i * gate_size)

    abbrev ops : ℕ
    ops = length (operators g)

    abbrev none : Gate
    none = gate_at ws 0

    gate_is : get_or (gates_of ws) i none ≡ g
    gate_is = gates-at ws 0 (length ws / gate_size) i none h ∙ ap (λ (j : ℕ). gate_at ws (j * gate_size)) (zero-add i)

    listed : i < length (gates_of ws)
    listed = omega (arith, gates-length ws 0 (length ws / gate_size))

    ok : valid n (length σ) g ≡ true
    ok = subst (λ (g : Gate). valid n (length σ) g ≡ true) gate_is (all_get_d (λ (g : Gate). valid n (length σ) g ≡ true) (gates_of ws) (every-all (valid n (length σ)) _ (λ g e. e) (gates_of ws) r.accepted) i listed none)

    next : after (i + 1) ≡ gate_step n (after i) g
    next =
        ap (λ (k : ℕ). after k) (add-one i)
        ∙ ap (branches n σ) (take-suc (gates_of ws) i none listed)
        ∙ foldl-append (gate_step n) (start n σ) (take i (gates_of ws)) (get_or (gates_of ws) i none ∷ [])
        ∙ ap (gate_step n (after i)) gate_is

    next-length : length (after (i + 1)) ≡ length (after i) * ops
    next-length = ap length next ∙ gate-length n (length σ) g ok (identity_branch d σ) (after i)

    count-size : count * size ≤ bank
    count-size = omega (arith, bank_le i, ap (λ (k : ℕ). k * size) w.counted)

    next-count : count * ops ≡ length (after (i + 1))
    next-count = ap (λ (k : ℕ). k * ops) w.counted ∙ sym next-length

    next-size : count * ops * size ≤ bank
    next-size = omega (arith, bank_le (i + 1), ap (λ (k : ℕ). k * size) next-count)

    room : 2 * bank ≤ length l
    room = omega (arith, r.room, work_room d banks (pow_pos n), w.same_length)

    words : All (λ (b : Branch). Word (length σ) b.store) (after i)
    words = branches-bits n σ (take i (gates_of ws)) r.bits

    -- read past the end of a list
    abbrev z : Branch
    z = identity_branch d σ

    enough : Enough kraus_exponent n (after i)
    enough = circuit_enough n (length σ) σ (gates_of ws) r.accepted r.light i

    running_ready : GateStep l (gate_at ws (i * gate_size)) n (2 ^ n) from (banks * branch_size (2 ^ n) - from) count
    running_ready = record {
      few = r.few;
      dim = refl;
      ready = valid_ready n (length σ) g 0 ok (operators-some g);
      entries = step_entries n (length σ) g ok z (after i);
      from_room = omega (arith, ends_within w.place count-size, room);
      to_room = omega (arith, next-size, room);
      from_apart = ⊎_elim (λ e. inl (omega (arith, count-size))) (λ e. inr (omega (arith, next-size))) w.place;
      factors = λ b hb. step_factors n (length σ) g ok z (after i) w.held enough (omega arith) b (omega (arith, w.counted));
      stores = λ b hb. step-store n (length σ) g ok z (after i) w.held enough words r.short b (omega (arith, w.counted));
    }

    -- the products lie in one of the banks
    running_more : {q : List ℤ} {c at : ℕ} → c ≡ count * length (operators (gate_at ws (i * gate_size))) → at ≡ place_after (gate_at ws (i * gate_size)) from (banks * branch_size (2 ^ n) - from)
        → q ≡ gate_stepped l n (2 ^ n) from at count (gate_at ws (i * gate_size)) → Running l₀ ws σ n (2 ^ n) banks q at c (i + 1)
    running_more {q} {at = at} p a e = record {
      below = omega arith;
      counted = p ∙ next-count;
      held = subst (λ (bs : List Branch). Holds q at (bank_words d bs)) (sym next)
          (step_held n (length σ) g ok z (after i) w.held enough words r.short r.few (e ∙ ap (λ (k : ℕ). gate_stepped l n d from at k g) w.counted) (omega (arith, at_room, room, ap (λ (k : ℕ). k * ops * size) w.counted)));
      place = place;
      same_length = long after-step ∙ w.same_length;
      past = λ k hk. (kept after-step k 1 (inr (omega (arith, at_room, hk, work_room d banks (pow_pos n))))).word k (omega arith) (omega arith) ∙ w.past k hk;
    }
      where
        place : (at ≡ 0) ⊎ (at ≡ bank)
        place = in_bank (eqb (splits g) 0) a w.place

        at_room : at + count * ops * size ≤ 2 * bank
        at_room = ends_within place next-size

        after-step : Writing size l at (count * ops) (step_words l (flips n g) (row_entry n g) (λ (j : ℕ). j % ops) ops from d (outcome_bit g)) q (count * ops)
        after-step = wrote (λ j. le_of_eq (length-product l (flips n g) (row_entry n g (j % ops)) (from + j / ops * size) d (outcome_bit g) (j % ops))) e

-- ---- the same with the number of rows, and the size of a bank, as they are handed over
-- b is the buffer with the first branch written
module _ {l₀ : List ℤ} {ws : List ℕ} {σ : Store} {n d banks : ℕ} (r₀ : Runs l₀ ws σ n d banks) {b : List ℤ} (start_is : b ≡ sets l₀ 0 (branch_words d (identity_branch d σ))) where
  pub begins : Running b ws σ n d banks b 0 1 0
  begins =
      subst (λ (d : ℕ). Runs l₀ ws σ n d banks → b ≡ sets l₀ 0 (branch_words d (identity_branch d σ)) → Running b ws σ n d banks b 0 1 0) (sym r₀.dim) (λ r e. running_begin r e) r₀ start_is

  same : length b ≡ length l₀
  same = ap length start_is ∙ length-sets l₀ 0 (branch_words d (identity_branch d σ))

  runs : Runs b ws σ n d banks
  runs = record { few = r₀.few; dim = r₀.dim; accepted = r₀.accepted; light = r₀.light; short = r₀.short; bits = r₀.bits; banked = r₀.banked; room = omega (arith, r₀.room, same) }

  some : 1 ≤ d
  some = omega (arith, r₀.dim, pow_pos n)

  pub ends : {l : List ℤ} {from count i : ℕ} → Running b ws σ n d banks l from count i → length ws / gate_size ≤ i → Ran l₀ l ws σ n d banks from
  ends {l} {from} {i = i} w h =
      let all : take i (gates_of ws) ≡ gates_of ws = take_all i (gates_of ws) (omega (arith, gates-length ws 0 (length ws / gate_size))) in
      record {
        held = subst (λ (gs : List Gate). Holds l from (bank_words d (branches n σ gs))) all w.held;
        counted = branch_count n σ (gates_of ws) ∙ sym r₀.banked;
        inside = ⊎_elim (λ p. omega arith) (λ p. omega arith) w.place;
        long = w.same_length ∙ same;
        kept = λ k q. w.past k q ∙ ap (λ (m : List ℤ). get_or m k (pos 0)) start_is
            ∙ sets_above (branch_words d (identity_branch d σ)) l₀ 0 k (pos 0) (omega (arith, length-branch d (identity_branch d σ), work_room d banks some, branch_fits d some));
      }

  module _ {l : List ℤ} {from count i size : ℕ} (w : Running b ws σ n d banks l from count i) (h : i < length ws / gate_size) (e : size ≡ branch_size d) where
    pub ready : GateStep l (gate_at ws (i * gate_size)) n d from (banks * size - from) count
    ready =
        subst (λ (s : ℕ). GateStep l (gate_at ws (i * gate_size)) n d from (banks * s - from) count) (sym e)
        (subst (λ (d : ℕ). Runs b ws σ n d banks → Running b ws σ n d banks l from count i → GateStep l (gate_at ws (i * gate_size)) n d from (banks * branch_size d - from) count) (sym r₀.dim)
        (λ r w. running_ready r w h) runs w)

    pub more : {q : List ℤ} {c at : ℕ} → c ≡ count * length (operators (gate_at ws (i * gate_size))) → at ≡ place_after (gate_at ws (i * gate_size)) from (banks * size - from)
        → q ≡ gate_stepped l n d from at count (gate_at ws (i * gate_size)) → Running b ws σ n d banks q at c (i + 1)
    more {q} {c} {at} p a f =
        subst (λ (d : ℕ). Runs b ws σ n d banks → Running b ws σ n d banks l from count i → at ≡ place_after (gate_at ws (i * gate_size)) from (banks * branch_size d - from)
        → q ≡ gate_stepped l n d from at count (gate_at ws (i * gate_size)) → Running b ws σ n d banks q at c (i + 1)) (sym r₀.dim)
        (λ r w a f. running_more r w h p a f) runs w (a ∙ ap (λ (s : ℕ). place_after (gate_at ws (i * gate_size)) from (banks * s - from)) e) f
