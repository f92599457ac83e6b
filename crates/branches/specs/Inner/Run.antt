-- Circuits run in a work buffer: two banks of `banks` branches each; a gate that splits branches reads one bank and writes the other, and any other gate writes over what it reads.
use Rattle.std.specs.Prelude.{◌≡◌, true, cond, eqb, List, ℕ, ◌+◌, ◌*◌, ◌%◌, ◌^◌, ◌<◌, ◌≤◌, length, get_or, ℤ, pos}
use Rattle.algebra.specs.Lists.{every, total}
use Rattle.algebra.specs.Words.{blocks}
use Rattle.algebra.specs.Inner.Apart.{Apart}
use Rattle.exact.specs.Exact.{is_lowest, narrow_exponent}
use Rattle.exact.specs.Inner.Sizes.{Coords}
use Rattle.gate.specs.Gate.{Gate, gates_of, weight, splits, max_weight}
use Rattle.gate.specs.Operators.{operators}
use Rattle.gate.specs.Embed.{gate_entry}
use Rattle.gate.specs.Inner.Entries.{valid, flips, row_entry, Ready}
use Rattle.kraus.specs.Branch.{Store, branches}
use Rattle.store.specs.Inner.Held.{Bits, StoreAt}
use Rattle.rows.specs.Inner.Rows.{Factors}
use Rattle.branches.specs.Inner.Store.{outcome_bit}
use Rattle.branches.specs.Inner.Bank.{matrix_size, branch_size, slot_size, bank_words, Holds}
use Rattle.branches.specs.Inner.Step.{step_words}

-- the words of both banks
abbrev pub banks_size : ℕ → ℕ → ℕ
banks_size d banks = 2 * (banks * branch_size d)

abbrev pub work_size : ℕ → ℕ → ℕ
work_size d banks = (2 * banks + 2) * slot_size d

-- ---- one gate
-- where the products of the branches at `from` lie: in their places, or at `to` where the gate splits them
abbrev pub place_after : Gate → ℕ → ℕ → ℕ
place_after g from to = cond (eqb (splits g) 0) from to

-- the words, with the products of `count` branches written
abbrev pub gate_stepped : List ℤ → ℕ → ℕ → ℕ → ℕ → ℕ → Gate → List ℤ
gate_stepped l n d from to count g =
    blocks (branch_size d) l to (count * length (operators g)) (step_words l (flips n g) (row_entry n g) (λ (j : ℕ). j % length (operators g)) (length (operators g)) from d (outcome_bit g))

-- what a gate that passes the questions asks: entries from −1 to 1 in lowest form, and a bank for the products, apart from that of the branches
pub record GateStep (l : List ℤ) (g : Gate) (n d from to count : ℕ) : Type 0 where
  pub few : n ≤ 5
  pub dim : d ≡ 2 ^ n
  pub ready : Ready n g 0
  pub entries : (j r c : ℕ) → j < length (operators g) → r < 2 ^ n → c < 2 ^ n → Coords 1 narrow_exponent (gate_entry n g j r c) × (is_lowest (gate_entry n g j r c) ≡ true)
  pub from_room : from + count * branch_size d ≤ length l
  pub to_room : to + count * length (operators g) * branch_size d ≤ length l
  pub from_apart : Apart from (count * branch_size d) to (count * length (operators g) * branch_size d)
  pub factors : (b : ℕ) → b < count → Factors l (from + b * branch_size d) (d * d)
  pub stores : (b : ℕ) → b < count → StoreAt l (from + b * branch_size d + matrix_size d)

-- ---- all gates
-- a circuit that passed the questions
pub record Runs (l : List ℤ) (ws : List ℕ) (σ : Store) (n d banks : ℕ) : Type 0 where
  pub few : n ≤ 5
  pub dim : d ≡ 2 ^ n
  pub accepted : every (valid n (length σ)) (gates_of ws) ≡ true
  pub light : total weight (gates_of ws) ≤ max_weight
  pub short : length σ ≤ 64
  pub bits : Bits σ
  pub banked : banks ≡ 2 ^ total splits (gates_of ws)
  pub room : work_size d banks ≤ length l

-- what is left: the branches of the circuit from `at` on, `banks` of them, and all words past the buffer's as they were
pub record Ran (l m : List ℤ) (ws : List ℕ) (σ : Store) (n d banks at : ℕ) : Type 0 where
  pub held : Holds m at (bank_words d (branches n σ (gates_of ws)))
  pub counted : length (branches n σ (gates_of ws)) ≡ banks
  pub inside : at + banks * branch_size d ≤ banks_size d banks
  pub long : length m ≡ length l
  pub kept : (k : ℕ) → work_size d banks ≤ k → get_or m k (pos 0) ≡ get_or l k (pos 0)
