-- Programs run in a work buffer: two banks of `banks` branches each; an operation that splits branches reads one bank and writes the other, and any other writes over what it reads.
use Rattle.std.specs.Prelude.{◌≡◌, List, ℕ, ◌+◌, ◌*◌, ◌/◌, ◌^◌, ◌≤◌, ◌<◌, length, get_or, take, ℤ, pos}
use Rattle.std.specs.Int.Bits.{bit_xor}
use Rattle.algebra.specs.Lists.{All, total}
use Rattle.algebra.specs.Inner.Apart.{Apart}
use Rattle.gate.specs.Gate.{gate_at, gate_size, max_weight}
use Rattle.kraus.specs.Branch.{Store}
use Rattle.store.specs.Inner.Held.{Bits, StoreAt}
use Rattle.rows.specs.Inner.Rows.{Factors}
use Rattle.branches.specs.Inner.Bank.{matrix_size, branch_size, bank_words, Holds}
use Rattle.branches.specs.Inner.Run.{banks_size}
use Rattle.pauli_nodes.specs.Nodes.{Node}
use Rattle.pauli_nodes.specs.Operations.{Operation, axis, bits, splits, weight}
use Rattle.pauli_nodes.specs.Inner.Masks.{Mask, ref_mask, axis_mask}
use Rattle.pauli_words.specs.Words.{operation_of, operations_of}
use Rattle.pauli_program.specs.Program.{program_branches}
use Rattle.pauli_program.specs.Claims.{Eighths, Sound}
use Rattle.pauli_run.specs.Inner.Operators.{Seen}

-- an operation after `made` outcomes, and the mask forms of the nodes
pub record Fits (ms : List Mask) (made : ℕ) (o : Operation) : Type 0 where
  pub eighths : Eighths o
  pub there : (axis o).node < length ms
  pub outcome : Seen made o
  pub few : made ≤ 64

-- what an operation asks of its words
pub record Operating (l : List ℤ) (ms : List Mask) (o : Operation) (made from to d count : ℕ) : Type 0 where
  pub fits : Fits ms made o
  pub dim : d ≤ 32
  pub below : (r : ℕ) → r < d → bit_xor r (ref_mask ms (axis o)).x < d
  pub from_room : from + count * branch_size d ≤ length l
  pub to_room : to + count * 2 ^ splits o * branch_size d ≤ length l
  pub from_apart : Apart from (count * branch_size d) to (count * 2 ^ splits o * branch_size d)
  pub factors : (b : ℕ) → b < count → Factors l (from + b * branch_size d) (d * d)
  pub stores : (b : ℕ) → b < count → StoreAt l (from + b * branch_size d + matrix_size d)

-- ---- all operations
-- a program with these nodes that passed the questions
pub record Runs (l : List ℤ) (ws : List ℕ) (ms : List Mask) (σ : Store) (n d banks : ℕ) (nodes : List Node) : Type 0 where
  pub sound : Sound n nodes (operations_of ws)
  pub dim : d ≡ 2 ^ n
  pub light : total weight (operations_of ws) ≤ max_weight
  pub short : length σ ≤ 64
  pub bytes : Bits σ
  pub few : total splits (operations_of ws) ≤ 64
  pub banked : banks ≡ 2 ^ total splits (operations_of ws)
  pub room : banks_size d banks ≤ length l
  pub fits : (i : ℕ) → i < length ws / gate_size → Fits ms (total splits (take i (operations_of ws))) (operation_of (gate_at ws (i * gate_size)))
  pub masks : (i : ℕ) → i < length ws / gate_size → let a = axis (operation_of (gate_at ws (i * gate_size))) in ref_mask ms a ≡ axis_mask n nodes a
  pub placed : (i : ℕ) → i < length ws / gate_size → All (λ (b : ℕ). b < length σ) (bits (operation_of (gate_at ws (i * gate_size))))

-- what is left: the branches of the program from `at` on, `banks` of them, and all words past both banks as they were
pub record Ran (l m : List ℤ) (ws : List ℕ) (σ : Store) (n d banks at : ℕ) (nodes : List Node) : Type 0 where
  pub held : Holds m at (bank_words d (program_branches n nodes σ (operations_of ws)))
  pub inside : at + banks * branch_size d ≤ banks_size d banks
  pub long : length m ≡ length l
  pub kept : (k : ℕ) → banks_size d banks ≤ k → get_or m k (pos 0) ≡ get_or l k (pos 0)

-- whatever nodes the mask forms are those of
abbrev pub RanAll : List ℤ → List ℤ → List ℕ → List Mask → Store → ℕ → ℕ → ℕ → ℕ → Type 0
RanAll l m ws ms σ n d banks at = (nodes : List Node) → Runs l ws ms σ n d banks nodes → Ran l m ws σ n d banks at nodes
