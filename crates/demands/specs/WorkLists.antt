-- Pairs that are served: what compare's answer to a pair says of the channels that its circuits have by the definitions.
use Rattle.std.specs.Prelude.{◌≡◌, true, List, ℕ, ◌+◌, ◌*◌, ◌^◌, ◌<◌, length, get_or, Result, Ok, Err}
use Rattle.exact.specs.Exact.{Exact}
use Rattle.scalar.specs.declared.Scalar.{Scalar}
use Rattle.scalar.specs.Calls.{scalar_of}
use Rattle.gate.specs.Gate.{gates_of}
use Rattle.kraus.specs.Branch.{branches}
use Rattle.kraus.specs.Blocks.{survivors, block}
use Rattle.verdict.specs.declared.Refusal.{Refusal}
use Rattle.store.specs.Store as store
use Rattle.compare.specs.declared.Place.{Place}
use Rattle.compare.specs.declared.Comparison.{Comparison}
use Rattle.compare.specs.declared.Comparison.TheVariants.{Same, Dimensions, Differs}
use Rattle.channel.specs.Layout.{side}
use Rattle.compare.specs.Claims.{earlier}
use Rattle.pair_list.specs.Pairs.{Circuit, Pair}
use Rattle.work_list.specs.declared.Answer.{Answer}
use Rattle.work_list.specs.declared.Answer.TheVariants.{Compared}
use Rattle.work_list.specs.Serving.{Lent, answers_to}

-- ---- one circuit
module _ (c : Circuit) where
  -- its channel by the definitions: entry (i, j) of the block of the store s
  abbrev pub entry_of : ℕ → ℕ → ℕ → Exact
  entry_of s i j = block (survivors (branches c.qubits c.store (gates_of c.gates))) (store.bits c.bits s) i j

  -- there is such a store, row and column
  abbrev pub Within : ℕ → ℕ → ℕ → Type 0
  Within s i j = (s < 2 ^ c.bits) × ((i < side (2 ^ c.qubits)) × (j < side (2 ^ c.qubits)))

  -- the place of a row and column in a block
  abbrev pub place : ℕ → ℕ → ℕ
  place i j = i * side (2 ^ c.qubits) + j

-- ---- a pair
module _ (p : Pair) where
  abbrev pub SameCounts : Type 0
  SameCounts = (p.left.qubits ≡ p.right.qubits) × (p.left.bits ≡ p.right.bits)

  -- same: the channels are equal at every store, row and column
  pub record DoTheSame : Type 0 where
    pub counts : SameCounts
    pub channels : (s i j : ℕ) → Within p.left s i j → entry_of p.left s i j ≡ entry_of p.right s i j

  -- different: q is the first place at which the channels differ, by stores, rows and columns, and x and y are the numbers of both there
  pub record DifferFirst (q : Place) (x y : Scalar) : Type 0 where
    pub counts : SameCounts
    pub within : Within p.left q.store q.row q.col
    pub left_is : x ≡ scalar_of (entry_of p.left q.store q.row q.col)
    pub right_is : y ≡ scalar_of (entry_of p.right q.store q.row q.col)
    pub unequal : entry_of p.left q.store q.row q.col ≡ entry_of p.right q.store q.row q.col → ⊥
    pub before : (s i j : ℕ) → Within p.left s i j → earlier s (place p.left i j) q.store (place p.left q.row q.col) ≡ true → entry_of p.left s i j ≡ entry_of p.right s i j

  -- what a comparison found, said of the channels; a refusal is never found
  abbrev pub Means : Result Comparison Refusal → Type 0
  Means (Ok Same) = DoTheSame
  Means (Ok Dimensions) = SameCounts → ⊥
  Means (Ok (Differs d)) = DifferFirst d.place d.left d.right
  Means (Err r) = ⊥

-- each pair of a list that is compared: what is answered holds, whatever is lent
abbrev pub WorkLists : Type 0
WorkLists = (t : Lent) (ps : List Pair) (i : ℕ) (a : Answer) (p : Pair) → i < length ps → (n : ℕ) (f : Result Comparison Refusal)
    → get_or (answers_to t ps) i a ≡ Compared n f → Means (get_or ps i p) f
