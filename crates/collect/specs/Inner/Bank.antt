-- Branches as they are read from the words of a bank: those that survive, their stores and their blocks.
use Rattle.std.specs.Prelude.{◌≡◌, Bool, cond, not, ◌&&◌, List, [], ◌∷◌, ◌++◌, ℕ, zero, suc, ◌+◌, ◌*◌, ◌/◌, ◌%◌, ◌^◌, ◌<◌, ◌≤◌, max, eqb, leb, length, get_or, ℤ, pos}
use Rattle.std.proofs.lemmas.List.Edits.{sets}
use Rattle.algebra.specs.Quadratic.{conjugate}
use Rattle.algebra.specs.Lists.{all_below}
use Rattle.algebra.specs.Words.{blocks}
use Rattle.exact.specs.Exact.{Number, numbers, root2, Exact, exact, conj, is_zero}
use Rattle.exact.specs.Inner.Sizes.{Room, room_exponent}
use Rattle.rows.specs.Inner.Rows.{exponent_in, held_in, zeros, Factors}
use Rattle.kraus.specs.Dense.{tabulate}
use Rattle.kraus.specs.Branch as kraus
use Rattle.store.specs.Store.{bits, store_from}
use Rattle.store.specs.Inner.Held.{StoreAt}
use Rattle.branches.specs.Inner.Bank.{matrix_size, branch_size}
use Rattle.channel.specs.Shared.{Shared, shared}
use Rattle.channel.specs.Layout as layout
use Rattle.share.specs.Share.{number_in}
use Rattle.overlaps.specs.Inner.Overlap.{raise, raised_at}

-- where branch j lies in the bank at `at`, and where its store does
abbrev pub place : ℕ → ℕ → ℕ → ℕ
place at d j = at + j * branch_size d

abbrev pub store_place : ℕ → ℕ → ℕ → ℕ
store_place at d j = place at d j + matrix_size d

-- the bank at `at` of l, with matrices of d rows and columns
module _ (l : List ℤ) (at d : ℕ) where
  -- entry i of branch j
  abbrev pub entry : ℕ → ℕ → Exact
  entry j i = held_in l (place at d j) (d * d) i

  -- the store of branch j: bit i weighs 2^i
  abbrev pub store_of : ℕ → ℕ
  store_of j = store_from (layout.word l (store_place at d j)) (layout.word l (store_place at d j + 1))

  -- some entry of branch j is not zero
  abbrev pub survives : ℕ → Bool
  survives j = not (zeros l (place at d j) (d * d))

  -- branch j survives with the store s
  abbrev pub has : ℕ → ℕ → Bool
  has s j = eqb (store_of j) s && survives j

  -- no branch before branch b survives with its store
  abbrev pub is_first : ℕ → Bool
  is_first b = all_below b (λ (j : ℕ). not (has (store_of b) j))

  -- branch b is the first to survive with its store
  abbrev pub starts : ℕ → Bool
  starts b = survives b && is_first b

  -- entry (r, c) of the block of the store s, summed over the first n branches
  unfoldable pub overlaps : ℕ → ℕ → ℕ → ℕ → Exact
  overlaps zero s r c = exact.𝟘
  overlaps (suc n) s r c = cond (has s n) (exact.◌⊕◌ (overlaps n s r c) (exact.◌⊗◌ (entry n r) (conj (entry n c)))) (overlaps n s r c)

  -- the largest exponent of the first n branches
  abbrev pub largest : ℕ → ℕ
  largest zero = 0
  largest (suc n) = max (largest n) (exponent_in l (place at d n) (d * d))

  -- the numerators of entry i of branch j over 2^e
  abbrev pub raised : ℕ → ℕ → ℕ → Number
  raised e j i = raised_at (raise l (place at d j) (d * d) e) l (place at d j + i * 4)

  -- the numerators of entry (r, c) of the block of the store s, over the square of that power
  unfoldable pub numerators : ℕ → ℕ → ℕ → ℕ → ℕ → Number
  numerators e zero s r c = numbers.𝟘
  numerators e (suc n) s r c = cond (has s n) (numbers.◌⊕◌ (numerators e n s r c) (numbers.◌⊗◌ (raised e n r) (conjugate root2 (raised e n c)))) (numerators e n s r c)

  -- each store of the first n branches once, in the order of the first that survive with it
  unfoldable pub stores_of : ℕ → List ℕ
  stores_of zero = []
  stores_of (suc n) = cond (starts n) (stores_of n ++ (store_of n ∷ [])) (stores_of n)

  -- the block of the store s of a bank of n branches
  abbrev pub block_of : ℕ → ℕ → layout.Block
  block_of n s = record { store = s; entry = λ k. overlaps n s (k / layout.side d) (k % layout.side d) }

  -- its shared form
  abbrev pub shared_of : ℕ → ℕ → Shared
  shared_of n s = shared (layout.entries (layout.channels d)) (block_of n s).entry

  -- its exponent and its numerators
  abbrev pub shared_words : ℕ → ℕ → List ℤ
  shared_words n s = pos (shared_of n s).exp ∷ layout.block_words (layout.channels d) (shared_of n s).num

  -- the record of a store's block, as the last of a chain
  abbrev pub record_of : ℕ → ℕ → List ℤ
  record_of n s = layout.record_words (layout.channels d) 0 s (shared_of n s)

  -- the records of a bank of n branches
  abbrev pub records : ℕ → ℕ → List ℤ
  records n j = record_of n (get_or (stores_of n) j 0)

  -- the first n branches, with m bits in a store
  unfoldable pub bank_in : ℕ → ℕ → List kraus.Branch
  bank_in m zero = []
  bank_in m (suc n) = bank_in m n ++ (record { matrix = tabulate (d * d) 0 (entry n); store = bits m (store_of n) } ∷ [])

-- entry k, row by row, of the block at `out` of the words m with the sums, of factors over 2^e, of the first n branches that have the store of branch b: on and above the diagonal those;
-- below it zero, if entry r of branch b is zero, else what stands there
abbrev pub summed : List ℤ → ℕ → List ℤ → ℕ → ℕ → ℕ → ℕ → ℕ → ℕ → Number
summed m out l at d e b n k =
    let r = k / (d * d) in
    let c = k % (d * d) in
    cond (leb r c) (numerators l at d e n (store_of l at d b) r c) (cond (is_zero (raised l at d e b r)) numbers.𝟘 (number_in m (out + k * 4)))

-- the words m with the records of a bank of n branches
abbrev pub recorded : List ℤ → List ℤ → ℕ → ℕ → ℕ → List ℤ
recorded m l at d n = blocks (layout.record_size (layout.channels d)) m layout.header_size (length (stores_of l at d n)) (records l at d n)

-- the words m with record j, that of branch b of a bank of n branches, if it starts a record
abbrev pub recorded_branch : List ℤ → ℕ → List ℤ → ℕ → ℕ → ℕ → ℕ → List ℤ
recorded_branch m j l at d n b = cond (starts l at d b) (sets m (layout.record_at (layout.channels d) j) (record_of l at d n (store_of l at d b))) m

-- branch j lies in the words, and its store's words are in range
pub record Branch (l : List ℤ) (at d j : ℕ) : Type 0 where
  pub dim : d ≤ 16
  pub room : place at d j + branch_size d ≤ length l
  pub store : StoreAt l (store_place at d j)

-- each of the branches up to branch b does
abbrev pub Branches : List ℤ → ℕ → ℕ → ℕ → Type 0
Branches l at d b = (j : ℕ) → j ≤ b → Branch l at d j

-- what a bank of n branches has to be: its entries are factors, and the sums of their overlaps stay small
pub record Bank (l : List ℤ) (at d n : ℕ) : Type 0 where
  pub dim : d ≤ 16
  pub few : n ≤ 64
  pub room : at + n * branch_size d ≤ length l
  pub stores : (j : ℕ) → j < n → StoreAt l (store_place at d j)
  pub entries : (j : ℕ) → j < n → Factors l (place at d j) (d * d)
  pub sums : (b j r c : ℕ) → b < n → j ≤ n → r < d * d → c < d * d → Room room_exponent (overlaps l at d j (store_of l at d b) r c)

-- the records of the branches before branch b are written: n of them, and room for all of the bank's
pub record Begun (m : List ℤ) (n : ℕ) (l : List ℤ) (at d count b : ℕ) : Type 0 where
  pub bank : Bank l at d count
  pub branch : b < count
  pub so_far : n ≡ length (stores_of l at d b)
  pub room : layout.header_size + length (stores_of l at d count) * layout.record_size (layout.channels d) ≤ length m

-- a bank of n branches at `at` of `work`, with m bits in a store, and room for its records in `result`
pub record Deliverable (result work : List ℤ) (at d m n : ℕ) : Type 0 where
  pub bank : Bank work at d n
  pub bits : (j : ℕ) → j < n → store_of work at d j < 2 ^ m
  pub room : layout.header_size + length (stores_of work at d n) * layout.record_size (layout.channels d) ≤ length result
