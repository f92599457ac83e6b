-- What is claimed of well-formed words, and of words that are written.
use Rattle.std.specs.Prelude.{◌≡◌, Bool, true, false, cond, ◌&&◌, List, [], ◌∷◌, ◌++◌, map, ℕ, zero, suc, ◌+◌, ◌*◌, ◌-◌, ◌/◌, ◌^◌, ◌<◌, ◌≤◌, eqb, ℤ, pos, nat_abs}
use Rattle.algebra.specs.Lists.{total}
use Rattle.exact.specs.Exact.{Number, Exact, exact, is_lowest, conj}
use Rattle.store.specs.Store.{before}
use Rattle.channel.specs.Shared.{shared, shared_fits}
use Rattle.channel.specs.Layout.{Block, Form, header_size, entries, record_size, word, dim_at, bits_at, count_at, words, read_back_in}
use Rattle.channel.specs.WellFormed.{is_dim, well_formed_in, well_formed, has_zero_block}

-- entry k of the block of the store s; a missing block is zero
abbrev pub look : List Block → ℕ → ℕ → Exact
look [] s k = exact.𝟘
look (b ∷ bs) s k = cond (eqb s b.store) (b.entry k) (look bs s k)

-- a well-formed channel without a block of zeros
pub record Sound (l : List ℤ) : Type 0 where
  pub right : well_formed l ≡ true
  pub full : has_zero_block l ≡ false

abbrev pub stores_of : List Block → List ℕ
stores_of bs = map (λ (b : Block). b.store) bs

-- ---- the chain of well-formed words of a form visits each record once
-- the places of n records along the chain from index `at` on
abbrev pub places : Form → List ℤ → ℕ → ℕ → List ℕ
places F l zero at = []
places F l (suc n) at = (at - header_size) / record_size F ∷ places F l n (nat_abs (word l at))

-- how often j is among them
abbrev pub visits : ℕ → List ℕ → ℕ
visits j ps = total (λ (p : ℕ). cond (eqb p j) 1 0) ps

abbrev pub VisitsOnce : Type 0
VisitsOnce = (F : Form) (l : List ℤ) → well_formed_in F l ≡ true → (j : ℕ) → j < count_at l → visits j (places F l (count_at l) (nat_abs (word l 3))) ≡ 1

-- ---- what is written is read back
-- each store comes before the next
abbrev pub rising : List ℕ → Bool
rising [] = true
rising (x ∷ []) = true
rising (x ∷ y ∷ ys) = before x y && rising (y ∷ ys)

-- n numbers in lowest form
abbrev pub Lowest : ℕ → (ℕ → Exact) → Type 0
Lowest n x = (k : ℕ) → k < n → is_lowest (x k) ≡ true

-- no √2 part, where n0 and n2 alone are kept
abbrev pub Plain : Bool → Number → Type 0
Plain b z = b ≡ true → (z.re.im ≡ pos 0) × (z.im.im ≡ pos 0)

-- a block that can be restored from what the form F keeps
pub record Suits (F : Form) (x : ℕ → Exact) : Type 0 where
  pub mirror : F.half ≡ true → (r c : ℕ) → r < F.side → c < F.side → x (r * F.side + c) ≡ conj (x (c * F.side + r))
  pub rational : (k : ℕ) → k < entries F → Plain F.plain (x k).num

-- n blocks that can be written in the form F, with dimension d and m bits
pub record Writable (F : Form) (d m n : ℕ) (block : ℕ → Block) : Type 0 where
  pub dim : is_dim (pos d) ≡ true
  pub few : m ≤ 64
  pub small : (j : ℕ) → j < n → (block j).store < 2 ^ m
  pub different : (i j : ℕ) → i < n → j < n → (block i).store ≡ (block j).store → i ≡ j
  pub lowest : (j : ℕ) → j < n → Lowest (entries F) (block j).entry
  pub fits : (j : ℕ) → j < n → shared_fits (entries F) (shared (entries F) (block j).entry) ≡ true
  pub suits : (j : ℕ) → j < n → Suits F (block j).entry

-- the words l, which begin with those written, are read back as the blocks
pub record ReadsBack (F : Form) (d m n : ℕ) (block : ℕ → Block) (l : List ℤ) : Type 0 where
  pub right : well_formed_in F l ≡ true
  pub dim : dim_at l ≡ d
  pub bits : bits_at l ≡ m
  pub count : count_at l ≡ n
  -- the chain visits each block once, and the stores rise
  pub order : stores_of (read_back_in F l) ≡ map (λ (j : ℕ). (block j).store) (places F l n (nat_abs (word l 3)))
  pub once : (j : ℕ) → j < n → visits j (places F l n (nat_abs (word l 3))) ≡ 1
  pub rises : rising (stores_of (read_back_in F l)) ≡ true
  -- each store has its block
  pub entries : (j k : ℕ) → j < n → k < entries F → look (read_back_in F l) (block j).store k ≡ (block j).entry k

abbrev pub RoundTrip : Type 0
RoundTrip = (F : Form) (d m n : ℕ) (block : ℕ → Block) → Writable F d m n block → (rest : List ℤ) → ReadsBack F d m n block (words F d m n block ++ rest)
