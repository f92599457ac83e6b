-- What is claimed of a channel's words written in a form that keeps less, and read from there.
use Rattle.std.specs.Prelude.{◌≡◌, true, false, List, ℕ, zero, suc, ◌<◌, ◌≤◌, length, ℤ, nat_abs, Err, is_ok}
use Rattle.std.proofs.lemmas.List.Edits.{sets}
use Rattle.channel.specs.Layout.{Form, Block, word, count_at, block_at, form_in}
use Rattle.channel.specs.WellFormed.{well_formed_in, well_formed, has_zero_block}
use Rattle.channel.specs.Recast.{recast}
use Rattle.channel.specs.Claims.{Suits, Sound}
use Rattle.channel.specs.Forms.{block_of, used}
use Rattle.channel.specs.declared.forms.Parts.{Parts}
use Rattle.recast.specs.Words.{size_in}
use Rattle.form_calls.specs.Calls.{own, refusal, write_verdict, read_verdict, write_result, read_result}

-- ---- what was written is read: every used word of the channel, next indices included, and no other word of the result
pub record Read (f : Parts) (l p res : List ℤ) : Type 0 where
  pub passes : is_ok (read_verdict f p res) ≡ true
  pub words : read_result f p res ≡ sets res 0 (used (own l) l)

abbrev pub ReadsBack : Parts → Type 0
ReadsBack f = (l mid res : List ℤ) → is_ok (write_verdict f l mid) ≡ true → size_in (own l) l ≤ length res → Read f l (write_result f l mid) res

-- ---- what was read is written, where no block is zero
pub record Written (f : Parts) (p l res : List ℤ) : Type 0 where
  pub passes : is_ok (write_verdict f l res) ≡ true
  pub words : write_result f l res ≡ sets res 0 (used (form_in f p) p)

abbrev pub WritesBack : Parts → Type 0
WritesBack f = (p mid res : List ℤ) → is_ok (read_verdict f p mid) ≡ true → has_zero_block (read_result f p mid) ≡ false → size_in (form_in f p) p ≤ length res → Written f p (read_result f p mid) res

-- ---- the block that is named
-- the index of the record at place i along the chain
abbrev pub along : List ℤ → ℕ → ℕ
along l zero = nat_abs (word l 3)
along l (suc i) = nat_abs (word l (along l i))

abbrev pub block_along : List ℤ → ℕ → Block
block_along l i = block_at (own l) l (along l i)

-- the form restores each block before place i, and not the one there
pub record FirstUnfit (G : Form) (l : List ℤ) (i : ℕ) : Type 0 where
  pub below : i < count_at l
  pub unfit : Suits G (block_along l i).entry → ⊥
  pub fit : (j : ℕ) → j < i → Suits G (block_along l j).entry

abbrev pub NamesFirst : Parts → Type 0
NamesFirst f = (l res : List ℤ) → Sound l → (i : ℕ) → (write_verdict f l res ≡ Err (refusal f i) → FirstUnfit (form_in f l) l i) × (FirstUnfit (form_in f l) l i → write_verdict f l res ≡ Err (refusal f i))

-- ---- channels whose blocks the form restores
pub record Suited (f : Parts) (l : List ℤ) : Type 0 where
  pub right : well_formed l ≡ true
  pub suits : (j : ℕ) → j < count_at l → Suits (form_in f l) (block_of (own l) l j).entry

-- they are refused for a zero block or a short result alone
abbrev pub NeverUnfit : Parts → Type 0
NeverUnfit f = (l res : List ℤ) → Suited f l → has_zero_block l ≡ false → size_in (form_in f l) l ≤ length res → is_ok (write_verdict f l res) ≡ true

-- words of the form are well formed exactly where they are those of such a channel, zero blocks included
pub record Source (f : Parts) (p : List ℤ) : Type 0 where
  pub channel : List ℤ
  pub suited : Suited f channel
  pub words : used (form_in f p) p ≡ recast (own channel) (form_in f channel) channel

abbrev pub FormedExactly : Parts → Type 0
FormedExactly f = (p : List ℤ) → (well_formed_in (form_in f p) p ≡ true → Source f p) × (Source f p → well_formed_in (form_in f p) p ≡ true)
