-- What is claimed of packed channels.
use Rattle.std.specs.Prelude.{◌≡◌, List, ℕ, ◌+◌, ◌*◌, ℤ}
use Rattle.exact.specs.Exact.{Exact}
use Rattle.channel.specs.Layout.{packed, side, dim_at, count_at}
use Rattle.channel.specs.Claims.{Suits}
use Rattle.channel.specs.Forms.{Hermitian}
use Rattle.recast.specs.Words.{size_in}
use Rattle.form_calls.specs.Claims.{ReadsBack, WritesBack, NamesFirst, NeverUnfit, FormedExactly}
use Rattle.packed.specs.Packed.{kept}

-- how many words the records of the form take
abbrev pub Sized : List ℤ → Type 0
Sized l = let d = dim_at l in size_in (packed d) l ≡ 4 + count_at l * (4 + 2 * (d * d * (d * d + 1)))

pub record Packs : Type 0 where
  -- what was written is read back, every used word of the channel
  pub reads_back : ReadsBack kept
  -- what was read is written again, where no block is zero
  pub writes_back : WritesBack kept
  -- the refusal names the first block along the chain that the form does not restore
  pub names_first : NamesFirst kept
  -- a channel all of whose blocks it restores is not refused for one
  pub never_unfit : NeverUnfit kept
  -- words of the form are well formed exactly where they are those of such a channel
  pub formed_exactly : FormedExactly kept
  -- what the form restores are the Hermitian blocks
  pub hermitian : (d : ℕ) (x : ℕ → Exact) → (Suits (packed d) x → Hermitian (side d) x) × (Hermitian (side d) x → Suits (packed d) x)
  pub sized : (l : List ℤ) → Sized l
