-- What is claimed of channels written without √2 parts.
use Rattle.std.specs.Prelude.{◌≡◌, List, ℕ, ◌+◌, ◌*◌, ◌<◌, ℤ, pos}
use Rattle.exact.specs.Exact.{Exact}
use Rattle.channel.specs.Layout.{plain_only, side, dim_at, count_at}
use Rattle.channel.specs.Claims.{Suits}
use Rattle.recast.specs.Words.{size_in}
use Rattle.form_calls.specs.Claims.{ReadsBack, WritesBack, NamesFirst, NeverUnfit, FormedExactly}
use Rattle.plain_words.specs.Plain.{kept}

-- every entry of a block of dimension d has n1 = n3 = 0
abbrev pub Rational : ℕ → (ℕ → Exact) → Type 0
Rational d x = (k : ℕ) → k < side d * side d → ((x k).num.re.im ≡ pos 0) × ((x k).num.im.im ≡ pos 0)

-- how many words the records of the form take
abbrev pub Sized : List ℤ → Type 0
Sized l = let d = dim_at l in size_in (plain_only d) l ≡ 4 + count_at l * (4 + 2 * (d * d * (d * d)))

pub record Keeps : Type 0 where
  -- what was written is read back, every used word of the channel
  pub reads_back : ReadsBack kept
  -- what was read is written again, where no block is zero
  pub writes_back : WritesBack kept
  -- the refusal names the first block along the chain that the form does not restore
  pub names_first : NamesFirst kept
  -- a channel all of whose blocks it restores is not refused for one
  pub never_unfit : NeverUnfit kept
  -- words of the form are well formed exactly where they are those of such a channel
  pub formed_exactly : FormedExactly kept
  -- what the form restores are the blocks with no √2 part
  pub rational : (d : ℕ) (x : ℕ → Exact) → (Suits (plain_only d) x → Rational d x) × (Rational d x → Suits (plain_only d) x)
  pub sized : (l : List ℤ) → Sized l
