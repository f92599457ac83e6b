-- The words that a bank's branches are delivered as: the channel of its branches, at the start of the result.
use Rattle.std.specs.Prelude.{List, [], ◌++◌, ℕ, ◌/◌, ◌%◌, length, get_or, drop, ℤ}
use Rattle.algebra.specs.Words.{from_bits}
use Rattle.kraus.specs.Branch.{Branch}
use Rattle.kraus.specs.Blocks.{stores, block}
use Rattle.channel.specs.Layout.{Block, side, channel_words}

-- block j of a list of surviving branches, for matrices of d rows and columns
abbrev pub block_no : ℕ → List Branch → ℕ → Block
block_no d bs j =
    let τ = get_or (stores bs) j [] in
    record { store = from_bits τ; entry = λ k. block bs τ (k / side d) (k % side d) }

-- the words of the channel of a list of surviving branches, with m classical bits
abbrev pub branches_words : ℕ → ℕ → List Branch → List ℤ
branches_words d m bs = channel_words d m (length (stores bs)) (block_no d bs)

-- a result buffer with these words at its start
abbrev pub overwritten : List ℤ → List ℤ → List ℤ
overwritten ws l = ws ++ drop (length ws) l
