-- The words of a full block, entry after entry.
use mathlib.Core.Path.{◌≡◌, ap, ◌∙◌}
use Prim.Native.Nat.{ℕ, ◌+◌, ◌*◌}
use native.Mathlib.Nat.{zero-add, sub-zero}
use Rattle.algebra.specs.Words.{joined}
use Rattle.algebra.proofs.Blocks.{joined_same, joined-rows}
use Rattle.exact.specs.Exact.{Number, list_of}
use Rattle.channel.specs.Layout.{full, block_words}

pub full-words : (w : ℕ) (z : ℕ → Number) → block_words (full w) z ≡ joined (w * w) (λ (k : ℕ). list_of (z k))
full-words w z =
    joined_same w _ (λ (r : ℕ). joined w (λ (j : ℕ). list_of (z (r * w + j))))
    (λ r h. ap (λ (k : ℕ). joined k (λ (j : ℕ). list_of (z (r * w + (0 + j))))) (sub-zero w) ∙ joined_same w _ _ (λ j l. ap (λ (k : ℕ). list_of (z (r * w + k))) (zero-add j)))
    ∙ joined-rows w w (λ (k : ℕ). list_of (z k))
