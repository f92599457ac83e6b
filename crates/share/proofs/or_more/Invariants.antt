-- `or_more` meets its contract: what is gathered so far is that of i words.
use mathlib.Core.Path.{◌≡◌}
use Prim.Native.Nat.{ℕ, ◌+◌, ◌<◌}
use mir.Syntax.{w64}
use mir.Val.{SFits, of_z}
use Rattle.channel.specs.Layout.{word}
use Rattle.share.specs.Share.{or_words}
use Rattle.share.proofs.or_more.Given as goal

abbrev pub invariant-loop-i : goal.invariant-loop-i
invariant-loop-i l = (of_z w64 l.h ≡ or_words (of_z w64 l.g) l.s l.at l.i) × ((j : ℕ) → j < l.i → SFits w64 (word l.s (l.at + j)))
