-- What is answered of words of a form, and of a channel that is to be written in one; what a pass over a block asks of its entries.
use Rattle.std.specs.Prelude.{Bool, false, not, ◌&&◌, ◌||◌, List, ℕ, ◌+◌, ◌*◌, ◌-◌, ◌%◌, ◌^◌, eqb, ℤ, nat_abs, Result, Ok}
use Rattle.std.specs.Int.{w64, cast_unsigned}
use Rattle.std.specs.Result.{result_and}
use Rattle.verdict.specs.declared.Refusal.{Refusal}
use Rattle.algebra.specs.Lists.{all_below}
use Rattle.algebra.specs.Words.{eqℤ}
use Rattle.exact.specs.Exact.{Number}
use Rattle.channel.specs.declared.Shape.{Shape}
use Rattle.channel.specs.declared.forms.Parts.{Parts}
use Rattle.channel.specs.Layout.{Form, channels, dim_at, word, form_of, form_in, numbers_at}
use Rattle.channel.specs.WellFormed.{well_formed_in, verdict_by, form_verdict}
use Rattle.channel.specs.Forms.{has_root, restores}
use Rattle.channel.specs.Inner.Shapes.{blank, some_blank, shape_at, shape_by}
use Rattle.form_judge.specs.declared.Found.{Found}
use Rattle.form_judge.specs.declared.Judged.{Judged}
use Rattle.form_judge.specs.declared.rows.Sight.{Sight}
use Rattle.form_judge.specs.Faults.{fault_from, fault_of}

-- the header where the words are well formed, or 10
abbrev pub shape_in : Parts → List ℤ → Result Shape Refusal
shape_in f l = shape_by (verdict_by (well_formed_in (form_in f l) l) false) l

-- the header of a channel and the first block that a form does not restore, where the channel is accepted
abbrev pub judged_of : Parts → List ℤ → Result Judged Refusal
judged_of f l = result_and (form_verdict l) (Ok (record { shape = shape_at l; fault = fault_of (channels (dim_at l)) (form_in f l) l }))

-- what is seen of the block at `at`
abbrev pub sight_of : Parts → Form → List ℤ → ℕ → Sight
sight_of f F l at = record { blank = blank F l at; fits = restores (form_of F.side f) (numbers_at F l at) }

-- what is found of n blocks along the chain
abbrev pub found_of : Form → Form → List ℤ → ℕ → Found
found_of F G l n = record { blank = some_blank F l n (nat_abs (word l 3)); fault = fault_from F G l n (nat_abs (word l 3)) }

-- ---- the entries z of a block of w rows
-- the sum of two words, cut to a word, is 0
abbrev pub opposite : ℤ → ℤ → Bool
opposite x y = eqb ((cast_unsigned w64 x + cast_unsigned w64 y) % 2 ^ 64) 0

-- a number is the conjugate of another, both in range
abbrev pub mirrors : Number → Number → Bool
mirrors x y = ((eqℤ x.re.re y.re.re && eqℤ x.re.im y.re.im) && opposite x.im.re y.im.re) && opposite x.im.im y.im.im

module _ (w : ℕ) (z : ℕ → Number) (r : ℕ) where
  -- the entries of row r from the diagonal on are the conjugates of their mirrors
  abbrev pub mirrored : Bool
  mirrored = all_below (w - r) (λ (j : ℕ). mirrors (z (r * w + (r + j))) (z ((r + j) * w + r)))

  -- no entry of row r has a √2 part
  abbrev pub rational : Bool
  rational = all_below w (λ (c : ℕ). not (has_root (z (r * w + c))))

abbrev pub row_fits : Bool → Bool → ℕ → (ℕ → Number) → ℕ → Bool
row_fits half plain w z r = (not half || mirrored w z r) && (not plain || rational w z r)
