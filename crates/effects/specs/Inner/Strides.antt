-- Where an entry that is written is read: entry (r, c) of the result is entry r · rows + c · cols of the transposed effect.
use Rattle.std.specs.Prelude.{◌≡◌, Bool, true, cond, List, ◌∷◌, ℕ, ◌+◌, ◌*◌, ◌/◌, ◌%◌, ◌<◌, ℤ, pos}
use Rattle.exact.specs.Exact.{Exact}
use Rattle.channel.specs.Shared.{Shared}
use Rattle.channel.specs.Layout.{effects, block_words}
use Rattle.effects.specs.Effects.{effect_at, povm_at, record_fits}
use Rattle.effects.specs.Inner.Readable.{Dim, Readable}

-- for i = r · d + c
abbrev pub strided : ℕ → ℕ → ℕ → ℕ → ℕ
strided d rows cols i = i / d * rows + i % d * cols

-- entry i of the result
abbrev pub strided_at : ℕ → ℕ → List ℤ → ℕ → ℕ → ℕ → Exact
strided_at rows cols l at d i = effect_at l at d (strided d rows cols i)

-- strides that stay inside a matrix of dimension d and reach each of its entries: (d, 1) for the matrix itself, (1, d) for its transpose
pub record Strides (d rows cols : ℕ) : Type 0 where
  pub dim : Dim d
  pub below : (r c : ℕ) → r < d → c < d → r * rows + c * cols < d * d
  -- where entry k is read for, and that it is
  pub turn : ℕ → ℕ
  pub inside : (k : ℕ) → k < d * d → turn k < d * d
  pub back : (k : ℕ) → k < d * d → strided d rows cols (turn k) ≡ k

-- a block whose effect can be written, and the strides
pub record Effect (l : List ℤ) (at d rows cols : ℕ) : Type 0 where
  pub block : Readable l at d
  pub strides : Strides d rows cols
  pub fit : record_fits l at d ≡ true

-- the words of an effect: its exponent, then its numerators
abbrev pub shared_words : ℕ → Shared → List ℤ
shared_words d b = pos b.exp ∷ block_words (effects d) b.num

-- entry i in the form that is asked for, the textbook's or the transposed
abbrev pub form_at : Bool → List ℤ → ℕ → ℕ → ℕ → Exact
form_at textbook l at d i = cond textbook (povm_at l at d i) (effect_at l at d i)
