-- Overlaps of a Kraus matrix's entries over one power of two, on and above the diagonal of a block of numerators, written or added, and what that asks.
use Rattle.std.specs.Prelude.{cond, List, ℕ, ◌+◌, ◌*◌, ◌-◌, ◌/◌, ◌%◌, ◌<◌, ◌≤◌, leb, length, ℤ}
use Rattle.algebra.specs.Quadratic.{conjugate}
use Rattle.exact.specs.Exact.{Number, numbers, root2, is_zero, max_numerator, narrow_exponent, narrow_numerator}
use Rattle.exact.specs.Inner.Sizes.{Within, scaled}
use Rattle.share.specs.Share.{number_in}
use Rattle.rows.specs.Inner.Rows.{exponent_in, Factors}

-- the numerators at q of m times 2^s
abbrev pub raised_at : ℕ → List ℤ → ℕ → Number
raised_at s m q = scaled (number_in m q) s

-- x times the conjugate of those
abbrev pub overlap : Number → ℕ → List ℤ → ℕ → Number
overlap x s m q = numbers.◌⊗◌ x (conjugate root2 (raised_at s m q))

-- that and the numerators at `at` of l
abbrev pub added : List ℤ → ℕ → Number → ℕ → List ℤ → ℕ → Number
added l at x s m q = numbers.◌⊕◌ (number_in l at) (overlap x s m q)

-- number c from `to` on of l plus the number at p of m times the conjugate of number c from k on, both times 2^s
abbrev pub row_added : List ℤ → ℕ → List ℤ → ℕ → ℕ → ℕ → ℕ → Number
row_added l to m p k s c = added l (to + c * 4) (raised_at s m p) s m (k + c * 4)

-- the power of two that takes w numbers at k over 2^e
abbrev pub raise : List ℤ → ℕ → ℕ → ℕ → ℕ
raise m k w e = e - exponent_in m k w

-- entry i, row by row, of the block of w rows at `out`: on and above the diagonal, entry r of the w numbers at k times the conjugate of entry c is added: the numbers over 2^e, the products over its square
abbrev pub upper_added : List ℤ → ℕ → List ℤ → ℕ → ℕ → ℕ → ℕ → Number
upper_added l out m k w e i =
    let s = raise m k w e in
    cond (leb (i / w) (i % w)) (added l (out + i * 4) (raised_at s m (k + i / w * 4)) s m (k + i % w * 4)) (number_in l (out + i * 4))

-- entry (r, c) of that block: on and above the diagonal, such a product; below it zero, if entry r is zero, else what stands there
abbrev pub row_written : List ℤ → ℕ → List ℤ → ℕ → ℕ → ℕ → ℕ → ℕ → Number
row_written l out m k w s r c =
    let x = raised_at s m (k + r * 4) in
    cond (leb r c) (overlap x s m (k + c * 4)) (cond (is_zero x) numbers.𝟘 (number_in l (out + (r * w + c) * 4)))

-- its entry i, row by row, of numbers over 2^e: the products are over its square
abbrev pub upper_written : List ℤ → ℕ → List ℤ → ℕ → ℕ → ℕ → ℕ → Number
upper_written l out m k w e i = row_written l out m k w (raise m k w e) (i / w) (i % w)

-- numerators that are narrow when raised
pub record Raised (m : List ℤ) (q s : ℕ) : Type 0 where
  pub room : q + 4 ≤ length m
  pub shift : s ≤ narrow_exponent
  pub narrow : Within narrow_numerator (raised_at s m q)

-- a sum in range, and two such factors whose product is added to it
pub record Adding (l : List ℤ) (at : ℕ) (x : Number) (m : List ℤ) (q s : ℕ) : Type 0 where
  pub room : at + 4 ≤ length l
  pub sum : Within max_numerator (number_in l at)
  pub scale : Within narrow_numerator x
  pub factor : Raised m q s

-- n sums from `to` on, to which the number at p times the conjugates of the n numbers from k on can be added
pub record Row (l : List ℤ) (to : ℕ) (m : List ℤ) (p k n s : ℕ) : Type 0 where
  pub room : to + n * 4 ≤ length l
  pub scale : Raised m p s
  pub factors : (c : ℕ) → c < n → Raised m (k + c * 4) s
  pub sums : (c : ℕ) → c < n → Within max_numerator (number_in l (to + c * 4))

-- room for n numbers from `to` on, and x and n numbers from k on to multiply
pub record Writable (l : List ℤ) (to : ℕ) (x : Number) (m : List ℤ) (k n s : ℕ) : Type 0 where
  pub room : to + n * 4 ≤ length l
  pub scale : Within narrow_numerator x
  pub factors : (c : ℕ) → c < n → Raised m (k + c * 4) s

-- row r of a block of w rows at `out`, and w numbers from k on to multiply
pub record Starting (l : List ℤ) (out : ℕ) (m : List ℤ) (k w r s : ℕ) : Type 0 where
  pub inside : r < w
  pub room : out + w * w * 4 ≤ length l
  pub factors : (c : ℕ) → c < w → Raised m (k + c * 4) s

-- numerators in range on and above the diagonal of a block of w rows at `out`
pub record Block (l : List ℤ) (out w : ℕ) : Type 0 where
  pub room : out + w * w * 4 ≤ length l
  pub sums : (r c : ℕ) → r ≤ c → c < w → Within max_numerator (number_in l (out + (r * w + c) * 4))

-- w numbers from k on that can be taken over 2^e
pub record Liftable (m : List ℤ) (k w e : ℕ) : Type 0 where
  pub factors : Factors m k w
  pub reached : exponent_in m k w ≤ e
  pub small : e ≤ narrow_exponent

-- such numbers, and a block to which their overlaps can be added
pub record Upper (l : List ℤ) (out : ℕ) (m : List ℤ) (k w e : ℕ) : Type 0 where
  pub block : Block l out w
  pub lift : Liftable m k w e

-- such numbers, and room for a block of w rows at `out`
pub record Fresh (l : List ℤ) (out : ℕ) (m : List ℤ) (k w e : ℕ) : Type 0 where
  pub room : out + w * w * 4 ≤ length l
  pub lift : Liftable m k w e
