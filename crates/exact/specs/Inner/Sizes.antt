-- How large four numerators are, as they stand or over a larger power of two.
use Rattle.std.specs.Prelude.{ℕ, ◌*◌, ◌-◌, ◌^◌, ◌≤◌, pos, nat_abs, ◌*ℤ◌}
use Rattle.exact.specs.Exact.{Exact, Number, number, max_numerator, narrow_exponent}

-- each numerator lies from −m to m
pub record Within (m : ℕ) (z : Number) : Type 0 where
  pub w0 : nat_abs z.re.re ≤ m
  pub w1 : nat_abs z.re.im ≤ m
  pub w2 : nat_abs z.im.re ≤ m
  pub w3 : nat_abs z.im.im ≤ m

-- a first term of a sum whose second is in range: one of at most this size has its sum in a word, and a larger one has none in range; no sum of two in range is larger
abbrev pub room_numerator : ℕ
room_numerator = 2 * max_numerator

-- a product of narrow numbers is over at most this power of two
abbrev pub room_exponent : ℕ
room_exponent = 2 * narrow_exponent

-- each numerator times 2^d
abbrev pub scaled : Number → ℕ → Number
scaled z d = number (z.re.re *ℤ pos (2 ^ d)) (z.re.im *ℤ pos (2 ^ d)) (z.im.re *ℤ pos (2 ^ d)) (z.im.im *ℤ pos (2 ^ d))

-- each coordinate lies from −m to m, over at most 2^k
pub record Coords (m k : ℕ) (x : Exact) : Type 0 where
  pub exponent : x.exp ≤ k
  pub size : Within (m * 2 ^ x.exp) x.num

-- a sum to which a term over 2^k can be added: over the larger power of the two its numerators leave room
pub record Room (k : ℕ) (x : Exact) : Type 0 where
  pub exponent : x.exp ≤ room_exponent
  pub size : Within max_numerator (scaled x.num (k - x.exp))
