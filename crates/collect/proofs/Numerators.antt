-- Entries of blocks as sums of integer products over one power of two.
use mathlib.Core.Path.{◌≡◌, sym, ap, ap₂, ◌∙◌, subst}
use mathlib.Core.Bool.{Bool, true, false, cond}
use mathlib.Core.List.{List}
use Prim.Native.Nat.{ℕ, zero, suc, ◌+◌, ◌*◌, ◌-◌, ◌^◌, max, ◌≤◌, ◌<◌}
use native.Mathlib.Nat.{le_refl, mul-le-mul}
use native.Mathlib.Decide.{dec_lt}
use native.Mathlib.Omega.{arith}
use lib.Pow.{pow_mono}
use lib.ListN.{get_or}
use lib.IntN.{ℤ, pos, nat_abs, ◌*ℤ◌}
use Rattle.algebra.specs.Quadratic.{conjugate}
use Rattle.algebra.specs.Dyadic.{frac, power}
use Rattle.algebra.proofs.Quadratic.{ℤ√2i}
use Rattle.algebra.proofs.Parts.{abs-mul}
use Rattle.algebra.proofs.Signed.{word_is}
use Rattle.algebra.proofs.Dyadic.{lowest-up, lowest_is, value-add, value-mul, low-zero}
use Rattle.exact.specs.Exact.{Number, numbers, root2, Exact, exact, lowest, conj, max_numerator, narrow_exponent}
use Rattle.exact.specs.Inner.Sizes.{Within, scaled, Room, room_exponent}
use Rattle.exact.proofs.Exact.{exact_halving, conj-lowest}
use Rattle.exact.proofs.Align.{scaled_is}
use Rattle.share.specs.Share.{number_in}
use Rattle.rows.specs.Inner.Rows.{exponent_in}
use Rattle.collect.specs.Inner.Bank.{place, entry, has, overlaps, largest, raised, numerators, Bank}

-- numerators raised to 2^e are the same number
raised-lowest : (x : Exact) (e : ℕ) → x.exp ≤ e → lowest (scaled x.num (e - x.exp)) e ≡ lowest x.num x.exp
raised-lowest x e h =
    let n : e ≡ x.exp + (e - x.exp) = omega arith in
    ap₂ lowest (scaled_is x.num (e - x.exp)) n ∙ lowest-up ℤ√2i exact_halving (e - x.exp) x

-- back from the lowest form to 2^e
lowest-raised : (z : Number) (e : ℕ) → scaled (lowest z e).num (e - (lowest z e).exp) ≡ z
lowest-raised z e =
    let (k, h, g) = lowest_is ℤ√2i exact_halving z e in
    let d : e - (lowest z e).exp ≡ k = omega arith in
    scaled_is (lowest z e).num (e - (lowest z e).exp) ∙ ap (λ (j : ℕ). numbers.◌⊗◌ (lowest z e).num (power numbers j)) d ∙ sym h

-- a product of two numbers raised to 2^e
product_is : (x y : Exact) (e : ℕ) → x.exp ≤ e → y.exp ≤ e
    → lowest (numbers.◌⊗◌ (scaled x.num (e - x.exp)) (conjugate root2 (scaled y.num (e - y.exp)))) (e + e) ≡ exact.◌⊗◌ (lowest x.num x.exp) (conj (lowest y.num y.exp))
product_is x y e h k =
    sym (value-mul ℤ√2i exact_halving e e (scaled x.num (e - x.exp)) (conjugate root2 (scaled y.num (e - y.exp))))
    ∙ ap₂ exact.◌⊗◌ (raised-lowest x e h) (sym (conj-lowest (scaled y.num (e - y.exp)) e) ∙ ap conj (raised-lowest y e k))

-- ---- the largest exponent
pub reached : (l : List ℤ) (at d n j : ℕ) → j < n → exponent_in l (place at d j) (d * d) ≤ largest l at d n
reached l at d zero j h = absurd (omega arith)
reached l at d (suc n) j h = go (dec_lt j n) (reached l at d n j)
  where
    go : Dec (j < n) → (j < n → exponent_in l (place at d j) (d * d) ≤ largest l at d n) → exponent_in l (place at d j) (d * d) ≤ max (largest l at d n) (exponent_in l (place at d n) (d * d))
    go (yes p) f = omega (arith, f p)
    go (no p) f = let e : j ≡ n = omega arith in omega (arith, ap (λ (k : ℕ). exponent_in l (place at d k) (d * d)) e)

module _ {l : List ℤ} {at d N : ℕ} (bank : Bank l at d N) where
  pub largest-small : (n : ℕ) → n ≤ N → largest l at d n ≤ narrow_exponent
  largest-small zero h = omega arith
  largest-small (suc n) h = omega (arith, largest-small n (omega arith), (word_is narrow_exponent (get_or l (place at d n + d * d * 4) (pos 0)) (bank.entries n h).exponent).1)

  -- the power of two of its factors
  abbrev e : ℕ
  e = largest l at d N

  pub entry_is : (s r c n : ℕ) → n ≤ N → lowest (numerators l at d (largest l at d N) n s r c) (largest l at d N + largest l at d N) ≡ overlaps l at d n s r c
  unfolding numerators overlaps
  entry_is s r c zero h = low-zero ℤ√2i exact_halving (e + e)
  entry_is s r c (suc n) h = go (has l at d s n) (entry_is s r c n (omega arith))
    where
      term : Number
      term = numbers.◌⊗◌ (raised l at d e n r) (conjugate root2 (raised l at d e n c))

      over : ℕ → Exact
      over i = frac (number_in l (place at d n + i * 4)) (exponent_in l (place at d n) (d * d))

      term_is : lowest term (e + e) ≡ exact.◌⊗◌ (entry l at d n r) (conj (entry l at d n c))
      term_is = product_is (over r) (over c) e (reached l at d N n h) (reached l at d N n h)

      go : (t : Bool) → lowest (numerators l at d e n s r c) (e + e) ≡ overlaps l at d n s r c
          → lowest (cond t (numbers.◌⊕◌ (numerators l at d e n s r c) term) (numerators l at d e n s r c)) (e + e)
          ≡ cond t (exact.◌⊕◌ (overlaps l at d n s r c) (exact.◌⊗◌ (entry l at d n r) (conj (entry l at d n c)))) (overlaps l at d n s r c)
      go true q = sym (value-add ℤ√2i exact_halving (e + e) (numerators l at d e n s r c) term) ∙ ap₂ exact.◌⊕◌ q term_is
      go false q = q

-- ---- the sums stay in range
scaled-less : (m a b : ℕ) (z : Number) → a ≤ b → Within m (scaled z b) → Within m (scaled z a)
scaled-less m a b z h w = record { w0 = one z.re.re w.w0; w1 = one z.re.im w.w1; w2 = one z.im.re w.w2; w3 = one z.im.im w.w3 }
  where
    one : (x : ℤ) → nat_abs (x *ℤ pos (2 ^ b)) ≤ m → nat_abs (x *ℤ pos (2 ^ a)) ≤ m
    one x u = let p : nat_abs x * 2 ^ a ≤ nat_abs x * 2 ^ b = mul-le-mul (le_refl (nat_abs x)) (pow_mono h) in omega (arith, u, p, abs-mul x (pos (2 ^ a)), abs-mul x (pos (2 ^ b)))

pub sum-within : (z : Number) (k : ℕ) (x : Exact) → k ≤ room_exponent → lowest z k ≡ x → Room room_exponent x → Within max_numerator z
sum-within z k x h e r =
    subst (Within max_numerator) (lowest-raised z k)
    (subst (λ (y : Exact). Within max_numerator (scaled y.num (k - y.exp))) (sym e) (scaled-less max_numerator (k - x.exp) (room_exponent - x.exp) x.num (omega arith) r.size))
