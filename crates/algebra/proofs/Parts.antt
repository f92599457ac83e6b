-- An integer as a difference of two naturals, `up x − dn x`, one of which is 0; its size `nat_abs`. Each law is an equation of ℕ, for `omega`.
use mathlib.Core.Path.{◌≡◌, refl}
use mathlib.Core.Bool.{Bool, true, false, not, cond}
use Prim.Native.Nat.{ℕ, zero, suc, ◌+◌, ◌*◌, ◌-◌, ◌≤◌, ◌<◌, ◌^◌, min}
use native.Mathlib.Omega.{arith}
use native.Mathlib.Nat as NatL
use lib.Dec.{T, ltb, ltb→lt, nltb→le, le→leb}
use lib.IntN.{ℤ, pos, negsuc, neg_ℤ, sub_ℕ, nat_abs, ◌+ℤ◌, ◌-ℤ◌, ◌*ℤ◌}
use lib.Signed.{mag, le_z, ◌≤ℤ◌}
use mir.Syntax.{Width}
use mir.Val.{SFits, hbits}

abbrev pub up : ℤ → ℕ
up (pos n) = n
up (negsuc n) = 0

abbrev pub dn : ℤ → ℕ
dn (pos n) = 0
dn (negsuc n) = suc n

-- one of the two is 0
pub up-dn : (x : ℤ) → min (up x) (dn x) ≡ 0
up-dn (pos n) = omega arith
up-dn (negsuc n) = omega arith

pub abs_is : (x : ℤ) → nat_abs x ≡ up x + dn x
abs_is (pos n) = omega arith
abs_is (negsuc n) = omega arith

pub abs_neg : (x : ℤ) → nat_abs (neg_ℤ x) ≡ nat_abs x
abs_neg (pos zero) = refl
abs_neg (pos (suc n)) = refl
abs_neg (negsuc n) = refl

pub sub_parts : (a b : ℕ) → up (sub_ℕ a b) + b ≡ a + dn (sub_ℕ a b)
sub_parts a b = go (ltb a b) (ltb→lt a b) (nltb→le a b)
  where
    go : (t : Bool) → (T t → a < b) → (T (not t) → b ≤ a) → up (cond t (negsuc (b - suc a)) (pos (a - b))) + b ≡ a + dn (cond t (negsuc (b - suc a)) (pos (a - b)))
    go true h k = omega (arith, h tt)
    go false h k = omega (arith, k tt)

pub add_parts : (x y : ℤ) → up (x +ℤ y) + (dn x + dn y) ≡ (up x + up y) + dn (x +ℤ y)
add_parts (pos a) (pos b) = omega arith
add_parts (pos a) (negsuc b) = omega (arith, sub_parts a (suc b))
add_parts (negsuc a) (pos b) = omega (arith, sub_parts b (suc a))
add_parts (negsuc a) (negsuc b) = omega arith

pub abs-add : (x y : ℤ) → nat_abs (x +ℤ y) ≤ nat_abs x + nat_abs y
abs-add x y = omega (arith, abs_is x, abs_is y, abs_is (x +ℤ y), add_parts x y, up-dn (x +ℤ y))

pub abs-mul : (x y : ℤ) → nat_abs (x *ℤ y) ≡ nat_abs x * nat_abs y
abs-mul (pos a) (pos b) = refl
abs-mul (pos a) (negsuc b) = abs_neg (pos (a * suc b))
abs-mul (negsuc a) (pos b) = abs_neg (pos (suc a * b))
abs-mul (negsuc a) (negsuc b) = refl

pub abs_sub : (x y : ℤ) → nat_abs (x -ℤ y) ≤ nat_abs x + nat_abs y
abs_sub x y = omega (arith, abs-add x (neg_ℤ y), abs_neg y)

-- the order
pub le_of : (x y : ℤ) → up x + dn y ≤ up y + dn x → x ≤ℤ y
le_of x y h = record { le = go x y h }
  where
    go : (x y : ℤ) → up x + dn y ≤ up y + dn x → T (le_z x y)
    go (pos a) (pos b) h = le→leb a b (omega arith)
    go (pos a) (negsuc b) h = absurd (omega arith)
    go (negsuc a) (pos b) h = tt
    go (negsuc a) (negsuc b) h = le→leb b a (omega arith)

pub sq_is : (x : ℤ) → x *ℤ x ≡ pos (nat_abs x * nat_abs x)
sq_is (pos a) = refl
sq_is (negsuc a) = refl

-- squares in order, so the numbers are
pub sq_le : (a b : ℕ) → a * a ≤ b * b → a ≤ b
sq_le a b h = let n : ¬ (b < a) = λ k. omega (arith, NatL.mul-le-mul k k) in omega arith

-- what a signed width holds
pub mag_abs : (x : ℤ) → mag x ≤ nat_abs x
mag_abs (pos n) = omega arith
mag_abs (negsuc n) = omega arith

pub sfits_abs : {w : Width} {x : ℤ} → nat_abs x < 2 ^ hbits w → SFits w x
sfits_abs {w} {x} h = record { sfits = NatL.lt_of_le_of_lt (mag_abs x) h }
