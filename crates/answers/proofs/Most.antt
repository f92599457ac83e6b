-- How long a text is at most.
use mathlib.Core.Path.{◌≡◌, refl, ap}
use mathlib.Core.Bool.{Bool, true, false, cond}
use mathlib.Core.List.{List, ◌++◌}
use Prim.Native.Nat.{ℕ, zero, suc, ◌+◌, ◌/◌, ◌≤◌}
use native.Mathlib.Nat.{le_refl, le_trans}
use native.Mathlib.Omega.{arith}
use lib.ListN.{length, length-append, length-map}
use Rattle.store.specs.Store.{bits}
use Rattle.text.specs.Decimal.{decimal}
use Rattle.text.proofs.RoundTrip.{digits-most}
use Rattle.answers.specs.States.{store_bits}

pub record AtMost (xs : List ℕ) (n : ℕ) : Type 0 where
  pub le : length xs ≤ n

pub plus : {xs ys : List ℕ} {a b : ℕ} → AtMost xs a → AtMost ys b → AtMost (xs ++ ys) (a + b)
plus {xs} {ys} p q = record { le = omega (arith, length-append xs ys, p.le, q.le) }

pub more : {xs : List ℕ} {a b : ℕ} → a ≤ b → AtMost xs a → AtMost xs b
more h p = record { le = le_trans p.le h }

pub known : (xs : List ℕ) → AtMost xs (length xs)
known xs = record { le = le_refl (length xs) }

pub decimal-most : (n : ℕ) → AtMost (decimal n) 20
decimal-most n = record { le = digits-most 20 n }

-- one text or another
pub either : (c : Bool) {xs ys : List ℕ} {n : ℕ} → AtMost xs n → AtMost ys n → AtMost (cond c xs ys) n
either true p q = p
either false p q = q

bits-length : (m s : ℕ) → length (bits m s) ≡ m
bits-length zero s = refl
bits-length (suc m) s = ap suc (bits-length m (s / 2))

pub bits_most : (m s : ℕ) → m ≤ 64 → AtMost (store_bits m s) 64
unfolding store_bits
bits_most zero s h = record { le = omega arith }
bits_most (suc m) s h = record { le = omega (arith, length-map (bits (suc m) s) (λ (b : ℕ). 48 + b), bits-length (suc m) s) }
