-- Words of a channel: the starts of records, words equal to a small number, dimensions.
use mathlib.Core.Path.{◌≡◌, refl, sym, ap, ◌∙◌, subst}
use mathlib.Core.Bool.{Bool, true, false, ◌&&◌, ◌||◌, true≢false}
use mathlib.Core.Logic.{◌⊎◌, inl, inr}
use Prim.Native.Nat.{ℕ, suc, ◌+◌, ◌*◌, ◌-◌, ◌/◌, ◌%◌, ◌^◌, ◌<◌, ◌≤◌}
use native.Mathlib.Nat.{div-add-mod', mul-le-mul}
use native.Mathlib.Omega.{arith}
use lib.Arith.{digits_div, digits_mod}
use lib.Dec.{T, leb, eqb, ltb, ltb→lt}
use lib.IntN.{ℤ, pos, negsuc, nat_abs}
use lib.Signed.{lt_z, non_neg}
use mir.Syntax.{w64}
use mir.Val.{SFits, to_z, of_z, sel}
use borrow.Author.Tests.{ltb-true, ltb-false, leb-true, le-leb, lt-ltb, eq-eqb, eqb-true, ne_eqb}
use Rattle.algebra.specs.Words.{up_to, eqℤ}
use Rattle.algebra.proofs.Tests.{and_split}
use Rattle.algebra.proofs.Signed.{eq_words}
use Rattle.algebra.proofs.Blocks.{block_in_lem}
use Rattle.channel.specs.Layout.{Form, header_size, record_head, block_size, record_size, record_at}
use Rattle.channel.specs.WellFormed.{is_start, is_dim}

-- ---- starts of records
pub high_start : (F : Form) (n : ℕ) (z : ℤ) → lt_z z (pos header_size) ≡ false → (eqb ((nat_abs z - header_size) % record_size F) 0 && ltb ((nat_abs z - header_size) / record_size F) n) ≡ is_start F n z
high_start F n (pos a) e = ap (λ (b : Bool). b && (eqb ((a - header_size) % record_size F) 0 && ltb ((a - header_size) / record_size F) n)) (sym (le-leb header_size a (ltb-false a header_size e)))
high_start F n (negsuc a) e = absurd (subst T e tt)

-- an index at which a record starts is that of one of the n records
pub record Starts (F : Form) (n a : ℕ) : Type 0 where
  pub place : ℕ
  pub below : place < n
  pub is : a ≡ record_at F place

pub starts : (F : Form) (n : ℕ) (z : ℤ) → is_start F n z ≡ true → T (non_neg z) × Starts F n (nat_abs z)
starts F n (pos a) e = (tt, by (record_size F) (and_split (leb header_size a) _ e))
  where
    by : (size : ℕ) → (leb header_size a ≡ true) × ((eqb ((a - header_size) % record_size F) 0 && ltb ((a - header_size) / record_size F) n) ≡ true) → Starts F n a
    by size t =
        let u = and_split (eqb ((a - header_size) % record_size F) 0) _ t.1 in
        record { place = (a - header_size) / record_size F; below = ltb-true _ n u.1; is = whole_part (record_size F) a (leb-true header_size a t.0) (eqb-true _ 0 u.0) }
      where
        whole_part : (s a : ℕ) → header_size ≤ a → (a - header_size) % s ≡ 0 → a ≡ header_size + (a - header_size) / s * s
        whole_part s a h z = omega (arith, div-add-mod' (a - header_size) s)
starts F n (negsuc a) e = absurd (true≢false (sym e))

pub start_is : (F : Form) (n i : ℕ) → i < n → is_start F n (pos (record_at F i)) ≡ true
start_is F n i h = λ k. le-leb header_size (record_at F i) (omega arith) k && (eq-eqb _ 0 at.0 k && lt-ltb _ n (subst (λ (p : ℕ). p < n) (sym at.1) h) k)
  where
    at : ((record_at F i - header_size) % record_size F ≡ 0) × ((record_at F i - header_size) / record_size F ≡ i)
    at = by (block_size F)
      where
        by : (r : ℕ) → ((header_size + i * (record_head + r) - header_size) % (record_head + r) ≡ 0) × ((header_size + i * (record_head + r) - header_size) / (record_head + r) ≡ i)
        by r =
            let z : header_size + i * (record_head + r) - header_size ≡ i * (record_head + r) + 0 = omega arith in
            (ap (λ (k : ℕ). k % (record_head + r)) z ∙ digits_mod i (omega arith), ap (λ (k : ℕ). k / (record_head + r)) z ∙ digits_div i (omega arith))

-- a record that starts at one of n places lies inside the n records
pub starts-inside : {F : Form} {n a : ℕ} → Starts F n a → a + record_size F ≤ header_size + n * record_size F
starts-inside {F} {n} {a} s = by (record_size F) s.place s.is s.below
  where
    by : (r j : ℕ) → a ≡ header_size + j * r → j < n → a + r ≤ header_size + n * r
    by r j e h = omega (arith, block_in_lem h r)

-- ---- words equal to a small number
pub eq_small : (n : ℕ) → T (ltb n (2 ^ 63)) → (z : ℤ) → SFits w64 z → eqb (of_z w64 z) n ≡ eqℤ z (pos n)
eq_small n t z f = eq_words z (pos n) f (record { sfits = ltb→lt n (2 ^ 63) t })

-- `z == 0`
pub bits-zero : (n : ℕ) → eqb n 0 ≡ eqℤ (to_z w64 n) (pos 0)
bits-zero n = go (ltb n (2 ^ 63)) refl
  where
    go : (b : Bool) → ltb n (2 ^ 63) ≡ b → eqb n 0 ≡ eqℤ (sel b (pos n) (negsuc (2 ^ 64 - suc n))) (pos 0)
    go true e = refl
    go false e = ne_eqb n 0 (λ z. omega (arith, ltb-false n (2 ^ 63) e))

-- ---- dimensions
either : (a b : Bool) → (a || b) ≡ true → (a ≡ true) ⊎ (b ≡ true)
either true b e = inl refl
either false b e = inr e

pub dim_range : (z : ℤ) → is_dim z ≡ true → (up_to 16 z ≡ true) × (1 ≤ nat_abs z)
dim_range (negsuc a) e = absurd (true≢false (sym e))
dim_range (pos a) e = first (either _ _ e)
  where
    is : (k : ℕ) → 1 ≤ k → k ≤ 16 → eqb a k ≡ true → (leb a 16 ≡ true) × (1 ≤ a)
    is k low high t = let q = eqb-true a k t in (le-leb a 16 (omega arith), omega arith)

    fourth : (eqb a 1 ≡ true) ⊎ (eqb a 2 ≡ true) → (leb a 16 ≡ true) × (1 ≤ a)
    fourth (inl t) = is 1 (omega arith) (omega arith) t
    fourth (inr t) = is 2 (omega arith) (omega arith) t

    third : ((eqb a 1 || eqb a 2) ≡ true) ⊎ (eqb a 4 ≡ true) → (leb a 16 ≡ true) × (1 ≤ a)
    third (inl t) = fourth (either _ _ t)
    third (inr t) = is 4 (omega arith) (omega arith) t

    second : (((eqb a 1 || eqb a 2) || eqb a 4) ≡ true) ⊎ (eqb a 8 ≡ true) → (leb a 16 ≡ true) × (1 ≤ a)
    second (inl t) = third (either _ _ t)
    second (inr t) = is 8 (omega arith) (omega arith) t

    first : ((((eqb a 1 || eqb a 2) || eqb a 4) || eqb a 8) ≡ true) ⊎ (eqb a 16 ≡ true) → (leb a 16 ≡ true) × (1 ≤ a)
    first (inl t) = second (either _ _ t)
    first (inr t) = is 16 (omega arith) (omega arith) t

pub square_small : (d : ℕ) → d ≤ 16 → d * d ≤ 256
square_small d h = mul-le-mul h h
