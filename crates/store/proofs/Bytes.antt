-- Stores as bytes: the test of each byte, the number packed from the top down, and the bits read back from it.
use mathlib.Core.Path.{◌≡◌, refl, sym, ap, ◌∙◌, subst}
use mathlib.Core.Bool.{true}
use mathlib.Core.List.{List, [], ◌∷◌}
use Prim.Native.Nat.{ℕ, zero, suc, ◌+◌, ◌*◌, ◌/◌, ◌%◌, ◌^◌, ◌<◌, ◌≤◌}
use native.Mathlib.Nat.{pow-succ', div-lt_iff_lt-mul, div-add-mod', le_trans}
use native.Mathlib.Omega.{arith}
use lib.Dec.{eqb, leb}
use lib.Pow.{pow_mono}
use lib.ListN.{length, drop, length-drop}
use Rattle.std.specs.Prelude.{◌++◌}
use Rattle.std.proofs.Math.Seq.{drop-append_seam}
use Rattle.std.proofs.Math.Seq.{drop-length}
use Rattle.std.proofs.lemmas.List.{append_assoc, append-nil}
use borrow.Author.Tests.{leb-true, eqb-true}
use Rattle.algebra.specs.Words.{from_bits}
use Rattle.algebra.proofs.Bits.{bits-drop, bits_below}
use Rattle.algebra.proofs.Lists.{every-all}
use Rattle.algebra.proofs.Tests.{and_split}
use Rattle.store.specs.Store.{store_fits, bits}
use Rattle.store.specs.Inner.Held.{Bits}

-- what the test of a store says
pub fits_word : (m : ℕ) (σ : List ℕ) → store_fits m σ ≡ true → (length σ ≡ m) × Bits σ
fits_word m σ e =
    let (n, b) = and_split (eqb (length σ) m) _ e in
    (eqb-true (length σ) m n, every-all (λ (b : ℕ). leb b 1) (λ (v : ℕ). v < 2) (λ v h. omega (arith, leb-true v 1 h)) σ b)

-- ---- packed from the top down: r are the bits of l that are left, and x is the number of the others
abbrev pub Packing : List ℕ → List ℕ → ℕ → Type 0
Packing l r x = (r ++ drop (length r) l ≡ l) × (x ≡ from_bits (drop (length r) l))

pub packing-none : (l : List ℕ) → Packing l l 0
packing-none l = let e = drop-length l in (ap (λ (k : List ℕ). l ++ k) e ∙ append-nil l, ap from_bits (sym e))

pub packing-next : (l r s : List ℕ) (x b : ℕ) → r ≡ s ++ (b ∷ []) → Packing l r x → Packing l s (x * 2 + b)
packing-next l r s x b e (rest, number) =
    let all = sym (append_assoc s (b ∷ []) (drop (length r) l)) ∙ ap (λ (k : List ℕ). k ++ drop (length r) l) (sym e) ∙ rest in
    let next = sym (drop-append_seam s (b ∷ drop (length r) l)) ∙ ap (drop (length s)) all in
    (ap (λ (k : List ℕ). s ++ k) (sym next) ∙ all, omega (arith, number, ap from_bits next))

pub packing-all : (l r : List ℕ) (x : ℕ) → length r ≡ 0 → Packing l r x → x ≡ from_bits l
packing-all l r x e (rest, number) = number ∙ ap (λ (k : ℕ). from_bits (drop k l)) e

pub packing-below : (l r : List ℕ) (x : ℕ) → length l ≤ 64 → Bits l → Packing l r x → x < 2 ^ 64
packing-below l r x h b (rest, number) =
    omega (arith, number, le_trans (bits_below (drop (length r) l) (bits-drop (length r) l b)) (pow_mono {i = length (drop (length r) l)} {j = 64} (omega (arith, length-drop (length r) l))))

-- ---- a number's bits
pub bits_back : (m x : ℕ) → x < 2 ^ m → from_bits (bits m x) ≡ x
bits_back zero x h = omega arith
bits_back (suc m) x h = omega (arith, bits_back m (x / 2) ((div-lt_iff_lt-mul {k = 2} (omega arith)).1 (omega (arith, pow-succ' 2 m))), div-add-mod' x 2)

bits-from : (τ : List ℕ) → Bits τ → bits (length τ) (from_bits τ) ≡ τ
bits-from [] h = refl
bits-from (b ∷ τ) h =
    let l : b < 2 = h.0 in
    let low : (b + 2 * from_bits τ) % 2 ≡ b = omega arith in
    let high : (b + 2 * from_bits τ) / 2 ≡ from_bits τ = omega arith in
    (λ i. low i ∷ bits (length τ) (high i)) ∙ ap (λ (ρ : List ℕ). b ∷ ρ) (bits-from τ h.1)

pub bits-word : (m : ℕ) (τ : List ℕ) → (length τ ≡ m) × Bits τ → bits m (from_bits τ) ≡ τ
bits-word m τ (e, h) = subst (λ (k : ℕ). bits k (from_bits τ) ≡ τ) e (bits-from τ h)
