-- Where an entry on the diagonal of a store's block is zero, its row and its column are: it is a sum of squares.
use mathlib.Core.Path.{◌≡◌, refl, sym, ap, ◌∙◌}
use mathlib.Core.Bool.{Bool, true, false, cond, true≢false}
use mathlib.Core.List.{List}
use Prim.Native.Nat.{ℕ, zero, suc, ◌+◌, ◌*◌, ◌≤◌, ◌<◌}
use native.Mathlib.Nat.{le_refl}
use native.Mathlib.Decide.{dec_lt}
use native.Mathlib.Omega.{arith}
use lib.Arith.{digits_lt, digits_div, digits_mod}
use lib.Dec.{leb}
use lib.ListN.{length}
use lib.IntN.{ℤ, pos, negsuc, nat_abs, ◌+ℤ◌}
use borrow.Author.Tests.{leb-true}
use Rattle.algebra.specs.Quadratic.{conjugate}
use Rattle.algebra.proofs.Semi.{zero-mul}
use Rattle.algebra.proofs.Ring.{semi, mul_zero}
use Rattle.algebra.proofs.Quadratic.{ℤ√2i}
use Rattle.exact.specs.Exact.{Number, number, numbers, root2, is_zero}
use Rattle.exact.proofs.IsZero.{zero_is}
use Rattle.kraus.proofs.Measured.{form, measure}
use Rattle.share.specs.Share.{number_in}
use Rattle.hermitian.specs.Inner.Upper.{ZeroRow, Half}
use Rattle.collect.specs.Inner.Bank.{store_of, has, starts, largest, raised, numerators, Bank}
use Rattle.collect.proofs.Summing.{Summed, has_own, number_is, upper_is, block_asks}

-- ---- numbers whose squares are zero
root : (x : ℤ) → nat_abs x * nat_abs x ≡ 0 → x ≡ pos 0
root (pos zero) h = refl
root (pos (suc k)) h = absurd (omega arith)
root (negsuc k) h = absurd (omega arith)

form-none : (z : Number) → form z ≡ 0 → z ≡ numbers.𝟘
form-none z h = λ i. number (root z.re.re (omega arith) i) (root z.re.im (omega arith) i) (root z.im.re (omega arith) i) (root z.im.im (omega arith) i)

-- ---- entry (r, r) of the block of the store s
module _ (l : List ℤ) (at d e s r : ℕ) where
  -- the squares that it sums
  abbrev weight : ℕ → ℕ
  weight zero = 0
  weight (suc n) = cond (has l at d s n) (weight n + form (raised l at d e n r)) (weight n)

  weight_is : (n : ℕ) → (numerators l at d e n s r r).re.re ≡ pos (weight n)
  unfolding numerators
  weight_is zero = refl
  weight_is (suc n) = go (has l at d s n) (weight_is n)
    where
      own : (numbers.◌⊗◌ (raised l at d e n r) (conjugate root2 (raised l at d e n r))).re.re ≡ pos (form (raised l at d e n r))
      own = ap (λ (z : Number). z.re.re) (ℤ√2i.mul_comm (raised l at d e n r) (conjugate root2 (raised l at d e n r))) ∙ measure.ρ-Q (raised l at d e n r)

      go : (t : Bool) → (numerators l at d e n s r r).re.re ≡ pos (weight n)
          → (cond t (numbers.◌⊕◌ (numerators l at d e n s r r) (numbers.◌⊗◌ (raised l at d e n r) (conjugate root2 (raised l at d e n r)))) (numerators l at d e n s r r)).re.re ≡ pos (cond t (weight n + form (raised l at d e n r)) (weight n))
      go true q = λ i. q i +ℤ own i
      go false q = q

  -- row r and column r
  none : (n : ℕ) → weight n ≡ 0 → (c : ℕ) → (numerators l at d e n s r c ≡ numbers.𝟘) × (numerators l at d e n s c r ≡ numbers.𝟘)
  unfolding numerators
  none zero h c = (refl, refl)
  none (suc n) h c = go (has l at d s n) h (none n)
    where
      go : (t : Bool) → cond t (weight n + form (raised l at d e n r)) (weight n) ≡ 0 → (weight n ≡ 0 → (c : ℕ) → (numerators l at d e n s r c ≡ numbers.𝟘) × (numerators l at d e n s c r ≡ numbers.𝟘))
          → (cond t (numbers.◌⊕◌ (numerators l at d e n s r c) (numbers.◌⊗◌ (raised l at d e n r) (conjugate root2 (raised l at d e n c)))) (numerators l at d e n s r c) ≡ numbers.𝟘)
          × (cond t (numbers.◌⊕◌ (numerators l at d e n s c r) (numbers.◌⊗◌ (raised l at d e n c) (conjugate root2 (raised l at d e n r)))) (numerators l at d e n s c r) ≡ numbers.𝟘)
      go false q f = f q c
      go true q f =
          let z = form-none (raised l at d e n r) (omega arith) in
          let p = f (omega arith) c in (
            (λ i. numbers.◌⊕◌ (p.0 i) (numbers.◌⊗◌ (z i) (conjugate root2 (raised l at d e n c)))) ∙ ap (numbers.◌⊕◌ numbers.𝟘) (zero-mul (semi ℤ√2i) (conjugate root2 (raised l at d e n c))),
            (λ i. numbers.◌⊕◌ (p.1 i) (numbers.◌⊗◌ (raised l at d e n c) (conjugate root2 (z i)))) ∙ ap (numbers.◌⊕◌ numbers.𝟘) (mul_zero ℤ√2i (raised l at d e n c)),
          )

  -- and entry r of a branch that has the store
  own-none : (n : ℕ) → weight n ≡ 0 → (j : ℕ) → j < n → has l at d s j ≡ true → raised l at d e j r ≡ numbers.𝟘
  own-none zero h j p q = absurd (omega arith)
  own-none (suc n) h j p q = go (has l at d s n) refl h (dec_lt j n) (λ z p. own-none n z j p q)
    where
      go : (t : Bool) → has l at d s n ≡ t → cond t (weight n + form (raised l at d e n r)) (weight n) ≡ 0 → Dec (j < n) → (weight n ≡ 0 → j < n → raised l at d e j r ≡ numbers.𝟘) → raised l at d e j r ≡ numbers.𝟘
      go true f h (yes p) u = u (omega arith) p
      go false f h (yes p) u = u h p
      go true f h (no k) u = let b : j ≡ n = omega arith in ap (λ (i : ℕ). raised l at d e i r) b ∙ form-none (raised l at d e n r) (omega arith)
      go false f h (no k) u = let b : n ≡ j = omega arith in absurd (true≢false (sym q ∙ sym (ap (has l at d s) b) ∙ f))

  weight-none : (n : ℕ) → is_zero (numerators l at d e n s r r) ≡ true → weight n ≡ 0
  weight-none n z = ap nat_abs (sym (weight_is n) ∙ ap (λ (y : Number). y.re.re) (zero_is (numerators l at d e n s r r) z))

-- ---- the sums of a bank's branches
module _ {l : List ℤ} {at d n : ℕ} (bank : Bank l at d n) {m : List ℤ} {out b : ℕ} (hb : b < n) (first : starts l at d b ≡ true) (room : out + d * d * (d * d) * 4 ≤ length m) {q : List ℤ} (ws : Summed m out l at d (largest l at d n) b q n) where
  abbrev s : ℕ
  s = store_of l at d b

  abbrev e : ℕ
  e = largest l at d n

  -- row r and column r, where the number on the diagonal is zero
  row-none : (r : ℕ) → r < d * d → is_zero (number_in q (out + (r * (d * d) + r) * 4)) ≡ true → ZeroRow q out (d * d) r
  row-none r hr z =
      record { row = λ c hc. row c hc (leb r c) refl; column = λ c h. let le : c ≤ r = omega arith in upper_is ws room c r le hr ∙ (none l at d e s r n empty c).1 }
    where
      empty : weight l at d e s r n ≡ 0
      empty = weight-none l at d e s r n (sym (ap is_zero (upper_is ws room r r (le_refl r) hr)) ∙ z)

      own : is_zero (raised l at d e b r) ≡ true
      own = ap is_zero (own-none l at d e s r n empty b hb (has_own l at d e b first))

      row : (c : ℕ) → c < d * d → (t : Bool) → leb r c ≡ t → number_in q (out + (r * (d * d) + c) * 4) ≡ numbers.𝟘
      row c hc true p = upper_is ws room r c (leb-true r c p) hc ∙ (none l at d e s r n empty c).0
      row c hc false p =
          number_is ws room (r * (d * d) + c) (digits_lt hr hc)
          ∙ (λ i. cond (leb (digits_div r hc i) (digits_mod r hc i)) (numerators l at d e n s (digits_div r hc i) (digits_mod r hc i)) (cond (is_zero (raised l at d e b (digits_div r hc i))) numbers.𝟘 (number_in m (out + (r * (d * d) + c) * 4))))
          ∙ ap (λ (t : Bool). cond t (numerators l at d e n s r c) (cond (is_zero (raised l at d e b r)) numbers.𝟘 (number_in m (out + (r * (d * d) + c) * 4)))) p
          ∙ ap (λ (t : Bool). cond t numbers.𝟘 (number_in m (out + (r * (d * d) + c) * 4))) own

  pub half_asks : Half q out (d * d)
  half_asks = record { block = block_asks bank hb room refl ws (le_refl n); none = row-none }
