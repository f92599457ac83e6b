-- Matrices that touch only some bits of a row or column number: two of them on different bits commute.
use mathlib.Core.Path.{◌≡◌, refl, sym, ap, ap₂, ◌∙◌, subst}
use mathlib.Core.Logic.{◌≢◌, ◌⊎◌, inl, inr}
use mathlib.Core.Bool.{Bool, true, false, true≢false}
use Prim.Native.Nat.{ℕ, zero, suc, ◌<◌}
use native.Mathlib.Decide.{ℕ_discrete}
use native.Mathlib.Omega.{arith}
use Rattle.algebra.specs.Sum.{times}
use Rattle.algebra.proofs.Semi.{Semi, zero-mul}
use Rattle.algebra.proofs.Sum.{sum_one}
use Rattle.gate.proofs.Bits.{Bits}

-- either a property holds at each number below n, or it fails at one
pub seek : (n : ℕ) (P : ℕ → Type 0) → ((q : ℕ) → Dec (P q)) → ((q : ℕ) → q < n → P q) ⊎ ((q : ℕ) × (q < n) × ¬ P q)
seek zero P dec = inl (λ q l. absurd (omega arith))
seek (suc n) P dec = go (seek n P dec) (dec n)
  where
    go : ((q : ℕ) → q < n → P q) ⊎ ((q : ℕ) × (q < n) × ¬ P q) → Dec (P n) → ((q : ℕ) → q < suc n → P q) ⊎ ((q : ℕ) × (q < suc n) × ¬ P q)
    go (inr (q, l, f)) e = inr (q, omega arith, f)
    go (inl h) (no f) = inr (n, omega arith, f)
    go (inl h) (yes p) = inl (λ q l. at q l (ℕ_discrete q n))
      where
        at : (q : ℕ) → q < suc n → Dec (q ≡ n) → P q
        at q l (yes e) = subst P (sym e) p
        at q l (no e) = h q (omega arith)

module _ (𝓡 : Semi) (n d : ℕ) (bit : ℕ → ℕ → ℕ) where
  open 𝓡 use {R, ops, mul_comm, mul_zero}
  open 𝓡.ops use {𝟘, ◌⊗◌}

  infixl 70 ◌⊗◌
  -- G touches only the bits in s
  pub record Local (s : ℕ → Bool) (G : ℕ → ℕ → R) : Type 0 where
    pub off : (r c q : ℕ) → q < n → s q ≡ false → bit q r ≢ bit q c → G r c ≡ 𝟘
    pub on : (r c r' c' : ℕ) → ((q : ℕ) → q < n → s q ≡ true → bit q r ≡ bit q r') → ((q : ℕ) → q < n → s q ≡ true → bit q c ≡ bit q c')
        → ((q : ℕ) → q < n → s q ≡ false → bit q r ≡ bit q c) → ((q : ℕ) → q < n → s q ≡ false → bit q r' ≡ bit q c') → G r c ≡ G r' c'

  module _ (bits : Bits n d bit) where
    open bits use {tells, mix, mix_below, mix_on, mix_off}

    -- the one k that counts has c's bits on s and r's elsewhere
    pub one-term : (s t : ℕ → Bool) (G H : ℕ → ℕ → R) → Local s G → Local t H → ((q : ℕ) → q < n → s q ≡ true → t q ≡ false)
        → (r c : ℕ) → times ops d G H r c ≡ G r (mix s c r) ⊗ H (mix s c r) c
    one-term s t G H g h apart r c = sum_one 𝓡 d (mix s c r) (G r) (λ (k : ℕ). H k c) (mix_below s c r) (λ k l e. other k l e)
      where
        at : (k q : ℕ) → q < n → bit q k ≢ bit q (mix s c r) → (b : Bool) → s q ≡ b → G r k ⊗ H k c ≡ 𝟘
        at k q m x true e = ap (λ (y : R). G r k ⊗ y) (h.off k c q m (apart q m e) (λ y. x (y ∙ sym (mix_on s c r q m e)))) ∙ mul_zero (G r k)
        at k q m x false e = ap (λ (y : R). y ⊗ H k c) (g.off r k q m e (λ y. x (sym y ∙ sym (mix_off s c r q m e)))) ∙ zero-mul 𝓡 (H k c)

        found : (k : ℕ) → k < d → k ≢ mix s c r → ((q : ℕ) → q < n → bit q k ≡ bit q (mix s c r)) ⊎ ((q : ℕ) × (q < n) × (bit q k ≢ bit q (mix s c r))) → G r k ⊗ H k c ≡ 𝟘
        found k l e (inl f) = absurd (e (tells k (mix s c r) l (mix_below s c r) f))
        found k l e (inr (q, m, x)) = at k q m x (s q) refl

        other : (k : ℕ) → k < d → k ≢ mix s c r → G r k ⊗ H k c ≡ 𝟘
        other k l e = found k l e (seek n (λ (q : ℕ). bit q k ≡ bit q (mix s c r)) (λ q. ℕ_discrete (bit q k) (bit q (mix s c r))))

    decide : (a b : Bool) (x y : ℕ) → Dec (a ≡ false → b ≡ false → x ≡ y)
    decide true b x y = yes (λ e. absurd (true≢false e))
    decide false true x y = yes (λ e f. absurd (true≢false f))
    decide false false x y = go (ℕ_discrete x y)
      where
        go : Dec (x ≡ y) → Dec (false ≡ false → false ≡ false → x ≡ y)
        go (yes e) = yes (λ a b. e)
        go (no e) = no (λ h. e (h refl refl))

    refuse : (a b : Bool) {x y : ℕ} → ¬ (a ≡ false → b ≡ false → x ≡ y) → record { left : a ≡ false; right : b ≡ false; apart : x ≢ y }
    refuse true b h = absurd (h (λ e. absurd (true≢false e)))
    refuse false true h = absurd (h (λ e f. absurd (true≢false f)))
    refuse false false h = record { left = refl; right = refl; apart = λ e. h (λ a b. e) }

    module _ (s t : ℕ → Bool) (G H : ℕ → ℕ → R) (g : Local s G) (h : Local t H) (apart : (q : ℕ) → q < n → s q ≡ true → t q ≡ false) where
      back : (q : ℕ) → q < n → t q ≡ true → s q ≡ false
      back q l e = go (s q) refl
        where
          go : (b : Bool) → s q ≡ b → s q ≡ false
          go true f = absurd (true≢false (sym e ∙ apart q l f))
          go false f = f

      module _ (r c : ℕ) where
        abbrev k₀ : ℕ
        k₀ = mix s c r

        abbrev k₁ : ℕ
        k₁ = mix t c r

        meet : ((q : ℕ) → q < n → s q ≡ false → t q ≡ false → bit q r ≡ bit q c) → G r k₀ ⊗ H k₀ c ≡ H r k₁ ⊗ G k₁ c
        meet a = ap₂ ◌⊗◌ left right ∙ mul_comm (G k₁ c) (H r k₁)
          where
            left_off : (q : ℕ) → q < n → s q ≡ false → (b : Bool) → t q ≡ b → bit q k₁ ≡ bit q c
            left_off q l e true f = mix_on t c r q l f
            left_off q l e false f = mix_off t c r q l f ∙ a q l e f

            right_off : (q : ℕ) → q < n → t q ≡ false → (b : Bool) → s q ≡ b → bit q k₀ ≡ bit q c
            right_off q l e true f = mix_on s c r q l f
            right_off q l e false f = mix_off s c r q l f ∙ a q l f e

            left : G r k₀ ≡ G k₁ c
            left = g.on r k₀ k₁ c (λ q l e. sym (mix_off t c r q l (apart q l e))) (λ q l e. mix_on s c r q l e)
                (λ q l e. sym (mix_off s c r q l e)) (λ q l e. left_off q l e (t q) refl)

            right : H k₀ c ≡ H r k₁
            right = h.on k₀ c r k₁ (λ q l e. mix_off s c r q l (back q l e)) (λ q l e. sym (mix_on t c r q l e))
                (λ q l e. right_off q l e (s q) refl) (λ q l e. sym (mix_off t c r q l e))

        differ : (q : ℕ) → q < n → s q ≡ false → t q ≡ false → bit q r ≢ bit q c → G r k₀ ⊗ H k₀ c ≡ H r k₁ ⊗ G k₁ c
        differ q l e f x =
            ap (λ (y : R). G r k₀ ⊗ y) (h.off k₀ c q l f (λ y. x (sym (mix_off s c r q l e) ∙ y))) ∙ mul_zero (G r k₀)
            ∙ sym (ap (λ (y : R). H r k₁ ⊗ y) (g.off k₁ c q l e (λ y. x (sym (mix_off t c r q l f) ∙ y))) ∙ mul_zero (H r k₁))

        either : ((q : ℕ) → q < n → s q ≡ false → t q ≡ false → bit q r ≡ bit q c) ⊎ ((q : ℕ) × (q < n) × ¬ (s q ≡ false → t q ≡ false → bit q r ≡ bit q c))
            → G r k₀ ⊗ H k₀ c ≡ H r k₁ ⊗ G k₁ c
        either (inl a) = meet a
        either (inr (q, l, x)) = let f = refuse (s q) (t q) x in differ q l f.left f.right f.apart

        pub commute : times ops d G H r c ≡ times ops d H G r c
        commute =
            one-term s t G H g h apart r c
            ∙ either (seek n (λ (q : ℕ). s q ≡ false → t q ≡ false → bit q r ≡ bit q c) (λ q. decide (s q) (t q) (bit q r) (bit q c)))
            ∙ sym (one-term t s H G h g back r c)
