-- The laws of ℤ's product that the kit lacks: it distributes over the sum and is associative.
use mathlib.Core.Path.{◌≡◌, sym, ◌∙◌, ap, ap₂}
use Prim.Native.Nat.{zero, suc}
use lib.IntN.{ℤ, pos, negsuc, suc_ℤ, pred_ℤ, neg_ℤ, ◌+ℤ◌, ◌*ℤ◌, one, +ℤ_assoc, +ℤ_comm, neg_ℤ-+ℤ, neg_ℤ-neg_ℤ, neg_ℤ-suc_ℤ, neg_ℤ-pred_ℤ, *ℤ_comm, *ℤ-one, zero-*ℤ, suc_ℤ-*ℤ, pred_ℤ-*ℤ}

-- induction up and down from 0
up_down : (P : ℤ → Type 0) → P (pos 0) → ((k : ℤ) → P k → P (suc_ℤ k)) → ((k : ℤ) → P k → P (pred_ℤ k)) → (k : ℤ) → P k
up_down P z s p (pos zero) = z
up_down P z s p (pos (suc n)) = s (pos n) (up_down P z s p (pos n))
up_down P z s p (negsuc zero) = p (pos 0) z
up_down P z s p (negsuc (suc n)) = p (negsuc n) (up_down P z s p (negsuc n))

+ℤ-four : (a b c e : ℤ) → (a +ℤ b) +ℤ (c +ℤ e) ≡ (a +ℤ c) +ℤ (b +ℤ e)
+ℤ-four a b c e =
    +ℤ_assoc a b (c +ℤ e) ∙ ap (λ (x : ℤ). a +ℤ x) (sym (+ℤ_assoc b c e) ∙ ap (λ (x : ℤ). x +ℤ e) (+ℤ_comm b c) ∙ +ℤ_assoc c b e)
    ∙ sym (+ℤ_assoc a c (b +ℤ e))

pub *ℤ-+ℤ : (a b c : ℤ) → a *ℤ (b +ℤ c) ≡ a *ℤ b +ℤ a *ℤ c
*ℤ-+ℤ a b c = up_down (λ (k : ℤ). k *ℤ (b +ℤ c) ≡ k *ℤ b +ℤ k *ℤ c)
    (zero-*ℤ (b +ℤ c) ∙ sym (ap₂ ◌+ℤ◌ (zero-*ℤ b) (zero-*ℤ c)))
    (λ k h. suc_ℤ-*ℤ k (b +ℤ c) ∙ ap (λ (x : ℤ). x +ℤ (b +ℤ c)) h ∙ +ℤ-four (k *ℤ b) (k *ℤ c) b c ∙ sym (ap₂ ◌+ℤ◌ (suc_ℤ-*ℤ k b) (suc_ℤ-*ℤ k c)))
    (λ k h. pred_ℤ-*ℤ k (b +ℤ c) ∙ ap₂ ◌+ℤ◌ h (neg_ℤ-+ℤ b c) ∙ +ℤ-four (k *ℤ b) (k *ℤ c) (neg_ℤ b) (neg_ℤ c) ∙ sym (ap₂ ◌+ℤ◌ (pred_ℤ-*ℤ k b) (pred_ℤ-*ℤ k c)))
    a

+ℤ-*ℤ : (a b c : ℤ) → (a +ℤ b) *ℤ c ≡ a *ℤ c +ℤ b *ℤ c
+ℤ-*ℤ a b c = *ℤ_comm (a +ℤ b) c ∙ *ℤ-+ℤ c a b ∙ ap₂ ◌+ℤ◌ (*ℤ_comm c a) (*ℤ_comm c b)

negℤ-*ℤ : (a b : ℤ) → neg_ℤ a *ℤ b ≡ neg_ℤ (a *ℤ b)
negℤ-*ℤ a b = up_down (λ (k : ℤ). neg_ℤ k *ℤ b ≡ neg_ℤ (k *ℤ b))
    (zero-*ℤ b ∙ sym (ap neg_ℤ (zero-*ℤ b)))
    (λ k h. ap (λ (x : ℤ). x *ℤ b) (neg_ℤ-suc_ℤ k) ∙ pred_ℤ-*ℤ (neg_ℤ k) b ∙ ap (λ (x : ℤ). x +ℤ neg_ℤ b) h ∙ sym (ap neg_ℤ (suc_ℤ-*ℤ k b) ∙ neg_ℤ-+ℤ (k *ℤ b) b))
    (λ k h. ap (λ (x : ℤ). x *ℤ b) (neg_ℤ-pred_ℤ k) ∙ suc_ℤ-*ℤ (neg_ℤ k) b ∙ ap (λ (x : ℤ). x +ℤ b) h
    ∙ sym (ap neg_ℤ (pred_ℤ-*ℤ k b) ∙ neg_ℤ-+ℤ (k *ℤ b) (neg_ℤ b) ∙ ap (λ (x : ℤ). neg_ℤ (k *ℤ b) +ℤ x) (neg_ℤ-neg_ℤ b)))
    a

pub *ℤ-assoc : (a b c : ℤ) → (a *ℤ b) *ℤ c ≡ a *ℤ (b *ℤ c)
*ℤ-assoc a b c = up_down (λ (k : ℤ). (k *ℤ b) *ℤ c ≡ k *ℤ (b *ℤ c))
    (ap (λ (x : ℤ). x *ℤ c) (zero-*ℤ b) ∙ zero-*ℤ c ∙ sym (zero-*ℤ (b *ℤ c)))
    (λ k h. ap (λ (x : ℤ). x *ℤ c) (suc_ℤ-*ℤ k b) ∙ +ℤ-*ℤ (k *ℤ b) b c ∙ ap (λ (x : ℤ). x +ℤ b *ℤ c) h ∙ sym (suc_ℤ-*ℤ k (b *ℤ c)))
    (λ k h. ap (λ (x : ℤ). x *ℤ c) (pred_ℤ-*ℤ k b) ∙ +ℤ-*ℤ (k *ℤ b) (neg_ℤ b) c ∙ ap₂ ◌+ℤ◌ h (negℤ-*ℤ b c) ∙ sym (pred_ℤ-*ℤ k (b *ℤ c)))
    a

pub one-*ℤ : (a : ℤ) → pos 1 *ℤ a ≡ a
unfolding one
one-*ℤ a = *ℤ_comm (pos 1) a ∙ *ℤ-one a
