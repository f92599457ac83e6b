-- The stores of a list of branches: each once, those of the branches and no others, and the same up to order where the branches are;
-- a channel's block is read back by its store.
use mathlib.Core.Path.{◌≡◌, refl, sym, ap, ◌∙◌, subst}
use mathlib.Core.Bool.{Bool, true, false, cond, not, ◌||◌}
use mathlib.Core.List.{List, [], ◌∷◌}
use Prim.Native.Nat.{ℕ, ◌≤◌}
use native.Mathlib.Omega.{arith}
use lib.ListN.{length}
use borrow.Author.Tests.{not-true}
use Rattle.algebra.specs.Lists.{All, some, filter_by}
use Rattle.algebra.proofs.Lists.{all_imp, filter_all, filter_true, filter_length, filter_swap}
use Rattle.algebra.proofs.Trace.{nil, keep, swap, join, same}
use Rattle.algebra.proofs.Perm.{Perm, perm_path, filter_of, gather-of}
use Rattle.exact.specs.Exact.{exact}
use Rattle.exact.proofs.Exact.{exacts}
use Rattle.gate.specs.Operators.{same_bits}
use Rattle.gate.proofs.Bits.{same_true, same_sym}
use Rattle.kraus.specs.Branch.{Store, Branch}
use Rattle.kraus.specs.Blocks.{having, overlap, block, stores}

-- all but one store
abbrev pub other : Store → Store → Bool
other σ τ = not (same_bits σ τ)

-- ---- each once
abbrev pub Distinct : List Store → Type 0
Distinct [] = Unit {0}
Distinct (σ ∷ ss) = All (λ (τ : Store). same_bits σ τ ≡ false) ss × Distinct ss

pub distinct_filter : (p : Store → Bool) (ss : List Store) → Distinct ss → Distinct (filter_by p ss)
distinct_filter p [] h = tt
distinct_filter p (s ∷ ss) h = go (p s) (distinct_filter p ss h.1)
  where
    go : (b : Bool) → Distinct (filter_by p ss) → Distinct (cond b (s ∷ filter_by p ss) (filter_by p ss))
    go true r = (filter_all (λ (τ : Store). same_bits s τ ≡ false) p ss h.0, r)
    go false r = r

pub stores-distinct : (bs : List Branch) → Distinct (stores bs)
stores-distinct [] = tt
stores-distinct (b ∷ bs) = (
  all_imp (λ (τ : Store). other b.store τ ≡ true) (λ (τ : Store). same_bits b.store τ ≡ false) (filter_by (other b.store) (stores bs))
      (λ τ e. not-true (same_bits b.store τ) e) (filter_true (other b.store) (stores bs)),
  distinct_filter (other b.store) (stores bs) (stores-distinct bs),
)

pub stores-length : (bs : List Branch) → length (stores bs) ≤ length bs
stores-length [] = omega arith
stores-length (b ∷ bs) = omega (arith, stores-length bs, filter_length (other b.store) (stores bs))

-- what holds of all branches' stores
pub stores-all : (P : Store → Type 0) (bs : List Branch) → All (λ (b : Branch). P b.store) bs → All P (stores bs)
stores-all P [] h = tt
stores-all P (b ∷ bs) h = (h.0, filter_all P (other b.store) (stores bs) (stores-all P bs h.1))

-- ---- in any order
twice : (σ τ : Store) (ss : List Store) → Perm (σ ∷ filter_by (other σ) (τ ∷ filter_by (other τ) ss)) (τ ∷ filter_by (other τ) (σ ∷ filter_by (other σ) ss))
twice σ τ ss = go (same_bits σ τ) refl
  where
    go : (b : Bool) → same_bits σ τ ≡ b → Perm (σ ∷ filter_by (other σ) (τ ∷ filter_by (other τ) ss)) (τ ∷ filter_by (other τ) (σ ∷ filter_by (other σ) ss))
    go true e = subst (λ (ρ : Store). Perm (σ ∷ filter_by (other σ) (ρ ∷ filter_by (other ρ) ss)) (ρ ∷ filter_by (other ρ) (σ ∷ filter_by (other σ) ss)))
        (same_true σ τ e) (same (σ ∷ filter_by (other σ) (σ ∷ filter_by (other σ) ss)))
    go false e =
        join (perm_path (ap (λ (b : Bool). σ ∷ cond (not b) (τ ∷ filter_by (other σ) (filter_by (other τ) ss)) (filter_by (other σ) (filter_by (other τ) ss))) e))
        (join (swap σ τ refl) (perm_path (ap (λ (rs : List Store). τ ∷ σ ∷ rs) (filter_swap (other σ) (other τ) ss)
        ∙ sym (ap (λ (b : Bool). τ ∷ cond (not b) (σ ∷ filter_by (other τ) (filter_by (other σ) ss)) (filter_by (other τ) (filter_by (other σ) ss))) (same_sym σ τ e)))))

pub stores-of : {bs cs : List Branch} → Perm bs cs → Perm (stores bs) (stores cs)
stores-of nil = nil
stores-of (keep b p) = keep b.store (filter_of (other b.store) (stores-of p))
stores-of (swap b c {xs} e) = twice b.store c.store (stores xs)
stores-of (join p q) = join (stores-of p) (stores-of q)

-- the order of the branches is not in a block
pub block_of : {bs cs : List Branch} → Perm bs cs → (τ : Store) (i j : ℕ) → block bs τ i j ≡ block cs τ i j
block_of p τ i j = gather-of exact.◌⊕◌ exacts.add_assoc exacts.add_comm (overlap i j) (filter_of (having τ) p) exact.𝟘

-- ---- a store is listed exactly where a branch has it
others : (τ σ : Store) (ss : List Store) → same_bits τ σ ≡ false → some (same_bits τ) (filter_by (other σ) ss) ≡ some (same_bits τ) ss
others τ σ [] h = refl
others τ σ (ρ ∷ ss) h = go (same_bits σ ρ) refl (others τ σ ss h)
  where
    rest : List Store
    rest = filter_by (other σ) ss

    go : (b : Bool) → same_bits σ ρ ≡ b → some (same_bits τ) rest ≡ some (same_bits τ) ss
        → some (same_bits τ) (cond (not b) (ρ ∷ rest) rest) ≡ same_bits τ ρ || some (same_bits τ) ss
    go true e r = r ∙ ap (λ (b : Bool). b || some (same_bits τ) ss) (sym (ap (same_bits τ) (sym (same_true σ ρ e)) ∙ h))
    go false e r = ap (λ (b : Bool). same_bits τ ρ || b) r

pub stores_some : (bs : List Branch) (τ : Store) → some (same_bits τ) (stores bs) ≡ some (having τ) bs
stores_some [] τ = refl
stores_some (b ∷ bs) τ = go (same_bits τ b.store) refl (stores_some bs τ)
  where
    go : (c : Bool) → same_bits τ b.store ≡ c → some (same_bits τ) (stores bs) ≡ some (having τ) bs
        → c || some (same_bits τ) (filter_by (other b.store) (stores bs)) ≡ c || some (having τ) bs
    go true e r = refl
    go false e r = others τ b.store (stores bs) e ∙ r
