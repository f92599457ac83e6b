-- Tests, facts and sums of blocks that agree with the blocks of a list of stores.
use mathlib.Core.Path.{◌≡◌, refl, ap, ◌∙◌}
use mathlib.Core.Bool.{Bool, ◌||◌}
use mathlib.Core.List.{List, [], ◌∷◌, map}
use Prim.Native.Nat.{ℕ}
use Rattle.algebra.specs.Lists.{All, some}
use Rattle.algebra.proofs.Perm.{gather}
use Rattle.exact.specs.Exact.{Exact, exact}
use Rattle.kraus.specs.Branch.{Store}
use Rattle.channel.specs.Layout.{Block}
use Rattle.demands.proofs.Reading.{SameBlock, SameBlocks}

module _ (w : ℕ) (blk : Store → Block) where
  pub agrees_some : (q : ℕ → Bool) (xs : List Block) (ts : List Store) → SameBlocks w xs (map blk ts) → some (λ (a : Block). q a.store) xs ≡ some (λ (τ : Store). q (blk τ).store) ts
  agrees_some q [] [] h = refl
  agrees_some q [] (τ ∷ ts) h = absurd h
  agrees_some q (x ∷ xs) [] h = absurd h
  agrees_some q (x ∷ xs) (τ ∷ ts) h = λ i. q (h.0.store i) || agrees_some q xs ts h.1 i

  pub agrees_all : (P : Block → Type 0) (Q : Store → Type 0) → ((a : Block) (τ : Store) → Q τ → SameBlock w a (blk τ) → P a) → (xs : List Block) (ts : List Store) → All Q ts → SameBlocks w xs (map blk ts) → All P xs
  agrees_all P Q f [] [] k h = tt
  agrees_all P Q f [] (τ ∷ ts) k h = absurd h
  agrees_all P Q f (x ∷ xs) [] k h = absurd h
  agrees_all P Q f (x ∷ xs) (τ ∷ ts) k h = (f x τ k.0 h.0, agrees_all P Q f xs ts k.1 h.1)

  pub agrees_fold : (φ : Block → Exact) (ψ : Store → Exact) → ((a : Block) (τ : Store) → SameBlock w a (blk τ) → φ a ≡ ψ τ) → (xs : List Block) (ts : List Store) (z : Exact) → SameBlocks w xs (map blk ts)
      → gather exact.◌⊕◌ φ z xs ≡ gather exact.◌⊕◌ ψ z ts
  agrees_fold φ ψ f [] [] z h = refl
  agrees_fold φ ψ f [] (τ ∷ ts) z h = absurd h
  agrees_fold φ ψ f (x ∷ xs) [] z h = absurd h
  agrees_fold φ ψ f (x ∷ xs) (τ ∷ ts) z h =
      agrees_fold φ ψ f xs ts (exact.◌⊕◌ z (φ x)) h.1 ∙ ap (λ (y : Exact). gather exact.◌⊕◌ ψ (exact.◌⊕◌ z y) ts) (f x τ h.0)
