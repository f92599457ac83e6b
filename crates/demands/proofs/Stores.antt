-- The stores and blocks of two lists of surviving branches that are the same up to order.
use mathlib.Core.Path.{◌≡◌, refl, sym, ap, ◌∙◌}
use mathlib.Core.Bool.{Bool, true, false, cond, not, ◌||◌}
use mathlib.Core.List.{List, [], ◌∷◌, map, map-map}
use Prim.Native.Nat.{ℕ, suc, ◌+◌, ◌*◌, ◌/◌, ◌%◌, ◌<◌}
use native.Mathlib.Omega.{arith}
use lib.ListN.{length, get_or}
use Rattle.algebra.specs.Lists.{All, some, filter_by}
use Rattle.algebra.specs.Words.{from_bits}
use Rattle.algebra.proofs.Lists.{all_get_d}
use Rattle.algebra.proofs.Trace.{join, all_back}
use Rattle.algebra.proofs.Perm.{Perm, perm_path, map_of}
use Rattle.gate.specs.Operators.{same_bits}
use Rattle.gate.proofs.Bits.{same_true}
use Rattle.kraus.specs.Branch.{Store, Branch}
use Rattle.kraus.specs.Blocks.{block, stores}
use Rattle.kraus.proofs.Stores.{other, stores-of, block_of}
use Rattle.channel.specs.Layout.{side}
use Rattle.collect.specs.Delivered.{block_no}
use Rattle.demands.proofs.Reading.{Covers, range, range_map}

-- ---- the order of the branches
record Place (ss : List Store) (τ : Store) : Type 0 where
  place : ℕ
  below : place < length ss
  is : get_or ss place [] ≡ τ

all-range : (P : Store → Type 0) (ss : List Store) → ((i : ℕ) → i < length ss → P (get_or ss i [])) → All P ss
all-range P [] h = tt
all-range P (σ ∷ ss) h = (h 0 (omega arith), all-range P ss (λ i l. h (suc i) (omega arith)))

pub covers : (d : ℕ) {bs cs : List Branch} → Perm bs cs → Covers (side d) (length (stores bs)) (block_no d bs) (length (stores cs)) (block_no d cs)
covers d {bs} {cs} p j l =
    let f : Place (stores cs) (get_or (stores bs) j []) = all_get_d (Place (stores cs)) (stores bs)
    (all_back (Place (stores cs)) (stores-of p) (all-range (Place (stores cs)) (stores cs) (λ i k. record { place = i; below = k; is = refl }))) j l [] in
    record {
      place = f.place;
      below = f.below;
      agree = record {
        store = ap from_bits (sym f.is);
        entries = λ k q. block_of p (get_or (stores bs) j []) (k / side d) (k % side d) ∙ ap (λ (τ : Store). block cs τ (k / side d) (k % side d)) (sym f.is);
      };
    }

-- the numbers of the stores, by their places
numbered : (d : ℕ) (bs : List Branch) → map (λ (j : ℕ). (block_no d bs j).store) (range 0 (length (stores bs))) ≡ map from_bits (stores bs)
numbered d bs =
    sym (map-map from_bits (λ (j : ℕ). get_or (stores bs) j []) (range 0 (length (stores bs))))
    ∙ ap (map from_bits) (range_map [] (stores bs) 0 (λ (j : ℕ). get_or (stores bs) j []) (λ k h. let e : 0 + k ≡ k = omega arith in ap (λ (j : ℕ). get_or (stores bs) j []) e))

pub stores_perm : (d : ℕ) {bs cs : List Branch} → Perm bs cs
    → Perm (map (λ (j : ℕ). (block_no d bs j).store) (range 0 (length (stores bs)))) (map (λ (j : ℕ). (block_no d cs j).store) (range 0 (length (stores cs))))
stores_perm d {bs} {cs} p = join (perm_path (numbered d bs)) (join (map_of from_bits (stores-of p)) (perm_path (sym (numbered d cs))))

-- ---- a test of the stores is one of the branches
pub some-stores : (q : Store → Bool) (bs : List Branch) → some q (stores bs) ≡ some (λ (b : Branch). q b.store) bs
some-stores q [] = refl
some-stores q (b ∷ bs) = go (q b.store) refl (some-stores q bs)
  where
    skip : (ss : List Store) → q b.store ≡ false → some q (filter_by (other b.store) ss) ≡ some q ss
    skip [] e = refl
    skip (σ ∷ ss) e = one (same_bits b.store σ) refl (skip ss e)
      where
        one : (t : Bool) → same_bits b.store σ ≡ t → some q (filter_by (other b.store) ss) ≡ some q ss
            → some q (cond (not t) (σ ∷ filter_by (other b.store) ss) (filter_by (other b.store) ss)) ≡ (q σ || some q ss)
        one true f r = r ∙ ap (λ (t : Bool). t || some q ss) (sym (ap q (sym (same_true b.store σ f)) ∙ e))
        one false f r = ap (λ (t : Bool). q σ || t) r

    go : (t : Bool) → q b.store ≡ t → some q (stores bs) ≡ some (λ (b : Branch). q b.store) bs
        → (t || some q (filter_by (other b.store) (stores bs))) ≡ (t || some (λ (b : Branch). q b.store) bs)
    go true e r = refl
    go false e r = skip (stores bs) e ∙ r
