-- Words that are written as far as there is room for them.
use mathlib.Core.Path.{◌≡◌, refl, sym, ap, ◌∙◌}
use mathlib.Core.List.{List, [], ◌∷◌, ◌++◌, append_assoc, append-nil}
use Prim.Native.Nat.{ℕ, zero, suc, ◌+◌, ◌<◌, ◌≤◌}
use native.Mathlib.Nat.{add-zero, zero-add}
use native.Mathlib.Decide.{dec_lt}
use native.Mathlib.Omega.{arith}
use lib.ListN.{length, take, set, length-append, length-take}
use lib.Seq.{sets, length-sets, set-set, set_comm, take_all, take-set-lt, take-set-le, take-append-le}
use Rattle.algebra.proofs.Blocks.{sets_append}

-- ---- a store among those of a run, and one behind the end
set_before : (xs l : List ℕ) (i j v : ℕ) → i < j → set (sets l j xs) i v ≡ sets (set l i v) j xs
set_before [] l i j v h = refl
set_before (x ∷ xs) l i j v h = set_before xs (set l j x) i (suc j) v (omega arith) ∙ ap (λ (m : List ℕ). sets m (suc j) xs) (set_comm l j i x v (λ e. omega arith))

set-among : (xs l : List ℕ) (j k v : ℕ) → k < length xs → set (sets l j xs) (j + k) v ≡ sets l j (set xs k v)
set-among [] l j k v h = absurd (omega arith)
set-among (x ∷ xs) l j zero v h =
    ap (λ (i : ℕ). set (sets (set l j x) (suc j) xs) i v) (add-zero j) ∙ set_before xs (set l j x) j (suc j) v (omega arith) ∙ ap (λ (m : List ℕ). sets m (suc j) xs) (set-set l j x v)
set-among (x ∷ xs) l j (suc k) v h =
    let e : j + suc k ≡ suc j + k = omega arith in
    ap (λ (i : ℕ). set (sets (set l j x) (suc j) xs) i v) e ∙ set-among xs (set l j x) (suc j) k v (omega arith)

set-beyond : (l : List ℕ) (i v : ℕ) → length l ≤ i → set l i v ≡ l
set-beyond [] i v h = refl
set-beyond (x ∷ xs) zero v h = absurd (omega arith)
set-beyond (x ∷ xs) (suc i) v h = ap (λ (ys : List ℕ). x ∷ ys) (set-beyond xs i v (omega arith))

-- ---- a buffer that was l, with the words ws in front as far as there is room
abbrev pub Held : List ℕ → List ℕ → List ℕ → Type 0
Held l g ws = g ≡ sets l 0 (take (length l) ws)

pub held_none : (l : List ℕ) → Held l l []
held_none l = by (length l)
  where
    by : (n : ℕ) → l ≡ sets l 0 (take n [])
    by zero = refl
    by (suc n) = refl

module _ (l : List ℕ) where
  held_length : {g : List ℕ} (ws : List ℕ) → Held l g ws → length g ≡ length l
  held_length ws h = ap length h ∙ length-sets l 0 (take (length l) ws)

  -- behind the room nothing is written
  held-beyond : {g : List ℕ} (ws vs : List ℕ) (at v : ℕ) → length l ≤ at → take (length l) vs ≡ take (length l) ws → Held l g ws → Held l (set g at v) vs
  held-beyond {g} ws vs at v b e h = set-beyond g at v (omega (arith, held_length ws h)) ∙ h ∙ ap (sets l 0) (sym e)

  -- another word at a place
  pub held_set : {g : List ℕ} (ws : List ℕ) (at v : ℕ) → at < length ws → Held l g ws → Held l (set g at v) (set ws at v)
  held_set {g} ws at v i h = by (dec_lt at (length l))
    where
      by : Dec (at < length l) → Held l (set g at v) (set ws at v)
      by (yes r) =
          ap (λ (m : List ℕ). set m at v) h
          ∙ ap (λ (k : ℕ). set (sets l 0 (take (length l) ws)) k v) (sym (zero-add at))
          ∙ set-among (take (length l) ws) l 0 at v (simp length-take (omega arith))
          ∙ ap (sets l 0) (sym (take-set-lt (length l) ws at v r))
      by (no r) = held-beyond ws (set ws at v) at v (omega arith) (take-set-le (length l) ws at v (omega arith)) h

  -- a word more
  held_more : {g : List ℕ} (ws : List ℕ) (v : ℕ) → Held l g ws → Held l (set g (length ws) v) (ws ++ (v ∷ []))
  held_more {g} ws v h = by (dec_lt (length ws) (length l))
    where
      by : Dec (length ws < length l) → Held l (set g (length ws) v) (ws ++ (v ∷ []))
      by (yes r) =
          let all : take (length l) ws ≡ ws = take_all (length l) ws (omega arith) in
          let more : take (length l) (ws ++ (v ∷ [])) ≡ ws ++ (v ∷ []) = take_all (length l) (ws ++ (v ∷ [])) (omega (arith, length-append ws (v ∷ []))) in
          ap (λ (m : List ℕ). set m (length ws) v) (h ∙ ap (sets l 0) all)
          ∙ ap (λ (i : ℕ). set (sets l 0 ws) i v) (sym (zero-add (length ws)))
          ∙ sym (sets_append ws (v ∷ []) l 0) ∙ ap (sets l 0) (sym more)
      by (no r) = held-beyond ws (ws ++ (v ∷ [])) (length ws) v (omega arith) (take-append-le (length l) ws (v ∷ []) (omega arith)) h

  -- and many more
  pub held_run : (vs ws : List ℕ) {g : List ℕ} → Held l g ws → Held l (sets g (length ws) vs) (ws ++ vs)
  held_run [] ws h = h ∙ ap (λ (xs : List ℕ). sets l 0 (take (length l) xs)) (sym (append-nil ws))
  held_run (v ∷ vs) ws {g} h =
      let n : suc (length ws) ≡ length (ws ++ (v ∷ [])) = omega (arith, length-append ws (v ∷ [])) in
      ap (λ (k : ℕ). sets (set g (length ws) v) k vs) n ∙ held_run vs (ws ++ (v ∷ [])) (held_more ws v h)
      ∙ ap (λ (xs : List ℕ). sets l 0 (take (length l) xs)) (append_assoc ws (v ∷ []) vs)
