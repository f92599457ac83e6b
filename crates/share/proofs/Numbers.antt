-- Four numerators in words: the same words are the same number, what was written is read back, and what stands there already changes nothing.
use mathlib.Core.Path.{◌≡◌, refl, sym, ap, ◌∙◌}
use mathlib.Core.List.{List, [], ◌∷◌}
use Prim.Native.Nat.{ℕ, zero, suc, ◌+◌, ◌*◌, ◌≤◌, ◌<◌}
use native.Mathlib.Nat.{le_refl, add-zero}
use native.Mathlib.Omega.{arith}
use lib.ListN.{length, get_or, set}
use lib.Seq.{sets, set-get_or}
use lib.IntN.{ℤ, pos}
use Rattle.algebra.specs.Words.{blocks, fill_words, joined}
use Rattle.algebra.proofs.Blocks.{Same, blocks_at, blocks-joined, joined-rows}
use Rattle.exact.specs.Exact.{Number, number, numbers, list_of}
use Rattle.share.specs.Share.{number_in, with_numerators}

-- ---- the same four words
pub number_same : {l m : List ℤ} {at : ℕ} → Same l m at 4 → number_in l at ≡ number_in m at
number_same {l} {m} {at} h =
    λ i. number (h.word at (omega arith) (omega arith) i) (h.word (at + 1) (omega arith) (omega arith) i) (h.word (at + 2) (omega arith) (omega arith) i) (h.word (at + 3) (omega arith) (omega arith) i)

-- four words that are those of a number
pub number_is : (l : List ℤ) (at : ℕ) (z : Number) → ((k : ℕ) → k < 4 → get_or l (at + k) (pos 0) ≡ get_or (list_of z) k (pos 0)) → number_in l at ≡ z
number_is l at z h =
    let first = ap (λ (w : ℕ). get_or l w (pos 0)) (sym (add-zero at)) ∙ h 0 (omega arith) in
    λ i. number (first i) (h 1 (omega arith) i) (h 2 (omega arith) i) (h 3 (omega arith) i)

-- number i is read back
pub number-filled : (f : ℕ → Number) (l : List ℤ) (at n i : ℕ) → i < n → at + n * 4 ≤ length l → number_in (with_numerators l at n f) (at + i * 4) ≡ f i
number-filled f l at n i h room = number_is (with_numerators l at n f) (at + i * 4) (f i) (λ k p. blocks_at 4 l at (λ (k : ℕ). list_of (f k)) (λ i. le_refl 4) n i k h p room)

-- ---- words that are written where they stand already
pub sets_there : (vs l : List ℤ) (at : ℕ) → ((k : ℕ) → k < length vs → get_or l (at + k) (pos 0) ≡ get_or vs k (pos 0)) → sets l at vs ≡ l
sets_there [] l at h = refl
sets_there (a ∷ vs) l at h = ap (λ (m : List ℤ). sets m (suc at) vs) first ∙ sets_there vs l (suc at) (λ k p. rest k p)
  where
    first : set l at a ≡ l
    first = ap (set l at) (sym (h 0 (omega arith)) ∙ ap (λ (w : ℕ). get_or l w (pos 0)) (add-zero at)) ∙ set-get_or l at (pos 0)

    rest : (k : ℕ) → k < length vs → get_or l (suc at + k) (pos 0) ≡ get_or vs k (pos 0)
    rest k p = let e : suc at + k ≡ at + suc k = omega arith in ap (λ (w : ℕ). get_or l w (pos 0)) e ∙ h (suc k) (omega arith)

pub number-there : (l : List ℤ) (at : ℕ) → sets l at (list_of (number_in l at)) ≡ l
number-there l at = sets_there (list_of (number_in l at)) l at by
  where
    by : (k : ℕ) → k < 4 → get_or l (at + k) (pos 0) ≡ get_or (list_of (number_in l at)) k (pos 0)
    by zero h = ap (λ (w : ℕ). get_or l w (pos 0)) (add-zero at)
    by (suc zero) h = refl
    by (suc (suc zero)) h = refl
    by (suc (suc (suc zero))) h = refl
    by (suc (suc (suc (suc k)))) h = absurd (omega arith)

-- n numbers
pub numbers-there : (l : List ℤ) (at n : ℕ) (f : ℕ → Number) → ((i : ℕ) → i < n → f i ≡ number_in l (at + i * 4)) → with_numerators l at n f ≡ l
unfolding blocks
numbers-there l at zero f e = refl
numbers-there l at (suc n) f e =
    (λ i. sets (numbers-there l at n f (λ k p. e k (omega arith)) i) (at + n * 4) (list_of (e n (omega arith) i))) ∙ number-there l (at + n * 4)

-- n words
pub words-there : (l : List ℤ) (at n : ℕ) (f : ℕ → ℤ) → ((i : ℕ) → i < n → f i ≡ get_or l (at + i) (pos 0)) → fill_words l at n f ≡ l
unfolding blocks
words-there l at zero f e = refl
words-there l at (suc n) f e =
    let place : at + n * 1 ≡ at + n = omega arith in
    (λ i. set (words-there l at n f (λ k p. e k (omega arith)) i) (place i) (e n (omega arith) i)) ∙ set-get_or l (at + n) (pos 0)

-- ---- zero words are zero numbers
pub zero-numbers : (l : List ℤ) (at n : ℕ) → fill_words l at (n * 4) (λ (i : ℕ). pos 0) ≡ with_numerators l at n (λ (k : ℕ). numbers.𝟘)
unfolding joined
zero-numbers l at n =
    blocks-joined 1 (λ (i : ℕ). pos 0 ∷ []) (λ i. refl) l at (n * 4)
    ∙ ap (sets l at) (sym (joined-rows n 4 (λ (i : ℕ). pos 0 ∷ [])))
    ∙ sym (blocks-joined 4 (λ (i : ℕ). list_of numbers.𝟘) (λ i. refl) l at n)
