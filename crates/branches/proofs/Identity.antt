-- The identity in words: ones, d + 1 numbers apart, among zeros.
use mathlib.Core.Path.{◌≡◌, refl, sym, ap, ◌∙◌}
use mathlib.Core.Bool.{Bool, true, false, cond, true≢false}
use mathlib.Core.Logic.{inl, inr}
use mathlib.Core.List.{List, [], ◌∷◌}
use Prim.Native.Nat.{ℕ, zero, suc, ◌+◌, ◌*◌, ◌-◌, ◌/◌, ◌%◌, max, ◌<◌, ◌≤◌}
use native.Mathlib.Nat.{not-suc-le-zero, div-add-mod', le_refl}
use native.Mathlib.Decide.{dec_lt}
use native.Mathlib.Omega.{arith}
use lib.Arith.{digits_div, digits_mod}
use lib.Dec.{eqb}
use lib.ListN.{length, get_or, set, get_or-append}
use lib.Seq.{sets, length-sets, ext_get_or, get_or-append-add, get_or-set_same, get_or-set_other}
use lib.IntN.{ℤ, pos}
use borrow.Author.Tests.{eq-eqb, eqb-true}
use Rattle.algebra.specs.Sum.{δ}
use Rattle.algebra.specs.Words.{blocks, fill_words, joined}
use Rattle.algebra.proofs.Blocks.{Writing, wrote, kept, long, length-blocks, blocks_at, joined_at, length-joined, block_in_lem, sets_below, sets_above, sets_at}
use Rattle.algebra.proofs.Squares.{row_lt}
use Rattle.exact.specs.Exact.{Exact, exact, list_of}
use Rattle.channel.specs.Shared.{shared_exponent, shared, scaled}
use Rattle.rows.specs.Inner.Rows.{held_words}
use Rattle.rows.proofs.Held.{length_shared}
use Rattle.branches.specs.Inner.Bank.{matrix_size}

-- ---- one word written at n places, s apart
abbrev pub ones : ℕ → List ℤ → ℕ → ℕ → List ℤ
ones s l at n = blocks s l at n (λ (i : ℕ). pos 1 ∷ [])

module _ (s : ℕ) (l : List ℤ) (at : ℕ) where
  spared : (n w : ℕ) → ((i : ℕ) → i < n → w ≡ at + i * s → ⊥) → get_or (ones s l at n) w (pos 0) ≡ get_or l w (pos 0)
  unfolding blocks
  spared zero w h = refl
  spared (suc n) w h = get_or-set_other (ones s l at n) (at + n * s) w (pos 1) (pos 0) (h n (omega arith)) ∙ spared n w (λ i p. h i (omega arith))

  struck : (n i : ℕ) → 0 < s → i < n → at + i * s < length l → get_or (ones s l at n) (at + i * s) (pos 0) ≡ pos 1
  unfolding blocks
  struck zero i p h r = absurd (not-suc-le-zero h)
  struck (suc n) i p h r = go (dec_lt i n) (λ q. struck n i p q r)
    where
      go : Dec (i < n) → (i < n → get_or (ones s l at n) (at + i * s) (pos 0) ≡ pos 1) → get_or (set (ones s l at n) (at + n * s) (pos 1)) (at + i * s) (pos 0) ≡ pos 1
      go (yes q) f = let b = block_in_lem q s in get_or-set_other (ones s l at n) (at + n * s) (at + i * s) (pos 1) (pos 0) (λ e. omega arith) ∙ f q
      go (no q) f =
          let e : n ≡ i = omega arith in
          ap (λ (m : ℕ). get_or (set (ones s l at n) (at + m * s) (pos 1)) (at + i * s) (pos 0)) e
          ∙ get_or-set_same (ones s l at n) (at + i * s) (pos 1) (pos 0) (omega (arith, length-blocks s l at (λ (i : ℕ). pos 1 ∷ []) n))

-- ---- the words of the identity
module _ (d : ℕ) where
  abbrev unit : ℕ → Exact
  unit i = δ exact (i / d) (i % d)

  whole : (n : ℕ) → shared_exponent n unit ≡ 0
  whole zero = refl
  whole (suc n) = λ i. max (whole n i) (flat (eqb (n / d) (n % d)) i)
    where
      flat : (b : Bool) → (cond b exact.𝟙 exact.𝟘).exp ≡ 0
      flat true = refl
      flat false = refl

  abbrev first : List ℤ
  first = joined (d * d) (λ (k : ℕ). list_of ((shared (d * d) unit).num k))

  digits : (b : Bool) → list_of (scaled 0 (cond b exact.𝟙 exact.𝟘)) ≡ cond b (pos 1) (pos 0) ∷ pos 0 ∷ pos 0 ∷ pos 0 ∷ []
  digits true = refl
  digits false = refl

  -- coordinate c of number q
  abbrev coordinate : ℕ → ℕ → ℤ
  coordinate q c = get_or (cond (eqb (q / d) (q % d)) (pos 1) (pos 0) ∷ pos 0 ∷ pos 0 ∷ pos 0 ∷ []) c (pos 0)

  word-at : (q c : ℕ) → q < d * d → c < 4 → get_or (held_words (d * d) unit) (q * 4 + c) (pos 0) ≡ coordinate q c
  word-at q c h k =
      let b = block_in_lem h 4 in
      get_or-append first (pos (shared_exponent (d * d) unit) ∷ []) (pos 0) (q * 4 + c) (omega (arith, length-joined 4 (λ (k : ℕ). list_of ((shared (d * d) unit).num k)) (λ i. refl) (d * d)))
      ∙ joined_at 4 (λ (k : ℕ). list_of ((shared (d * d) unit).num k)) (λ i. refl) (d * d) q c h k
      ∙ ap (λ (e : ℕ). get_or (list_of (scaled e (unit q))) c (pos 0)) (whole (d * d))
      ∙ ap (λ (ws : List ℤ). get_or ws c (pos 0)) (digits (eqb (q / d) (q % d)))

  last-word : get_or (held_words (d * d) unit) (d * d * 4) (pos 0) ≡ pos 0
  last-word =
      ap (λ (k : ℕ). get_or (held_words (d * d) unit) k (pos 0)) place ∙ get_or-append-add first (pos (shared_exponent (d * d) unit) ∷ []) 0 (pos 0) ∙ ap pos (whole (d * d))
    where
      place : d * d * 4 ≡ length first + 0
      place = omega (arith, length-joined 4 (λ (k : ℕ). list_of ((shared (d * d) unit).num k)) (λ i. refl) (d * d))

  -- ---- ones written among zeros
  module _ (l : List ℤ) (at : ℕ) {z b : List ℤ} (room : at + matrix_size d ≤ length l) (cleared : z ≡ fill_words l at (matrix_size d) (λ (i : ℕ). pos 0)) (marked : b ≡ ones ((d + 1) * 4) z at d) where
    abbrev s : ℕ
    s = (d + 1) * 4

    zeros : Writing 1 l at (matrix_size d) (λ (i : ℕ). pos 0 ∷ []) z (matrix_size d)
    zeros = wrote (λ i. le_refl 1) cleared

    zero-at : (u : ℕ) → u < matrix_size d → get_or z (at + u) (pos 0) ≡ pos 0
    zero-at u h =
        ap (λ (c : List ℤ). get_or c (at + u) (pos 0)) cleared
        ∙ ap (λ (k : ℕ). get_or (fill_words l at (matrix_size d) (λ (i : ℕ). pos 0)) k (pos 0)) place
        ∙ blocks_at 1 l at (λ (i : ℕ). pos 0 ∷ []) (λ i. le_refl 1) (matrix_size d) u 0 h (le_refl 1) (omega arith)
      where
        place : at + u ≡ at + u * 1 + 0
        place = omega arith

    -- where no one is written
    empty : (u : ℕ) → u < matrix_size d → ((i : ℕ) → i < d → u ≡ i * s → ⊥) → get_or (ones s z at d) (at + u) (pos 0) ≡ pos 0
    empty u h f = spared s z at d (at + u) (λ i p e. f i p (omega arith)) ∙ zero-at u h

    number-at : (q c : ℕ) → q < d * d → c < 4 → get_or (ones s z at d) (at + (q * 4 + c)) (pos 0) ≡ coordinate q c
    number-at q c h k = go (eqb (q / d) (q % d)) refl c k
      where
        size : q * 4 + 4 ≤ d * d * 4
        size = block_in_lem h 4

        rest : (c : ℕ) → pos 0 ≡ get_or (pos 0 ∷ pos 0 ∷ pos 0 ∷ []) c (pos 0)
        rest zero = refl
        rest (suc zero) = refl
        rest (suc (suc zero)) = refl
        rest (suc (suc (suc c))) = refl

        go : (e : Bool) → eqb (q / d) (q % d) ≡ e → (c : ℕ) → c < 4 → get_or (ones s z at d) (at + (q * 4 + c)) (pos 0) ≡ get_or (cond e (pos 1) (pos 0) ∷ pos 0 ∷ pos 0 ∷ pos 0 ∷ []) c (pos 0)
        go e g (suc c) k = empty (q * 4 + suc c) (omega arith) (λ i p f. omega arith) ∙ rest c
        go true g zero k =
            let f = eqb-true (q / d) (q % d) g in
            let place : at + (q * 4 + 0) ≡ at + q / d * s = omega (arith, div-add-mod' q d) in
            ap (λ (w : ℕ). get_or (ones s z at d) w (pos 0)) place ∙ struck s z at d (q / d) (omega arith) (row_lt q d h) (omega (arith, long zeros))
        go false g zero k = empty (q * 4 + 0) (omega arith) (λ i p f. let e : q ≡ i * d + i = omega arith in true≢false (sym (eq-eqb (q / d) (q % d) ((λ j. e j / d) ∙ digits_div i p ∙ sym ((λ j. e j % d) ∙ digits_mod i p))) ∙ g))

    -- a one lies among the numbers
    one-in : (i : ℕ) → i < d → i * s < d * d * 4
    one-in i p = omega (arith, block_in_lem p d)

    inside : (u : ℕ) → u < matrix_size d → get_or (ones s z at d) (at + u) (pos 0) ≡ get_or (held_words (d * d) unit) u (pos 0)
    inside u h = go (dec_lt u (d * d * 4))
      where
        go : Dec (u < d * d * 4) → get_or (ones s z at d) (at + u) (pos 0) ≡ get_or (held_words (d * d) unit) u (pos 0)
        go (yes p) =
            let e = div-add-mod' u 4 in
            let q : u / 4 < d * d = omega arith in
            let r : u % 4 < 4 = omega arith in
            ap (λ (u : ℕ). get_or (ones s z at d) (at + u) (pos 0)) (sym e) ∙ number-at (u / 4) (u % 4) q r ∙ sym (word-at (u / 4) (u % 4) q r) ∙ ap (λ (u : ℕ). get_or (held_words (d * d) unit) u (pos 0)) e
        go (no p) =
            let e : u ≡ d * d * 4 = omega arith in
            empty u h (λ i p f. omega (arith, one-in i p)) ∙ sym (ap (λ (u : ℕ). get_or (held_words (d * d) unit) u (pos 0)) e ∙ last-word)

    pub identity_written : b ≡ sets l at (held_words (d * d) (λ (i : ℕ). δ exact (i / d) (i % d)))
    identity_written =
        marked
        ∙ ext_get_or (pos 0) (ones s z at d) (sets l at words) (length-blocks s z at (λ (i : ℕ). pos 1 ∷ []) d ∙ long zeros ∙ sym (length-sets l at words)) (λ w h. go (dec_lt w at) (dec_lt w (at + matrix_size d)))
      where
        words : List ℤ
        words = held_words (d * d) unit

        size : length words ≡ matrix_size d
        size = length_shared (d * d) unit

        go : {w : ℕ} → Dec (w < at) → Dec (w < at + matrix_size d) → get_or (ones s z at d) w (pos 0) ≡ get_or (sets l at words) w (pos 0)
        go {w} (yes p) q = spared s z at d w (λ i h e. omega arith) ∙ (kept zeros w 1 (inl (omega arith))).word w (omega arith) (omega arith) ∙ sym (sets_below words l at w (pos 0) p)
        go {w} (no p) (no q) =
            spared s z at d w (λ i h e. omega (arith, one-in i h)) ∙ (kept zeros w 1 (inr (omega arith))).word w (omega arith) (omega arith) ∙ sym (sets_above words l at w (pos 0) (omega (arith, size)))
        go {w} (no p) (yes q) =
            let e : w ≡ at + (w - at) = omega arith in
            ap (λ (w : ℕ). get_or (ones s z at d) w (pos 0)) e ∙ inside (w - at) (omega arith) ∙ sym (ap (λ (w : ℕ). get_or (sets l at words) w (pos 0)) e ∙ sets_at words l at (w - at) (pos 0) (omega (arith, size)) (omega (arith, size)))
