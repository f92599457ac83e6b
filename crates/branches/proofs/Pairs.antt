-- An operator applied in place: a row written over, the rows whose pair is made, a pair more, and all of them.
use mathlib.Core.Path.{◌≡◌, refl, sym, ap, ◌∙◌, subst}
use mathlib.Core.Bool.{Bool, cond}
use mathlib.Core.Logic.{◌⊎◌, inl, inr, ◌≢◌}
use mathlib.Core.List.{List}
use Prim.Native.Nat.{ℕ, ◌+◌, ◌*◌, ◌-◌, ◌/◌, ◌%◌, ◌≤◌, ◌<◌, min}
use native.Mathlib.Nat.{le_refl, le_of_eq, div-add-mod'}
use native.Mathlib.Decide.{dec_lt, ℕ_discrete}
use native.Mathlib.Omega.{arith}
use lib.Arith.{digits_lt, digits_div, digits_mod}
use lib.Bits.{bit_xor, xor_assoc, xor_self, xor_zero_r}
use lib.Dec.{ltb, eqb}
use lib.ListN.{length}
use lib.IntN.{ℤ}
use borrow.Author.Tests.{lt-ltb, le-ltb, eq-eqb, ne_eqb}
use Rattle.algebra.specs.Words.{blocks, joined}
use Rattle.algebra.proofs.Blocks.{length-blocks, block_in_lem, length-joined, blocks-joined, blocks_more, blocks-same, blocks_over}
use Rattle.algebra.proofs.Squares.{row_lt, column_lt}
use Rattle.exact.specs.Exact.{Number, list_of, narrow_numerator, number_of}
use Rattle.exact.specs.Inner.Sizes.{Within}
use Rattle.gate.specs.declared.rows.Row.{Row}
use Rattle.gate.specs.Inner.Rows.{Form}
use Rattle.share.specs.Share.{number_in, with_numerators}
use Rattle.share.proofs.Numbers.{number-filled, numbers-there}
use Rattle.rows.specs.Inner.Rows.{combined_row, Mixing, mixed}
use Rattle.rows.proofs.Mixed.{blocks_past}
use Rattle.branches.specs.Inner.Step.{Turning, row_numerators}
use Rattle.branches.proofs.Numerators.{row-place, own_narrow, other_narrow, row_made, factor_narrow}

-- ---- k blocks written over those from block a on
blocks_within : (s : ℕ) (l : List ℤ) (at a k t : ℕ) (f g h : ℕ → List ℤ) → ((i : ℕ) → length (f i) ≡ s) → ((i : ℕ) → length (h i) ≡ s) → at + (a + k) * s ≤ length l
    → ((i : ℕ) → i < a → f i ≡ g i) → ((i : ℕ) → i < k → h i ≡ g (a + i)) → ((i : ℕ) → i < t → f (a + k + i) ≡ g (a + k + i))
    → blocks s (blocks s l at (a + k + t) f) (at + a * s) k h ≡ blocks s l at (a + k + t) g
blocks_within s l at a k t f g h sf sh room before here after =
    ap written (sym (blocks_more s l at (a + k) t f))
    ∙ blocks-joined s h sh (later f (blocks s l at (a + k) f)) (at + a * s) k
    ∙ blocks_past s (blocks s l at (a + k) f) (at + (a + k) * s) t (λ (i : ℕ). f (a + k + i)) (λ i. le_of_eq (sf (a + k + i))) (joined k h) (at + a * s) (inl (omega (arith, length-joined s h sh k)))
    ∙ ap (later f)
    (sym (blocks-joined s h sh (blocks s l at (a + k) f) (at + a * s) k)
    ∙ ap written (sym (blocks_more s l at a k f))
    ∙ blocks_over s (blocks s l at a f) (at + a * s) k (λ (i : ℕ). f (a + i)) h (λ i. sf (a + i)) sh (omega (arith, room, length-blocks s l at f a))
    ∙ blocks-same s (blocks s l at a f) (at + a * s) k h (λ (i : ℕ). g (a + i)) here
    ∙ ap (λ (b : List ℤ). blocks s b (at + a * s) k (λ (i : ℕ). g (a + i))) (blocks-same s l at a f g before)
    ∙ blocks_more s l at a k g)
    ∙ blocks-same s (blocks s l at (a + k) g) (at + (a + k) * s) t (λ (i : ℕ). f (a + k + i)) (λ (i : ℕ). g (a + k + i)) after
    ∙ blocks_more s l at (a + k) t g
  where
    written : List ℤ → List ℤ
    written b = blocks s b (at + a * s) k h

    later : (ℕ → List ℤ) → List ℤ → List ℤ
    later f b = blocks s b (at + (a + k) * s) t (λ (i : ℕ). f (a + k + i))

-- ---- the numbers x r c of a matrix of d rows and columns, written from `at` on
abbrev pub square : List ℤ → ℕ → ℕ → (ℕ → ℕ → Number) → List ℤ
square l at d x = with_numerators l at (d * d) (λ (i : ℕ). x (i / d) (i % d))

square_same : (l : List ℤ) (at d : ℕ) (x y : ℕ → ℕ → Number) → ((k c : ℕ) → k < d → c < d → x k c ≡ y k c) → square l at d x ≡ square l at d y
square_same l at d x y h = blocks-same 4 l at (d * d) _ _ (λ i p. ap list_of (h (i / d) (i % d) (row_lt i d p) (column_lt i d p)))

module _ (l : List ℤ) (at d : ℕ) (room : at + d * d * 4 ≤ length l) where
  -- number c of row k is read back
  square_at : (x : ℕ → ℕ → Number) {b : List ℤ} → b ≡ square l at d x → (k c : ℕ) → k < d → c < d → number_in b (at + k * d * 4 + c * 4) ≡ x k c
  square_at x {b} eb k c hk hc =
      ap (number_in b) (row-place at d k c)
      ∙ ap (λ (b : List ℤ). number_in b (at + (k * d + c) * 4)) eb
      ∙ number-filled (λ (i : ℕ). x (i / d) (i % d)) l at (d * d) (k * d + c) (digits_lt hk hc) room
      ∙ (λ i. x (digits_div k hc i) (digits_mod k hc i))

  -- row r is written over
  row_over : (x y : ℕ → ℕ → Number) {b : List ℤ} → b ≡ square l at d x → {r : ℕ} → r < d → {f : ℕ → Number} {q : List ℤ} → q ≡ with_numerators b (at + r * d * 4) d f
      → ((c : ℕ) → c < d → f c ≡ y r c) → ((k c : ℕ) → k < d → c < d → k ≢ r → x k c ≡ y k c) → q ≡ square l at d y
  row_over x y eb {r} hr {f} eq here there =
      eq
      ∙ ap (λ (b : List ℤ). with_numerators b (at + r * d * 4) d f) (eb ∙ ap (λ (n : ℕ). with_numerators l at n (by_place x)) (sym all))
      ∙ blocks_within 4 l at (r * d) d rest (λ (i : ℕ). list_of (by_place x i)) (λ (i : ℕ). list_of (by_place y i)) (λ (c : ℕ). list_of (f c)) (λ i. refl) (λ i. refl) (omega (arith, room, in_rows))
      (λ i h. other i (omega (arith, in_rows)) (λ e. omega (arith, div-add-mod' i d, ap (λ (k : ℕ). k * d) e)))
      (λ c h. ap list_of (here c h ∙ (λ i. y (sym (digits_div r h) i) (sym (digits_mod r h) i))))
      (λ i h. other (r * d + d + i) (omega (arith, all)) (λ e. omega (arith, div-add-mod' (r * d + d + i) d, column_lt (r * d + d + i) d (omega (arith, all)), ap (λ (k : ℕ). k * d) e)))
      ∙ ap (λ (n : ℕ). with_numerators l at n (by_place y)) all
    where
      by_place : (ℕ → ℕ → Number) → ℕ → Number
      by_place x i = x (i / d) (i % d)

      in_rows : r * d + d ≤ d * d
      in_rows = block_in_lem hr d

      rest : ℕ
      rest = d * d - (r * d + d)

      all : r * d + d + rest ≡ d * d
      all = omega (arith, in_rows)

      other : (i : ℕ) → i < d * d → i / d ≢ r → list_of (by_place x i) ≡ list_of (by_place y i)
      other i h e = ap list_of (there (i / d) (i % d) (row_lt i d h) (column_lt i d h) e)

-- ---- rows and their partners
-- number c of row k, once the pairs are made whose first row is below n
abbrev pub paired : List ℤ → ℕ → Form → ℕ → ℕ → ℕ → ℕ → ℕ → Number
paired l m R at d n k c = cond (ltb (min k (bit_xor k m)) n) (row_numerators l m R at d k c) (number_in l (at + k * d * 4 + c * 4))

xor_back : (r m : ℕ) → bit_xor (bit_xor r m) m ≡ r
xor_back r m = xor_assoc r m m ∙ ap (bit_xor r) (xor_self m) ∙ xor_zero_r r

-- the pair whose first row is r
pair_of : (k r m : ℕ) → min k (bit_xor k m) ≡ r → (r ≤ bit_xor r m) × ((k ≡ r) ⊎ (k ≡ bit_xor r m))
pair_of k r m h = go (ℕ_discrete k r)
  where
    go : Dec (k ≡ r) → (r ≤ bit_xor r m) × ((k ≡ r) ⊎ (k ≡ bit_xor r m))
    go (yes e) = (omega (arith, ap (λ (k : ℕ). bit_xor k m) e), inl e)
    go (no e) =
        let f : bit_xor k m ≡ r = omega arith in
        let g : k ≡ bit_xor r m = sym (xor_back k m) ∙ ap (λ (k : ℕ). bit_xor k m) f in
        (omega arith, inr g)

-- a test that one more does not change
ltb_more : (a n : ℕ) → a ≢ n → ltb a n ≡ ltb a (n + 1)
ltb_more a n e = go (dec_lt a n)
  where
    go : Dec (a < n) → ltb a n ≡ ltb a (n + 1)
    go (yes h) = lt-ltb a n h ∙ sym (lt-ltb a (n + 1) (omega arith))
    go (no h) = le-ltb a n (omega arith) ∙ sym (le-ltb a (n + 1) (omega arith))

module _ {l : List ℤ} {m : ℕ} {R : Form} {at d : ℕ} (p : Turning l m R at d) where
  square_room : at + d * d * 4 ≤ length l
  square_room = omega (arith, p.factors.room)

  abbrev after_rows : ℕ → ℕ → ℕ → Number
  after_rows = paired l m R at d

  -- what is said of a pair by its test
  by_test : (n k c : ℕ) {t : Bool} → ltb (min k (bit_xor k m)) n ≡ t → after_rows n k c ≡ cond t (row_numerators l m R at d k c) (number_in l (at + k * d * 4 + c * 4))
  by_test n k c e = ap (λ (t : Bool). cond t (row_numerators l m R at d k c) (number_in l (at + k * d * 4 + c * 4))) e

  pub none_paired : l ≡ square l at d (after_rows 0)
  none_paired = sym (numbers-there l at (d * d) _ (λ i h.
      let place : at + i / d * d * 4 + i % d * 4 ≡ at + i * 4 = omega (arith, div-add-mod' i d) in
      by_test 0 (i / d) (i % d) (le-ltb (min (i / d) (bit_xor (i / d) m)) 0 (omega arith)) ∙ ap (number_in l) place))

  pub all_paired : {b : List ℤ} {n : ℕ} → d ≤ n → b ≡ square l at d (after_rows n) → b ≡ square l at d (row_numerators l m R at d)
  all_paired {n = n} h eb = eb ∙ square_same l at d _ _ (λ k c hk hc. by_test n k c (lt-ltb (min k (bit_xor k m)) n (omega arith)))

  -- row r and its partner
  module _ {r : ℕ} (hr : r < d) {b : List ℤ} (eb : b ≡ square l at d (after_rows r)) where
    abbrev s : ℕ
    s = bit_xor r m

    hs : s < d
    hs = p.below r hr

    length-b : length b ≡ length l
    length-b = ap length eb ∙ length-blocks 4 l at (λ (i : ℕ). list_of (after_rows r (i / d) (i % d))) (d * d)

    -- a row whose pair's first row is not below r is as it was
    as_was : (k c : ℕ) → k < d → c < d → r ≤ k → r ≤ bit_xor k m → number_in b (at + k * d * 4 + c * 4) ≡ number_in l (at + k * d * 4 + c * 4)
    as_was k c hk hc h g = square_at l at d square_room (after_rows r) eb k c hk hc ∙ by_test r k c (le-ltb (min k (bit_xor k m)) r (omega arith))

    own_was : r ≤ s → (c : ℕ) → c < d → number_in b (at + r * d * 4 + c * 4) ≡ number_in l (at + r * d * 4 + c * 4)
    own_was h c hc = as_was r c hr hc (le_refl r) h

    partner_was : r ≤ s → (c : ℕ) → c < d → number_in b (at + s * d * 4 + c * 4) ≡ number_in l (at + s * d * 4 + c * 4)
    partner_was h c hc = as_was s c hs hc h (omega (arith, xor_back r m))

    narrow_row : (k : ℕ) → k < d → ((c : ℕ) → c < d → number_in b (at + k * d * 4 + c * 4) ≡ number_in l (at + k * d * 4 + c * 4)) → (c : ℕ) → c < d → Within narrow_numerator (number_in b (at + k * d * 4 + c * 4))
    narrow_row k hk e c hc = subst (Within narrow_numerator) (sym (e c hc ∙ ap (number_in l) (row-place at d k c))) (factor_narrow p.factors (k * d + c) (digits_lt hk hc))

    pub mixing : {x y : Row} → r < s → x ≡ R.row r → y ≡ R.row s → Mixing b (number_of x.own) (number_of x.other) (at + r * d * 4) (number_of y.own) (number_of y.other) (at + s * d * 4) d
    mixing h ex ey = record {
      own = own_narrow p.sized hr ex;
      other = other_narrow p.sized hr ex;
      own_of_second = own_narrow p.sized hs ey;
      other_of_second = other_narrow p.sized hs ey;
      room = omega (arith, square_room, length-b, block_in_lem hr d);
      room_of_second = omega (arith, square_room, length-b, block_in_lem hs d);
      factor = narrow_row r hr (own_was (omega arith));
      factor_of_second = narrow_row s hs (partner_was (omega arith));
      apart = inl (omega (arith, block_in_lem h d));
    }

    pub folding : {x : Row} → r ≡ s → x ≡ R.row r
        → Within narrow_numerator (number_of x.own) × (Within narrow_numerator (number_of x.other) × ((at + r * d * 4 + d * 4 ≤ length b) × ((c : ℕ) → c < d → Within narrow_numerator (number_in b (at + r * d * 4 + c * 4)))))
    folding e ex = (own_narrow p.sized hr ex, (other_narrow p.sized hr ex, (omega (arith, square_room, length-b, block_in_lem hr d), narrow_row r hr (own_was (omega arith)))))

    -- once the pair is made
    now_made : (k c : ℕ) → min k (bit_xor k m) ≤ r → row_numerators l m R at d k c ≡ after_rows (r + 1) k c
    now_made k c h = sym (by_test (r + 1) k c (lt-ltb (min k (bit_xor k m)) (r + 1) (omega arith)))

    own_made : {x : Row} → x ≡ R.row r → r ≤ s → (c : ℕ) → c < d → combined_row b (number_of x.own) (at + r * d * 4) (number_of x.other) (at + s * d * 4) c ≡ after_rows (r + 1) r c
    own_made ex h c hc = row_made l b m R at d r c ex (own_was h c hc) (partner_was h c hc) ∙ now_made r c (omega arith)

    -- other rows are as they were
    others : (k c : ℕ) → k ≢ r → k ≢ s → after_rows r k c ≡ after_rows (r + 1) k c
    others k c h g = by_test r k c (ltb_more (min k (bit_xor k m)) r (λ e. go (pair_of k r m e).1))
      where
        go : (k ≡ r) ⊎ (k ≡ s) → ⊥
        go (inl e) = h e
        go (inr e) = g e

    -- rows r and s are written
    pub mixed_more : {x y : Row} {q : List ℤ} → r < s → x ≡ R.row r → y ≡ R.row s
        → q ≡ mixed b (number_of x.own) (number_of x.other) (at + r * d * 4) (number_of y.own) (number_of y.other) (at + s * d * 4) d → q ≡ square l at d (after_rows (r + 1))
    mixed_more {x} {y} h ex ey eq =
        row_over l at d square_room half (after_rows (r + 1)) (row_over l at d square_room (after_rows r) half eb hr refl own there) hs eq partner (λ k c hk hc e. chosen k c (ne_eqb k s e))
      where
        half : ℕ → ℕ → Number
        half k c = cond (eqb k s) (after_rows r k c) (after_rows (r + 1) k c)

        chosen : (k c : ℕ) {t : Bool} → eqb k s ≡ t → half k c ≡ cond t (after_rows r k c) (after_rows (r + 1) k c)
        chosen k c e = ap (λ (t : Bool). cond t (after_rows r k c) (after_rows (r + 1) k c)) e

        own : (c : ℕ) → c < d → combined_row b (number_of x.own) (at + r * d * 4) (number_of x.other) (at + s * d * 4) c ≡ half r c
        own c hc = own_made ex (omega arith) c hc ∙ sym (chosen r c (ne_eqb r s (λ e. omega arith)))

        there : (k c : ℕ) → k < d → c < d → k ≢ r → after_rows r k c ≡ half k c
        there k c hk hc e = go (ℕ_discrete k s)
          where
            go : Dec (k ≡ s) → after_rows r k c ≡ half k c
            go (yes f) = sym (chosen k c (eq-eqb k s f))
            go (no f) = others k c e f ∙ sym (chosen k c (ne_eqb k s f))

        partner : (c : ℕ) → c < d → combined_row b (number_of y.own) (at + s * d * 4) (number_of y.other) (at + r * d * 4) c ≡ after_rows (r + 1) s c
        partner c hc =
            ap (λ (k : ℕ). combined_row b (number_of y.own) (at + s * d * 4) (number_of y.other) (at + k * d * 4) c) (sym (xor_back r m))
            ∙ row_made l b m R at d s c ey (partner_was (omega arith) c hc) (as_was (bit_xor s m) c (p.below s hs) hc (omega (arith, xor_back r m)) (omega (arith, xor_back s m)))
            ∙ now_made s c (omega (arith, xor_back r m))

    -- row r, which is its own partner, is written
    pub folded_more : {x : Row} {q : List ℤ} → r ≡ s → x ≡ R.row r
        → q ≡ with_numerators b (at + r * d * 4) d (combined_row b (number_of x.own) (at + r * d * 4) (number_of x.other) (at + r * d * 4)) → q ≡ square l at d (after_rows (r + 1))
    folded_more {x} e ex eq =
        row_over l at d square_room (after_rows r) (after_rows (r + 1)) eb hr eq
        (λ c hc. ap (λ (k : ℕ). combined_row b (number_of x.own) (at + r * d * 4) (number_of x.other) (at + k * d * 4) c) e ∙ own_made ex (omega arith) c hc)
        (λ k c hk hc h. others k c h (λ f. h (f ∙ sym e)))

    -- a pair whose first row is the partner is made already
    pub kept_more : s < r → b ≡ square l at d (after_rows (r + 1))
    kept_more h = eb ∙ square_same l at d _ _ (λ k c hk hc. by_test r k c (ltb_more (min k (bit_xor k m)) r (λ e. let g = (pair_of k r m e).0 in absurd (omega arith))))
