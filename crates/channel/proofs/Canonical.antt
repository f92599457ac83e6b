-- Well-formed words are those that are written from their blocks; so what is packed is well formed and is restored.
use mathlib.Core.Path.{◌≡◌, refl, sym, ap, ap₂, ◌∙◌, subst}
use mathlib.Core.Bool.{Bool, true, false, cond, not, ◌&&◌, ◌||◌, true≢false}
use mathlib.Core.List.{List, [], ◌∷◌, ◌++◌, append_assoc, append-nil}
use Prim.Native.Nat.{ℕ, zero, suc, ◌+◌, ◌*◌, ◌-◌, ◌/◌, ◌%◌, ◌^◌, ◌<◌, ◌≤◌}
use native.Mathlib.Nat.{add-zero, add-suc, suc-mul, zero-mul, zero-add, add_assoc, add_comm, le-div_iff_mul-le}
use native.Mathlib.Decide.{dec_lt}
use native.Mathlib.Omega.{arith}
use lib.Arith.{digits_div, digits_mod}
use lib.Dec.{leb, ltb}
use lib.ListN.{length, get_or, take, drop, length-take, take-append-drop}
use lib.Seq.{ext_get_or, get_or-take}
use lib.IntN.{ℤ, pos, negsuc, nat_abs, neg_ℤ}
use borrow.Author.Tests.{leb-true, le-leb, lt-leb, ltb-true}
use Rattle.algebra.specs.Quadratic.{conjugate}
use Rattle.algebra.specs.Dyadic.{frac, halfℤ}
use Rattle.algebra.specs.Lists.{all_below}
use Rattle.algebra.specs.Words.{joined, up_to, eqℤ}
use Rattle.algebra.proofs.Tests.{and_split, all-at}
use Rattle.algebra.proofs.Blocks.{length-joined, joined_at, joined_same}
use Rattle.algebra.proofs.Signed.{eqℤ-true}
use Rattle.algebra.proofs.Quadratic.{ℤ√2, conj-conj as number-conj-conj}
use Rattle.exact.specs.Exact.{Number, number, number_halves, lowest, root2, max_exponent}
use Rattle.exact.proofs.Exact.{lowest-form, conj-lowest}
use Rattle.store.specs.Store.{max_word, store_from, before}
use Rattle.channel.specs.Shared.{entry, shared, shared_ok, shared_fits, is_shared}
use Rattle.channel.specs.Layout.{word, store_at, least, dim_at, bits_at, count_at, Form, form, entry_size, entry_words, entry_from, entries, from, row_start}
use Rattle.channel.specs.Layout.{block_size, row_words, block_words, kept, block_from, record_size, record_at, record_words, first, next, header, words, numbers_at, shared_at}
use Rattle.channel.specs.WellFormed.{is_dim, store_ok, is_real, header_ok, diagonal_ok, block_ok, chain_ok, well_formed_in}
use Rattle.channel.specs.Recast.{relink, recast}
use Rattle.channel.specs.Claims.{Plain, Suits, Writable}
use Rattle.channel.specs.Forms.{Alike, block_of, used, Canonical, RecastBack, FullSuits, Relinks}
use Rattle.store.proofs.Words.{up-abs}
use Rattle.channel.proofs.Words.{dim_range}
use Rattle.channel.proofs.Shared.{shared_is}
use Rattle.channel.proofs.Restore.{row_zero, row_next, by_place, block_same}
use Rattle.channel.proofs.Trail.{has, Trailed, trailed, at_each, different, covers, linked}
use Rattle.channel.proofs.RoundTrip.{alike_ok, round_trip}
use Rattle.channel.proofs.Recast.{relink_is, recast-written}

-- ---- n words v a, v (a + 1), ..
abbrev span : (ℕ → ℤ) → ℕ → ℕ → List ℤ
span v a n = joined n (λ (i : ℕ). v (a + i) ∷ [])

span_more : (v : ℕ → ℤ) (a m n : ℕ) → span v a (m + n) ≡ span v a m ++ span v (a + m) n
unfolding joined
span_more v a m zero = ap (span v a) (add-zero m) ∙ sym (append-nil (span v a m))
span_more v a m (suc n) =
    ap (span v a) (add-suc m n) ∙ (λ i. span_more v a m n i ++ (v (sym (add_assoc a m n) i) ∷ [])) ∙ append_assoc (span v a m) (span v (a + m) n) (v (a + m + n) ∷ [])

span-rows : (v : ℕ → ℤ) (a s n : ℕ) → joined n (λ (r : ℕ). span v (a + r * s) s) ≡ span v a (n * s)
unfolding joined
span-rows v a s zero = ap (span v a) (sym (zero-mul s))
span-rows v a s (suc n) = ap (λ (l : List ℤ). l ++ span v (a + n * s) s) (span-rows v a s n) ∙ sym (span_more v a (n * s) s) ∙ ap (span v a) (sym (suc-mul n s))

span-word : (l : List ℤ) (n : ℕ) → n ≤ length l → take n l ≡ span (word l) 0 n
span-word l n h = ext_get_or (pos 0) (take n l) (span (word l) 0 n) (size ∙ sym long) (λ i p. by i (subst (λ (k : ℕ). i < k) size p))
  where
    size : length (take n l) ≡ n
    size = simp length-take (omega arith)

    long : length (span (word l) 0 n) ≡ n
    long = length-joined 1 (λ (i : ℕ). word l (0 + i) ∷ []) (λ i. refl) n ∙ one
      where
        one : n * 1 ≡ n
        one = omega arith

    by : (i : ℕ) → i < n → get_or (take n l) i (pos 0) ≡ get_or (span (word l) 0 n) i (pos 0)
    by i p = rw get_or-take (sym (ap (λ (k : ℕ). get_or (span (word l) 0 n) k (pos 0)) place ∙ joined_at 1 (λ (i : ℕ). word l (0 + i) ∷ []) (λ i. refl) n i 0 p (omega arith) ∙ ap (word l) (zero-add i)))
      where
        place : i ≡ i * 1 + 0
        place = omega arith

-- ---- the words of a block that is read are the words
entry-words : (b : Bool) (v : ℕ → ℤ) (a : ℕ) → entry_words b (entry_from b (λ (i : ℕ). v (a + i))) ≡ span v a (entry_size b)
unfolding joined
entry-words true v a = refl
entry-words false v a = refl

module _ (F : Form) (v : ℕ → ℤ) where
  abbrev w : ℕ
  w = F.side

  abbrev s : ℕ
  s = entry_size F.plain

  choose : (r c : ℕ) → c < w → block_from F v (r * w + c) ≡ cond (leb (from F r) c) (kept F v r c) (conjugate root2 (kept F v c r))
  choose r c q = by_place F v (r * w + c) ∙ λ i. cond (leb (from F (digits_div r q i)) (digits_mod r q i)) (kept F v (digits_div r q i) (digits_mod r q i)) (conjugate root2 (kept F v (digits_mod r q i) (digits_div r q i)))

  read-entry : (r j : ℕ) → r < w → j < w - from F r → block_from F v (r * w + (from F r + j)) ≡ kept F v r (from F r + j)
  read-entry r j h p =
      choose r (from F r + j) (omega arith)
      ∙ ap (λ (b : Bool). cond b (kept F v r (from F r + j)) (conjugate root2 (kept F v (from F r + j) r))) (le-leb (from F r) (from F r + j) (omega arith))

  read-row : (r : ℕ) → r < w → row_words F (block_from F v) r ≡ span v (row_start F r * s) ((w - from F r) * s)
  read-row r h =
      joined_same (w - from F r) _ (λ (j : ℕ). span v (row_start F r * s + j * s) s)
      (λ j p. ap (entry_words F.plain) (read-entry r j h p) ∙ entry-words F.plain v _ ∙ ap (λ (a : ℕ). span v a s) (place (row_start F r) (from F r) j s))
      ∙ span-rows v (row_start F r * s) s (w - from F r)
    where
      place : (a b j t : ℕ) → (a + (b + j - b)) * t ≡ a * t + j * t
      place a b j t = let e : b + j - b ≡ j = omega arith in ap (λ (k : ℕ). (a + k) * t) e ∙ omega arith

  read-rows : (n : ℕ) → n ≤ w → joined n (row_words F (block_from F v)) ≡ span v 0 (row_start F n * s)
  unfolding joined
  read-rows zero h = ap (span v 0) (sym (ap (λ (k : ℕ). k * s) (row_zero F) ∙ zero-mul s))
  read-rows (suc n) h =
      ap₂ ◌++◌ (read-rows n (omega arith)) (read-row n h ∙ ap (λ (a : ℕ). span v a ((w - from F n) * s)) (sym (zero-add (row_start F n * s))))
      ∙ sym (span_more v 0 (row_start F n * s) ((w - from F n) * s))
      ∙ ap (span v 0) (by (row_start F n) (w - from F n) s ∙ ap (λ (k : ℕ). k * s) (sym (row_next F n)))
    where
      by : (a b c : ℕ) → a * c + b * c ≡ (a + b) * c
      by a b c = omega arith

  pub read-block : block_words F (block_from F v) ≡ span v 0 (block_size F)
  read-block = read-rows w (omega arith)

-- ---- a block that is read can be restored
pub half-zero : (z : Number) (e : ℕ) → (z.re.im ≡ pos 0) × (z.im.im ≡ pos 0) → ((lowest z e).num.re.im ≡ pos 0) × ((lowest z e).num.im.im ≡ pos 0)
half-zero z zero h = h
half-zero z (suc e) h = go (number_halves.even z) (half-zero (number_halves.half z) e (ap halfℤ h.0, ap halfℤ h.1))
  where
    go : (b : Bool) → ((lowest (number_halves.half z) e).num.re.im ≡ pos 0) × ((lowest (number_halves.half z) e).num.im.im ≡ pos 0)
        → ((cond b (lowest (number_halves.half z) e) (frac z (suc e))).num.re.im ≡ pos 0) × ((cond b (lowest (number_halves.half z) e) (frac z (suc e))).num.im.im ≡ pos 0)
    go true r = r
    go false r = h

real_conj : (z : Number) → is_real z ≡ true → z ≡ conjugate root2 z
real_conj z e =
    let h = and_split (eqℤ z.im.re (pos 0)) _ e in
    let a = eqℤ-true z.im.re (pos 0) h.0 in
    let b = eqℤ-true z.im.im (pos 0) h.1 in
    λ i. number z.re.re z.re.im ((a ∙ sym (ap neg_ℤ a)) i) ((b ∙ sym (ap neg_ℤ b)) i)

module _ (F : Form) (v : ℕ → ℤ) where
  abbrev z : ℕ → Number
  z = block_from F v

  pub read_plain : (k : ℕ) → Plain F.plain (z k)
  read_plain k = subst (Plain F.plain) (sym (by_place F v k)) (go (leb (from F (k / F.side)) (k % F.side)))
    where
      part : (b : Bool) (u : ℕ → ℤ) → Plain b (entry_from b u)
      part true u q = (refl, refl)
      part false u q = absurd (true≢false (sym q))

      go : (b : Bool) → Plain F.plain (cond b (kept F v (k / F.side) (k % F.side)) (conjugate root2 (kept F v (k % F.side) (k / F.side))))
      go true q = part F.plain _ q
      go false q = let h = part F.plain (λ (i : ℕ). v ((row_start F (k % F.side) + (k / F.side - from F (k % F.side))) * entry_size F.plain + i)) q in (h.0, ap neg_ℤ h.1)

  -- where half is kept
  module _ (half : F.half ≡ true) where
    pub upper : (r c : ℕ) → c < F.side → r ≤ c → z (r * F.side + c) ≡ kept F v r c
    upper r c q p = choose F v r c q ∙ ap (λ (b : Bool). cond b (kept F v r c) (conjugate root2 (kept F v c r))) (ap (λ (b : Bool). leb (cond b r 0) c) half ∙ le-leb r c p)

    pub lower : (r c : ℕ) → c < F.side → c < r → z (r * F.side + c) ≡ conjugate root2 (kept F v c r)
    lower r c q p = choose F v r c q ∙ ap (λ (b : Bool). cond b (kept F v r c) (conjugate root2 (kept F v c r))) (ap (λ (b : Bool). leb (cond b r 0) c) half ∙ lt-leb r c p)

module _ (F : Form) (v : ℕ → ℤ) (e : ℕ) (diagonal : diagonal_ok F (block_from F v) ≡ true) where
  abbrev y : ℕ → Number
  y = block_from F v

  module _ (half : F.half ≡ true) where
    real : (r : ℕ) → r < F.side → is_real (y (r * F.side + r)) ≡ true
    real = all-at F.side (λ (r : ℕ). is_real (y (r * F.side + r))) (sym (ap (λ (b : Bool). not b || all_below F.side (λ (r : ℕ). is_real (y (r * F.side + r)))) half) ∙ diagonal)

    pub mirrored : (r c : ℕ) → r < F.side → c < F.side → y (r * F.side + c) ≡ conjugate root2 (y (c * F.side + r))
    mirrored r c p q = go (dec_lt r c) (dec_lt c r)
      where
        go : Dec (r < c) → Dec (c < r) → y (r * F.side + c) ≡ conjugate root2 (y (c * F.side + r))
        go (yes h) d = upper F v half r c q (omega arith) ∙ sym (number-conj-conj ℤ√2 (ℤ√2.ops.int (negsuc 0)) (kept F v r c)) ∙ sym (ap (conjugate root2) (lower F v half c r p h))
        go (no h) (yes g) = lower F v half r c q g ∙ sym (ap (conjugate root2) (upper F v half c r p (omega arith)))
        go (no h) (no g) = let t : r ≡ c = omega arith in
            subst (λ (k : ℕ). y (r * F.side + k) ≡ conjugate root2 (y (k * F.side + r))) t (real_conj (y (r * F.side + r)) (real r p))

  pub read_suits : Suits F (λ (k : ℕ). lowest (y k) e)
  read_suits = record {
    mirror = λ h r c p q. ap (λ (x : Number). lowest x e) (mirrored h r c p q) ∙ sym (conj-lowest (y (c * F.side + r)) e);
    rational = λ k l q. half-zero (y k) e (read_plain F v k q);
  }

-- ---- the words of a header and of a store
pub natural : (k : ℕ) (z : ℤ) → up_to k z ≡ true → pos (nat_abs z) ≡ z
natural k (pos a) e = refl
natural k (negsuc a) e = absurd (true≢false (sym e))

store_low : (low high : ℤ) → up_to max_word low ≡ true → pos (store_from low high % 2 ^ 32) ≡ low
store_low low high e =
    ap pos (ap (λ (k : ℕ). k % 2 ^ 32) (add_comm (nat_abs low) (nat_abs high * 2 ^ 32)) ∙ digits_mod (nat_abs high) (by (nat_abs low) (up-abs max_word low e))) ∙ natural max_word low e
  where
    by : (a : ℕ) → a ≤ max_word → a < 2 ^ 32
    by a h = omega arith

store_high : (low high : ℤ) → up_to max_word low ≡ true → up_to max_word high ≡ true → pos (store_from low high / 2 ^ 32) ≡ high
store_high low high e f =
    ap pos (ap (λ (k : ℕ). k / 2 ^ 32) (add_comm (nat_abs low) (nat_abs high * 2 ^ 32)) ∙ digits_div (nat_abs high) (by (nat_abs low) (up-abs max_word low e))) ∙ natural max_word high f
  where
    by : (a : ℕ) → a ≤ max_word → a < 2 ^ 32
    by a h = omega arith

module _ (F : Form) (l : List ℤ) (ok : well_formed_in F l ≡ true) where
  abbrev n : ℕ
  n = count_at l

  abbrev m : ℕ
  m = bits_at l

  parts : (header_ok F l ≡ true) × (chain_ok F l m n n (word l 3) true 0 ≡ true)
  unfolding well_formed_in
  parts = and_split (header_ok F l) _ ok

  sizes : (leb 4 (length l) ≡ true) × (((is_dim (word l 0) && up_to 64 (word l 1)) && up_to ((length l - 4) / record_size F) (word l 2)) ≡ true)
  sizes = and_split (leb 4 (length l)) _ parts.0

  counted : ((is_dim (word l 0) && up_to 64 (word l 1)) ≡ true) × (up_to ((length l - 4) / record_size F) (word l 2) ≡ true)
  counted = and_split (is_dim (word l 0) && up_to 64 (word l 1)) _ sizes.1

  dims : (is_dim (word l 0) ≡ true) × (up_to 64 (word l 1) ≡ true)
  dims = and_split (is_dim (word l 0)) _ counted.0

  dim_word : pos (dim_at l) ≡ word l 0
  dim_word = natural 16 (word l 0) (dim_range (word l 0) dims.0).0

  room : 4 + n * record_size F ≤ length l
  room = fit (record_size F) n (length l) (omega arith) (leb-true 4 (length l) sizes.0) (up-abs _ (word l 2) counted.1)
    where
      fit : (s n k : ℕ) → 1 ≤ s → 4 ≤ k → n ≤ (k - 4) / s → 4 + n * s ≤ k
      fit s n k p h q = let r = (le-div_iff_mul-le p).0 q in omega arith

  -- the chain
  trail : Trailed F l m n n (word l 3) true 0
  trail = trailed F l m n n (word l 3) true 0 parts.1

  inside : (j : ℕ) → j < n → has trail.places j ≡ true
  inside = covers F l m n trail.trail trail.long

  links : (word l 3 ≡ pos (first F (dim_at l) m n (block_of F l))) × ((j : ℕ) → has trail.places j ≡ true → word l (record_at F j) ≡ pos (next F (dim_at l) m n (block_of F l) j))
  links = linked F l m n trail.trail (λ j h e. inside j h)

  -- ---- a record
  module _ (j : ℕ) (h : j < n) where
    abbrev at : ℕ
    at = record_at F j

    tests : (store_ok l at m ≡ true) × (block_ok F l at ≡ true)
    tests = at_each F l m n (λ (p : ℕ). (store_ok l (record_at F p) m ≡ true) × (block_ok F l (record_at F p) ≡ true)) (λ p s b. (s, b)) trail.trail j (inside j h)

    stores : ((up_to max_word (word l (at + 1)) && up_to max_word (word l (at + 2))) ≡ true) × (ltb (store_at l at) (2 ^ m) ≡ true)
    stores = and_split (up_to max_word (word l (at + 1)) && up_to max_word (word l (at + 2))) _ tests.0

    ranges : (up_to max_word (word l (at + 1)) ≡ true) × (up_to max_word (word l (at + 2)) ≡ true)
    ranges = and_split (up_to max_word (word l (at + 1))) _ stores.0

    numerators : (up_to max_exponent (word l (at + 3)) ≡ true) × ((shared_ok (entries F) (shared_at F l at) && diagonal_ok F (numbers_at F l at)) ≡ true)
    numerators = and_split (up_to max_exponent (word l (at + 3))) _ tests.1

    both : (shared_ok (entries F) (shared_at F l at) ≡ true) × (diagonal_ok F (numbers_at F l at) ≡ true)
    both = and_split (shared_ok (entries F) (shared_at F l at)) _ numerators.1

    fitting : (shared_fits (entries F) (shared_at F l at) ≡ true) × (is_shared (entries F) (shared_at F l at) ≡ true)
    fitting = and_split (shared_fits (entries F) (shared_at F l at)) _ both.0

    same-form : Alike (entries F) (shared_at F l at) (shared (entries F) (entry (shared_at F l at)))
    same-form = shared_is (entries F) (shared_at F l at) fitting.1

    same-words : block_words F (shared (entries F) (entry (shared_at F l at))).num ≡ span (word l) (at + 4) (block_size F)
    same-words =
        block_same F _ (numbers_at F l at) (λ k p. sym (same-form.num k p))
        ∙ read-block F (λ (i : ℕ). word l (at + 4 + i))
        ∙ joined_same (block_size F) _ _ (λ i p. ap (λ (k : ℕ). word l (at + 4 + k) ∷ []) (zero-add i))

    same_record : record_words F (next F (dim_at l) m n (block_of F l) j) (store_at l at) (shared (entries F) (entry (shared_at F l at))) ≡ span (word l) at (record_size F)
    unfolding joined
    same_record =
        (λ i. (sym (links.1 j (inside j h)) ∙ ap (word l) (sym (add-zero at))) i
        ∷ store_low (word l (at + 1)) (word l (at + 2)) ranges.0 i ∷ store_high (word l (at + 1)) (word l (at + 2)) ranges.0 ranges.1 i
        ∷ (ap pos (sym same-form.exp) ∙ natural max_exponent (word l (at + 3)) numerators.0) i ∷ same-words i)
        ∙ sym (span_more (word l) at 4 (block_size F))

  header_is : header F (dim_at l) m n (block_of F l) ≡ span (word l) 0 4
  unfolding joined
  header_is = λ i. dim_word i ∷ natural 64 (word l 1) dims.1 i ∷ natural ((length l - 4) / record_size F) (word l 2) counted.1 i ∷ sym links.0 i ∷ []

  -- the blocks can be written
  pub writable : Writable F (dim_at l) m n (block_of F l)
  writable = record {
    dim = ap is_dim dim_word ∙ dims.0;
    few = up-abs 64 (word l 1) dims.1;
    small = λ j h. ltb-true (store_at l (record_at F j)) (2 ^ m) (stores j h).1;
    different = λ i j h k e. different F l m n trail.trail i j (inside i h) (inside j k) e;
    lowest = λ j h k p. lowest-form (numbers_at F l (record_at F j) k) (nat_abs (word l (record_at F j + 3)));
    fits = λ j h. (and_split (shared_fits (entries F) (shared (entries F) (block_of F l j).entry)) _ (sym (alike_ok (entries F) _ _ (same-form j h)) ∙ (both j h).0)).0;
    suits = λ j h. read_suits F (λ (i : ℕ). word l (record_at F j + 4 + i)) (nat_abs (word l (record_at F j + 3))) (both j h).1;
  }

  pub whole : used F l ≡ words F (dim_at l) m n (block_of F l)
  whole =
      span-word l (4 + n * record_size F) room
      ∙ span_more (word l) 0 4 (n * record_size F)
      ∙ sym (ap₂ ◌++◌ header_is (joined_same n _ (λ (j : ℕ). span (word l) (4 + j * record_size F) (record_size F)) same_record ∙ span-rows (word l) 4 (record_size F) n))

pub canonical : Canonical
canonical F l ok = whole F l ok

pub full_suits : FullSuits
full_suits w x = record { mirror = λ e. absurd (true≢false (sym e)); rational = λ k l e. absurd (true≢false (sym e)) }

pub recast_back : RecastBack
recast_back w a b a' b' l ok suits rest = record {
  right = ap (λ (p : List ℤ). well_formed_in G (p ++ rest)) there ∙ (round_trip G (dim_at l) (bits_at l) (count_at l) (block_of F l) fits rest).right;
  back = ap (λ (p : List ℤ). recast G F (p ++ rest)) there ∙ recast-written w a' b' a b (dim_at l) (bits_at l) (count_at l) (block_of F l) suits rest ∙ sym (canonical F l ok);
}
  where
    F : Form
    F = form w a b

    G : Form
    G = form w a' b'

    there : recast F G l ≡ words G (dim_at l) (bits_at l) (count_at l) (block_of F l)
    there =
        ap (recast F G) (sym (take-append-drop (4 + count_at l * record_size F) l) ∙ ap (λ (p : List ℤ). p ++ drop (4 + count_at l * record_size F) l) (canonical F l ok))
        ∙ recast-written w a b a' b' (dim_at l) (bits_at l) (count_at l) (block_of F l) (writable F l ok).suits (drop (4 + count_at l * record_size F) l)

    fits : Writable G (dim_at l) (bits_at l) (count_at l) (block_of F l)
    fits = let r = writable F l ok in record { dim = r.dim; few = r.few; small = r.small; different = r.different; lowest = r.lowest; fits = r.fits; suits = suits }

pub relinks : Relinks
relinks F G l ok x = record {
  start = ap (relink F G) (links F l ok).0 ∙ relink_is F G (least (count_at l) (λ (j : ℕ). store_at l (record_at F j)) (λ (s : ℕ). true));
  onward = λ j h. ap (relink F G) ((links F l ok).1 j (inside F l ok j h)) ∙ relink_is F G (least (count_at l) (λ (j : ℕ). store_at l (record_at F j)) (before (store_at l (record_at F j))));
}
