-- A block from the words that are kept of it.
use mathlib.Core.Path.{◌≡◌, refl, sym, ap, ap₂, ◌∙◌, subst}
use mathlib.Core.Bool.{Bool, true, false, cond, true≢false}
use mathlib.Core.List.{◌++◌}
use Prim.Native.Nat.{ℕ, zero, suc, ◌+◌, ◌*◌, ◌-◌, ◌/◌, ◌%◌, ◌<◌, ◌≤◌}
use native.Mathlib.Nat.{not-suc-le-zero, div-add-mod', mod-lt, div-lt_iff_lt-mul, mul-le-mul, le_refl, suc-mul, zero-mul}
use native.Mathlib.Decide.{dec_lt}
use native.Mathlib.Omega.{arith}
use lib.Dec.{leb}
use lib.ListN.{length, get_or, length-append, get_or-append}
use lib.Seq.{get_or-append-add}
use lib.IntN.{ℤ, pos, negsuc, ◌+ℤ◌}
use borrow.Author.Tests.{leb-true, leb-false, le-leb}
use Rattle.algebra.specs.Quadratic.{conjugate}
use Rattle.algebra.specs.Dyadic.{power}
use Rattle.algebra.specs.Words.{joined}
use Rattle.algebra.proofs.Blocks.{length-joined, joined_at, joined_same}
use Rattle.algebra.proofs.Ring.{mul-one}
use Rattle.algebra.proofs.Quadratic.{ℤ√2, ℤ√2i, conj_add, conj_mul, conj-one}
use Rattle.exact.specs.Exact.{Number, number, numbers, root2, Exact, conj}
use Rattle.channel.specs.Shared.{shared_exponent, scaled, shared}
use Rattle.channel.specs.Layout.{Form, entry_size, entry_words, entry_from, entries, from, row_start, block_size, row_words, block_words, kept_at, kept, block_from, half_rows}
use Rattle.channel.specs.Claims.{Plain, Suits}
use Rattle.channel.specs.Forms.{Restorable}

-- ---- one entry
length-entry : (b : Bool) (z : Number) → length (entry_words b z) ≡ entry_size b
length-entry true z = refl
length-entry false z = refl

entry_is : (b : Bool) (v : ℕ → ℤ) (z : Number) → Plain b z → ((i : ℕ) → i < entry_size b → v i ≡ get_or (entry_words b z) i (pos 0)) → entry_from b v ≡ z
entry_is true v z p h = let q = p refl in λ i. number (h 0 (omega arith) i) (sym q.0 i) (h 1 (omega arith) i) (sym q.1 i)
entry_is false v z p h = λ i. number (h 0 (omega arith) i) (h 1 (omega arith) i) (h 2 (omega arith) i) (h 3 (omega arith) i)

module _ (F : Form) where
  abbrev w : ℕ
  w = F.side

  abbrev s : ℕ
  s = entry_size F.plain

  -- one row more
  pub row_zero : row_start F 0 ≡ 0
  unfolding half_rows
  row_zero = by F.half
    where
      by : (b : Bool) → cond b (half_rows F.side 0) (0 * F.side) ≡ 0
      by true = refl
      by false = zero-mul F.side

  pub row_next : (r : ℕ) → row_start F (suc r) ≡ row_start F r + (w - from F r)
  unfolding half_rows
  row_next r = by F.half
    where
      by : (b : Bool) → cond b (half_rows F.side (suc r)) (suc r * F.side) ≡ cond b (half_rows F.side r) (r * F.side) + (F.side - cond b r 0)
      by true = refl
      by false = omega (arith, suc-mul r F.side)

  -- entry k by its row and column: kept, or the conjugate of the one that is
  pub by_place : (v : ℕ → ℤ) (k : ℕ) → block_from F v k ≡ cond (leb (from F (k / w)) (k % w)) (kept F v (k / w) (k % w)) (conjugate root2 (kept F v (k % w) (k / w)))
  by_place v k = by F.half refl
    where
      by : (b : Bool) → F.half ≡ b → block_from F v k ≡ cond (leb (from F (k / w)) (k % w)) (kept F v (k / w) (k % w)) (conjugate root2 (kept F v (k % w) (k / w)))
      by true e = ap (λ (b : Bool). cond b (cond (leb (k / w) (k % w)) (kept F v (k / w) (k % w)) (conjugate root2 (kept F v (k % w) (k / w)))) (kept_at F v k)) e
          ∙ ap (λ (b : Bool). cond (leb (cond b (k / w) 0) (k % w)) (kept F v (k / w) (k % w)) (conjugate root2 (kept F v (k % w) (k / w)))) (sym e)
      by false e =
          ap (λ (b : Bool). cond b (cond (leb (k / w) (k % w)) (kept F v (k / w) (k % w)) (conjugate root2 (kept F v (k % w) (k / w)))) (kept_at F v k)) e
          ∙ ap (kept_at F v) (sym (div-add-mod' k w) ∙ place F.half e)
          ∙ ap (λ (b : Bool). cond b (kept F v (k / w) (k % w)) (conjugate root2 (kept F v (k % w) (k / w)))) (sym (ap (λ (b : Bool). leb (cond b (k / w) 0) (k % w)) e ∙ le-leb 0 (k % w) (omega arith)))
        where
          place : (b : Bool) → b ≡ false → k / w * w + k % w ≡ cond b (half_rows w (k / w)) (k / w * w) + (k % w - cond b (k / w) 0)
          place true f = absurd (true≢false f)
          place false f = omega arith

  -- ---- the rows
  length-row : (z : ℕ → Number) (r : ℕ) → length (row_words F z r) ≡ (w - from F r) * s
  length-row z r = length-joined s (λ (j : ℕ). entry_words F.plain (z (r * w + (from F r + j)))) (λ j. length-entry F.plain _) (w - from F r)

  length-rows : (z : ℕ → Number) (n : ℕ) → length (joined n (row_words F z)) ≡ row_start F n * s
  unfolding joined
  length-rows z zero = sym (ap (λ (k : ℕ). k * s) row_zero ∙ zero-mul s)
  length-rows z (suc n) = length-append (joined n (row_words F z)) (row_words F z n) ∙ (λ i. length-rows z n i + length-row z n i) ∙ by (row_start F n) (w - from F n) s ∙ ap (λ (k : ℕ). k * s) (sym (row_next n))
    where
      by : (a b c : ℕ) → a * c + b * c ≡ (a + b) * c
      by a b c = omega arith

  pub length-block : (z : ℕ → Number) → length (block_words F z) ≡ block_size F
  length-block z = length-rows z w

  row_inside : (n r : ℕ) → r < n → row_start F r + (w - from F r) ≤ row_start F n
  row_inside zero r h = absurd (not-suc-le-zero h)
  row_inside (suc n) r h = subst (λ (k : ℕ). row_start F r + (w - from F r) ≤ k) (sym (row_next n)) (go (dec_lt r n) (row_inside n r))
    where
      go : Dec (r < n) → (r < n → row_start F r + (w - from F r) ≤ row_start F n) → row_start F r + (w - from F r) ≤ row_start F n + (w - from F n)
      go (yes l) f = let q = f l in omega arith
      go (no l) f = let e : r ≡ n = omega arith in subst (λ (k : ℕ). row_start F r + (w - from F r) ≤ row_start F k + (w - from F k)) e (le_refl _)

  -- word i of row r
  row_at : (z : ℕ → Number) (n r i : ℕ) → r < n → i < (w - from F r) * s → get_or (joined n (row_words F z)) (row_start F r * s + i) (pos 0) ≡ get_or (row_words F z r) i (pos 0)
  unfolding joined
  row_at z zero r i h p = absurd (not-suc-le-zero h)
  row_at z (suc n) r i h p = go (dec_lt r n) (λ q. row_at z n r i q p)
    where
      within : (a b c t : ℕ) → a + b ≤ c → i < b * t → a * t + i < c * t
      within a b c t u v = let q = mul-le-mul u (le_refl t) in omega arith

      go : Dec (r < n) → (r < n → get_or (joined n (row_words F z)) (row_start F r * s + i) (pos 0) ≡ get_or (row_words F z r) i (pos 0))
          → get_or (joined n (row_words F z) ++ row_words F z n) (row_start F r * s + i) (pos 0) ≡ get_or (row_words F z r) i (pos 0)
      go (yes l) f =
          get_or-append (joined n (row_words F z)) (row_words F z n) (pos 0) (row_start F r * s + i)
          (subst (λ (k : ℕ). row_start F r * s + i < k) (sym (length-rows z n)) (within (row_start F r) (w - from F r) (row_start F n) s (row_inside n r l) p))
          ∙ f l
      go (no l) f =
          let e : r ≡ n = omega arith in
          ap (λ (k : ℕ). get_or (joined n (row_words F z) ++ row_words F z n) (k + i) (pos 0)) (ap (λ (k : ℕ). row_start F k * s) e ∙ sym (length-rows z n))
          ∙ get_or-append-add (joined n (row_words F z)) (row_words F z n) i (pos 0)
          ∙ ap (λ (k : ℕ). get_or (row_words F z k) i (pos 0)) (sym e)

  -- word i of entry (r, c)
  pub place_inside : (r c i : ℕ) → r < w → c < w → from F r ≤ c → i < s → (row_start F r + (c - from F r)) * s + i < block_size F
  place_inside r c i h l p q = by (row_start F r) (c - from F r) (w - from F r) (row_start F w) s (omega arith) (row_inside w r h) q
    where
      by : (a b d e t : ℕ) → b < d → a + d ≤ e → i < t → (a + b) * t + i < e * t
      by a b d e t u v x = let y : a + b + 1 ≤ e = omega arith in let q = mul-le-mul y (le_refl t) in omega arith

  pub place_at : (z : ℕ → Number) (r c i : ℕ) → r < w → c < w → from F r ≤ c → i < s
      → get_or (block_words F z) ((row_start F r + (c - from F r)) * s + i) (pos 0) ≡ get_or (entry_words F.plain (z (r * w + c))) i (pos 0)
  place_at z r c i h l p q =
      ap (λ (k : ℕ). get_or (block_words F z) k (pos 0)) (sum (row_start F r) (c - from F r) s)
      ∙ row_at z w r ((c - from F r) * s + i) h (inside (c - from F r) (w - from F r) s (omega arith) q)
      ∙ joined_at s (λ (j : ℕ). entry_words F.plain (z (r * w + (from F r + j)))) (λ j. length-entry F.plain _) (w - from F r) (c - from F r) i (omega arith) q
      ∙ ap (λ (k : ℕ). get_or (entry_words F.plain (z (r * w + k))) i (pos 0)) back
    where
      sum : (a b t : ℕ) → (a + b) * t + i ≡ a * t + (b * t + i)
      sum a b t = omega arith

      inside : (a b t : ℕ) → a < b → i < t → a * t + i < b * t
      inside a b t u v = let q = mul-le-mul u (le_refl t) in omega (arith, suc-mul a t)

      back : from F r + (c - from F r) ≡ c
      back = omega arith

  -- ---- the block
  pub cell_below : (r c : ℕ) → r < w → c < w → r * w + c < w * w
  cell_below r c h l = let q = mul-le-mul h (le_refl w) in omega (arith, suc-mul r w)

  module _ (z : ℕ → Number) (m : Restorable F z) (v : ℕ → ℤ) (h : (i : ℕ) → i < block_size F → v i ≡ get_or (block_words F z) i (pos 0)) where
    kept_is : (r c : ℕ) → r < w → c < w → from F r ≤ c → kept F v r c ≡ z (r * w + c)
    kept_is r c p q l = entry_is F.plain _ (z (r * w + c)) (m.rational (r * w + c) (cell_below r c p q)) (λ i u. h _ (place_inside r c i p q l u) ∙ place_at z r c i p q l u)

    pub restored : (k : ℕ) → k < entries F → block_from F v k ≡ z k
    restored k l = by_place v k ∙ go (leb (from F r) c) refl ∙ ap z (div-add-mod' k w)
      where
        some : 0 < w
        some = by w l
          where
            by : (w : ℕ) → k < w * w → 0 < w
            by zero u = omega arith
            by (suc w) u = omega arith

        r : ℕ
        r = k / w

        c : ℕ
        c = k % w

        row : r < w
        row = (div-lt_iff_lt-mul some).1 l

        col : c < w
        col = mod-lt k some

        -- what is not kept lies below the diagonal of a half
        below : (b : Bool) → F.half ≡ b → c < from F r → (F.half ≡ true) × (c < r)
        below true e u = (e, subst (λ (b : Bool). c < cond b r 0) e u)
        below false e u = absurd (not-suc-le-zero (subst (λ (b : Bool). c < cond b r 0) e u))

        go : (b : Bool) → leb (from F r) c ≡ b → cond b (kept F v r c) (conjugate root2 (kept F v c r)) ≡ z (r * w + c)
        go true e = kept_is r c row col (leb-true (from F r) c e)
        go false e =
            let q = below F.half refl (leb-false (from F r) c e) in
            let u : from F c ≤ r = subst (λ (b : Bool). cond b c 0 ≤ r) (sym q.0) (omega arith) in
            ap (conjugate root2) (kept_is c r col row u) ∙ sym (m.mirror q.0 r c row col)

  pub block_same : (z y : ℕ → Number) → ((k : ℕ) → k < entries F → z k ≡ y k) → block_words F z ≡ block_words F y
  block_same z y h = joined_same w (row_words F z) (row_words F y) (λ r p. joined_same (w - from F r) _ _ (λ j q. ap (entry_words F.plain) (h (r * w + (from F r + j)) (cell_below r (from F r + j) p (omega arith)))))

-- ---- the numerators of a block that a form suits
abbrev minus_one : ℤ√2.K
minus_one = ℤ√2.ops.int (negsuc 0)

conj-power : (k : ℕ) → conjugate root2 (power numbers k) ≡ power numbers k
conj-power zero = conj-one ℤ√2 minus_one
conj-power (suc k) = conj_add ℤ√2 minus_one (power numbers k) (power numbers k) ∙ ap₂ numbers.◌⊕◌ (conj-power k) (conj-power k)

pub scaled-conj : (e : ℕ) (x : Exact) → scaled e (conj x) ≡ conjugate root2 (scaled e x)
scaled-conj e x = sym (conj_mul ℤ√2 minus_one x.num (power numbers (e - x.exp)) ∙ ap (numbers.◌⊗◌ (conjugate root2 x.num)) (conj-power (e - x.exp)))

pub scaled-plain : (b : Bool) (z : Number) → Plain b z → (k : ℕ) → Plain b (numbers.◌⊗◌ z (power numbers k))
scaled-plain b z p zero e = subst (λ (y : Number). (y.re.im ≡ pos 0) × (y.im.im ≡ pos 0)) (sym (mul-one ℤ√2i z)) (p e)
scaled-plain b z p (suc k) e = subst (λ (y : Number). (y.re.im ≡ pos 0) × (y.im.im ≡ pos 0)) (sym (ℤ√2i.mul-add z (power numbers k) (power numbers k))) (twice (numbers.◌⊗◌ z (power numbers k)) (scaled-plain b z p k e))
  where
    twice : (y : Number) → (y.re.im ≡ pos 0) × (y.im.im ≡ pos 0) → ((numbers.◌⊕◌ y y).re.im ≡ pos 0) × ((numbers.◌⊕◌ y y).im.im ≡ pos 0)
    twice y q = (ap₂ ◌+ℤ◌ q.0 q.0, ap₂ ◌+ℤ◌ q.1 q.1)

pub shared_restorable : (F : Form) (x : ℕ → Exact) → Suits F x → Restorable F (shared (entries F) x).num
shared_restorable F x u = record {
  mirror = λ e r c p q. ap (scaled (shared_exponent (entries F) x)) (u.mirror e r c p q) ∙ scaled-conj (shared_exponent (entries F) x) (x (c * F.side + r));
  rational = λ k l. scaled-plain F.plain (x k).num (u.rational k l) (shared_exponent (entries F) x - (x k).exp);
}
