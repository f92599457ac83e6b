-- A Hermitian block while it is shared row by row: shifted from the diagonal on, and before it the conjugates of what is across.
use mathlib.Core.Path.{◌≡◌, refl, sym, ap, ◌∙◌, subst}
use mathlib.Core.Bool.{Bool, true, false, cond}
use mathlib.Core.List.{List}
use mathlib.Core.Logic.{inl}
use Prim.Native.Nat.{ℕ, ◌+◌, ◌*◌, ◌-◌, ◌^◌, ◌≤◌, ◌<◌}
use native.Mathlib.Nat.{le_refl}
use native.Mathlib.Omega.{arith}
use lib.Arith.{digits_div, digits_mod}
use lib.Dec.{leb}
use lib.ListN.{length, get_or}
use lib.IntN.{ℤ, pos}
use lib.Signed.{shr_z}
use borrow.Author.Tests.{leb-false, le-leb, lt-leb}
use Rattle.algebra.specs.Quadratic.{conjugate}
use Rattle.algebra.specs.Words.{fill_words}
use Rattle.algebra.proofs.Blocks.{Writing, wrote, kept, rest, block_in_lem, blocks-same}
use Rattle.exact.specs.Exact.{Number, numbers, root2, list_of, is_zero}
use Rattle.exact.specs.Inner.Sizes.{Within, room_numerator}
use Rattle.exact.proofs.Align.{roomy}
use Rattle.exact.proofs.Zeros.{shifted}
use Rattle.share.specs.Share.{number_in, with_numerators}
use Rattle.share.proofs.Numbers.{number_same, number-filled, numbers-there}
use Rattle.share.proofs.Laws.{shifts_are}
use Rattle.overlaps.proofs.Rows.{Rows, row_more, rows-room, own_is, row-place, later-place, two_parts}
use Rattle.hermitian.specs.Inner.Upper.{diagonal, mirrored_at, shifted_at, row_shared, upper_shared, ZeroRow, Column, Shifting, Half}
use Rattle.hermitian.proofs.Shifts.{shift-within, shift-zero}

-- ---- entry (r, c)
pub mirror_is : (l : List ℤ) (out w r c : ℕ) (b : Bool) → c < w → leb r c ≡ b → mirrored_at l out w (r * w + c) ≡ cond b (number_in l (out + (r * w + c) * 4)) (conjugate root2 (number_in l (out + (c * w + r) * 4)))
mirror_is l out w r c b h q =
    (λ i. cond (leb (digits_div r h i) (digits_mod r h i)) (number_in l (out + (r * w + c) * 4)) (conjugate root2 (number_in l (out + (digits_mod r h i * w + digits_div r h i) * 4))))
    ∙ ap (λ (t : Bool). cond t (number_in l (out + (r * w + c) * 4)) (conjugate root2 (number_in l (out + (c * w + r) * 4)))) q

shared_at : (l : List ℤ) (out w t r c : ℕ) (b : Bool) → c < w → leb r c ≡ b → upper_shared l out w t (r * w + c) ≡ cond b (shifted_at l (out + (r * w + c) * 4) t) (conjugate root2 (shifted_at l (out + (c * w + r) * 4) t))
shared_at l out w t r c b h q =
    (λ i. cond (leb (digits_div r h i) (digits_mod r h i)) (shifted_at l (out + (r * w + c) * 4) t) (conjugate root2 (shifted_at l (out + (digits_mod r h i * w + digits_div r h i) * 4) t)))
    ∙ ap (λ (b : Bool). cond b (shifted_at l (out + (r * w + c) * 4) t) (conjugate root2 (shifted_at l (out + (c * w + r) * 4) t))) q

-- ---- row r from column r: b is l with c numbers of it written
abbrev pub Mirroring : List ℤ → ℕ → ℕ → ℕ → List ℤ → ℕ → Type 0
Mirroring l out w r b c = Writing 4 l (out + r * w * 4) r (λ (i : ℕ). list_of (conjugate root2 (number_in l (out + (i * w + r) * 4)))) b c

-- a number of column r, and its place in row r
module _ {l : List ℤ} {out w r : ℕ} (p : Column l out w r) {b : List ℤ} {c : ℕ} (ws : Mirroring l out w r b c) (hc : c < r) where
  above : c * w + r + 1 ≤ r * w
  above = let h = p.inside in omega (arith, block_in_lem hc w)

  pub column_is : number_in b (out + (c * w + r) * 4) ≡ number_in l (out + (c * w + r) * 4)
  column_is = number_same (kept ws (out + (c * w + r) * 4) 4 (inl (omega (arith, above))))

  pub column-room : out + (c * w + r) * 4 + 4 ≤ length l
  column-room = omega (arith, above, p.room, block_in_lem p.inside w)

  pub own_room : out + r * w * 4 + c * 4 + 4 ≤ length l
  own_room = let h = p.inside in omega (arith, p.room, block_in_lem p.inside w)

  pub column-small : Within room_numerator (number_in b (out + (c * w + r) * 4))
  column-small = subst (Within room_numerator) (sym column_is) (p.sizes c hc)

-- ---- row r shared
module _ (l : List ℤ) (out w r t : ℕ) where
  -- where the number on the diagonal is zero, it stands there
  pub row-none : ZeroRow l out w r → l ≡ with_numerators l (out + r * w * 4) w (row_shared l out w t r)
  row-none p = sym (numbers-there l (out + r * w * 4) w _ (λ c h. go c h (leb r c) refl ∙ sym (ap (number_in l) (row-place out w r c) ∙ p.row c h)))
    where
      go : (c : ℕ) → c < w → (b : Bool) → leb r c ≡ b → cond b (shifted_at l (out + (r * w + c) * 4) t) (conjugate root2 (number_in l (out + (c * w + r) * 4))) ≡ numbers.𝟘
      go c h true q = shift-zero l (out + (r * w + c) * 4) t (p.row c h)
      go c h false q = ap (conjugate root2) (p.column c (leb-false r c q))

  -- else column r is mirrored, and then the row shifted from its diagonal on
  pub row_done : r < w → {o n : List ℤ} → o ≡ with_numerators l (out + r * w * 4) r (λ (c : ℕ). conjugate root2 (number_in l (out + (c * w + r) * 4)))
      → n ≡ fill_words o (out + (r * w + r) * 4) ((w - r) * 4) (λ (i : ℕ). shr_z (get_or o (out + (r * w + r) * 4 + i) (pos 0)) (2 ^ t)) → n ≡ with_numerators l (out + r * w * 4) w (row_shared l out w t r)
  row_done hr {o} e q =
      two_parts l out w r hr (row_shared l out w t r)
      (e ∙ blocks-same 4 l (out + r * w * 4) r _ _ (λ c h. ap list_of (sym (test c (lt-leb r c h)))))
      (q ∙ shifts_are o at (w - r) t ∙ blocks-same 4 o at (w - r) _ _ (λ i h. ap list_of (ap (λ (z : Number). shifted z t) (later_is i) ∙ sym (test (r + i) (le-leb r (r + i) (omega arith))))))
    where
      at : ℕ
      at = out + (r * w + r) * 4

      test : (c : ℕ) {b : Bool} → leb r c ≡ b → row_shared l out w t r c ≡ cond b (shifted_at l (out + (r * w + c) * 4) t) (conjugate root2 (number_in l (out + (c * w + r) * 4)))
      test c q = ap (λ (b : Bool). cond b (shifted_at l (out + (r * w + c) * 4) t) (conjugate root2 (number_in l (out + (c * w + r) * 4)))) q

      row : Writing 4 l (out + r * w * 4) r (λ (c : ℕ). list_of (conjugate root2 (number_in l (out + (c * w + r) * 4)))) o r
      row = wrote (λ j. le_refl 4) e

      later_is : (i : ℕ) → number_in o (at + i * 4) ≡ number_in l (out + (r * w + (r + i)) * 4)
      later_is i = number_same (rest row (at + i * 4) 4 (omega arith)) ∙ ap (number_in l) (later-place out w r i)

-- ---- b is l with r rows shared
module _ {l : List ℤ} {out w : ℕ} (p : Half l out w) (t : ℕ) {b : List ℤ} {r : ℕ} (hr : r < w) (ws : Rows l out w (upper_shared l out w t) b r) where
  -- column r is shifted
  done_is : (c : ℕ) → c < r → number_in b (out + (c * w + r) * 4) ≡ shifted_at l (out + (c * w + r) * 4) t
  done_is c h =
      ap (λ (n : List ℤ). number_in n (out + (c * w + r) * 4)) ws.is
      ∙ number-filled (upper_shared l out w t) l out (r * w) (c * w + r) (omega (arith, block_in_lem h w)) (omega (arith, p.block.room, block_in_lem hr w))
      ∙ shared_at l out w t c r true hr (le-leb c r (omega arith))

  pub share_asks : Shifting b out w r
  share_asks = record {
    row = record { inside = hr; room = rows-room hr ws p.block.room; none = none };
    column = record {
      inside = hr;
      room = rows-room hr ws p.block.room;
      sizes = λ c h. let z = number_in l (out + (c * w + r) * 4) in subst (Within room_numerator) (sym (done_is c h)) (shift-within room_numerator z t (roomy z (p.block.sums c r (omega arith) hr)));
    };
  }
    where
      none : is_zero (diagonal b out w r) ≡ true → ZeroRow b out w r
      none z =
          let n = p.none r hr (sym (ap is_zero (own_is hr ws r)) ∙ z) in
          record { row = λ c h. own_is hr ws c ∙ n.row c h; column = λ c h. done_is c h ∙ shift-zero l (out + (c * w + r) * 4) t (n.column c h) }

  pub share_more : {n : List ℤ} → n ≡ with_numerators b (out + r * w * 4) w (row_shared b out w t r) → Rows l out w (upper_shared l out w t) n (r + 1)
  share_more q = row_more hr ws (q ∙ blocks-same 4 b (out + r * w * 4) w _ _ (λ c h. ap list_of (go c (leb r c) refl ∙ sym (shared_at l out w t r c (leb r c) h refl))))
    where
      go : (c : ℕ) (d : Bool) → leb r c ≡ d
          → cond d (shifted_at b (out + (r * w + c) * 4) t) (conjugate root2 (number_in b (out + (c * w + r) * 4)))
          ≡ cond d (shifted_at l (out + (r * w + c) * 4) t) (conjugate root2 (shifted_at l (out + (c * w + r) * 4) t))
      go c true e = ap (λ (z : Number). shifted z t) (own_is hr ws c)
      go c false e = ap (conjugate root2) (done_is c (leb-false r c e))
