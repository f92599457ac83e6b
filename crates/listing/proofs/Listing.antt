-- Laws of the listing's lines.
use mathlib.Core.Path.{◌≡◌, refl, sym, ap}
use mathlib.Core.Bool.{Bool, true, false, cond, ◌&&◌}
use mathlib.Core.List.{List, [], ◌∷◌, ◌++◌}
use Prim.Native.Nat.{ℕ, suc, ◌+◌, ◌-◌, ◌/◌, ◌%◌, ◌^◌, ◌<◌, ◌≤◌}
use native.Mathlib.Numerals.{add-one}
use native.Mathlib.Omega.{arith}
use lib.Dec.{leb}
use lib.ListN.{length}
use lib.IntN.{ℤ, pos, nat_abs}
use borrow.Author.Tests.{leb-true}
use lib.Signed.{mag}
use mir.Syntax.{w64}
use mir.Val.{to_z, of_z}
use Rattle.algebra.specs.Words.{up_to}
use Rattle.algebra.specs.Lists.{concat_map}
use Rattle.algebra.proofs.Signed.{reads}
use Rattle.exact.specs.Exact.{Exact, is_zero}
use Rattle.cells.specs.Cells.{cell_words}
use Rattle.algebra.proofs.Tests.{and_split}
use Rattle.store.specs.Store.{max_word}
use Rattle.channel.specs.Layout.{Form, channels, header_size, record_size, word, chain, dim_at, block_at}
use Rattle.channel.specs.WellFormed.{store_ok, is_dim, header_ok, chained, well_formed_in, well_formed}
use Rattle.channel.proofs.Words.{dim_range}
use Rattle.text.specs.Decimal.{decimal}
use Rattle.text.specs.declared.page.Writer.{Writer}
use Rattle.text.specs.Inner.Puts.{Puts}
use Rattle.listing.specs.Listing.{newline, spaced, entry_line, entry_lines, listing, listing_of}
use Rattle.text.proofs.Put.{text}

-- ---- entries
-- a word, as it is read
pub spaced-word : {p q : Writer} (z : ℤ) → mag z < 2 ^ 63 → Puts p (spaced (to_z w64 (of_z w64 z))) q → Puts p (spaced z) q
spaced-word z h w = text (ap spaced (reads z h)) w

module _ (r c : ℕ) (x : Exact) where
  pub entry_zero : is_zero x.num ≡ true → [] ≡ entry_line r c x
  entry_zero e = ap (λ (t : Bool). cond t [] (decimal r ++ concat_map spaced (pos c ∷ cell_words x) ++ newline)) (sym e)

  pub entry-shown : is_zero x.num ≡ false → decimal r ++ concat_map spaced (pos c ∷ cell_words x) ++ newline ≡ entry_line r c x
  entry-shown e = ap (λ (t : Bool). cond t [] (decimal r ++ concat_map spaced (pos c ∷ cell_words x) ++ newline)) (sym e)

pub entries_none : (w : ℕ) (f : ℕ → Exact) → [] ≡ entry_lines w 0 f
unfolding entry_lines
entries_none w f = refl

pub entries-more : (w k : ℕ) (f : ℕ → Exact) → entry_lines w k f ++ entry_line (k / w) (k % w) (f k) ≡ entry_lines w (k + 1) f
unfolding entry_lines
entries-more w k f = ap (λ (n : ℕ). entry_lines w n f) (sym (add-one k))

-- ---- blocks
pub store_words : (l : List ℤ) (at m : ℕ) → store_ok l at m ≡ true → (up_to max_word (word l (at + 1)) ≡ true) × (up_to max_word (word l (at + 2)) ≡ true)
store_words l at m e = and_split (up_to max_word (word l (at + 1))) _ (and_split (up_to max_word (word l (at + 1)) && up_to max_word (word l (at + 2))) _ e).0

pub chain_more : (F : Form) (l : List ℤ) (n at : ℕ) → 0 < n → chain F l n at ≡ block_at F l at ∷ chain F l (n - 1) (nat_abs (word l at))
chain_more F l n at h = let e : n ≡ suc (n - 1) = omega arith in ap (λ (k : ℕ). chain F l k at) e

pub chain-end : (F : Form) (l : List ℤ) (n at : ℕ) → n ≤ 0 → chain F l n at ≡ []
chain-end F l n at h = let e : n ≡ 0 = omega arith in ap (λ (k : ℕ). chain F l k at) e

-- ---- the listing
-- the words of a well-formed channel's header
pub record Header (l : List ℤ) : Type 0 where
  pub long : header_size ≤ length l
  pub dim : up_to 16 (word l 0) ≡ true
  pub bits : up_to 64 (word l 1) ≡ true
  pub count : up_to ((length l - header_size) / record_size (channels (dim_at l))) (word l 2) ≡ true

pub header : (l : List ℤ) → well_formed l ≡ true → Header l
unfolding well_formed well_formed_in
header l e =
    let t = and_split (leb header_size (length l)) _ (and_split (header_ok (channels (dim_at l)) l) (chained (channels (dim_at l)) l) e).0 in
    let u = and_split (is_dim (word l 0) && up_to 64 (word l 1)) _ t.1 in
    let v = and_split (is_dim (word l 0)) _ u.0 in
    record { long = leb-true header_size (length l) t.0; dim = (dim_range (word l 0) v.0).0; bits = v.1; count = u.1 }

pub unlisted : (l : List ℤ) → well_formed l ≡ false → [] ≡ listing_of l
unlisted l e = ap (λ (t : Bool). cond t (listing l) []) (sym e)
