-- The room that a text takes: it is written whole where there is enough, and a listing has so many bytes at most.
use mathlib.Core.Path.{◌≡◌, refl, ap, ◌∙◌}
use mathlib.Core.Bool.{Bool, true, false, cond}
use mathlib.Core.List.{List, [], ◌∷◌, ◌++◌}
use Prim.Native.Nat.{ℕ, zero, suc, ◌+◌, ◌*◌, ◌/◌, ◌%◌, ◌≤◌}
use native.Mathlib.Nat.{suc-mul}
use native.Mathlib.Omega.{arith}
use lib.ListN.{length, drop}
use lib.Seq.{sets-eq}
use lib.IntN.{ℤ, pos, negsuc, nat_abs}
use Rattle.algebra.specs.Lists.{concat_map}
use Rattle.exact.specs.Exact.{Exact, is_zero}
use Rattle.cells.specs.Cells.{cell_words}
use Rattle.answers.proofs.Most.{AtMost, plus, more, known, decimal-most, bits_most}
use Rattle.channel.specs.Layout.{Block, Form, full, channels, record_size, side, word, dim_at, bits_at, count_at, chain, block_at}
use Rattle.channel.specs.WellFormed.{well_formed}
use Rattle.channel.proofs.Judging.{formed}
use Rattle.text.specs.Ascii.{ascii}
use Rattle.text.specs.Decimal.{decimal, signed}
use Rattle.text.specs.Page.{page}
use Rattle.listing.specs.Listing.{newline, spaced, first_line, entry_line, entry_lines, block_lines, listing}
use Rattle.listing.specs.Claims.{Whole, Short, ShortRefusal, max_listing}
use Rattle.text.proofs.Put.{write-from}

-- ---- enough room
pub whole : Whole
whole bs l h =
    let n : 0 + length bs ≡ length bs = omega arith in
    write-from bs l 0 (omega arith) ∙ ap (λ (xs : List ℕ). page xs (0 + length bs)) (sets-eq bs l 0 (omega arith)) ∙ ap (λ (k : ℕ). page (bs ++ drop k l) k) n

-- ---- lines
signed-most : (z : ℤ) → AtMost (signed z) 21
signed-most (pos n) = more (omega arith) (decimal-most n)
signed-most (negsuc n) = plus (known (ascii "-")) (decimal-most (suc n))

spaced-most : (z : ℤ) → AtMost (spaced z) 22
spaced-most z = plus (known (ascii " ")) (signed-most z)

words-most : (zs : List ℤ) → AtMost (concat_map spaced zs) (length zs * 22)
words-most [] = known []
words-most (z ∷ zs) = more (omega (arith, suc-mul (length zs) 22)) (plus (spaced-most z) (words-most zs))

entry-most : (r c : ℕ) (x : Exact) → AtMost (entry_line r c x) 153
entry-most r c x = by (is_zero x.num)
  where
    by : (t : Bool) → AtMost (cond t [] (decimal r ++ concat_map spaced (pos c ∷ cell_words x) ++ newline)) 153
    by true = record { le = omega arith }
    by false = plus (plus (decimal-most r) (words-most (pos c ∷ cell_words x))) (known newline)

entries-most : (w n : ℕ) (f : ℕ → Exact) → AtMost (entry_lines w n f) (n * 153)
unfolding entry_lines
entries-most w zero f = known []
entries-most w (suc n) f = more (omega (arith, suc-mul n 153)) (plus (entries-most w n f) (entry-most (n / w) (n % w) (f n)))

-- a word of a record stands for at most 39 bytes
block-most : (m w : ℕ) (b : Block) → m ≤ 64 → AtMost (block_lines m w b) (39 * record_size (full w))
block-most m w b h = more (omega arith) (plus (plus (plus (known (ascii "store ")) (bits_most m b.store h)) (known newline)) (entries-most w (w * w) b.entry))

chain-most : (F : Form) (l : List ℤ) (m w n at : ℕ) → m ≤ 64 → AtMost (concat_map (block_lines m w) (chain F l n at)) (39 * (n * record_size (full w)))
chain-most F l m w zero at h = more (omega arith) (known [])
chain-most F l m w (suc n) at h = more (omega (arith, suc-mul n (record_size (full w)))) (plus (block-most m w (block_at F l at) h) (chain-most F l m w n (nat_abs (word l at)) h))

first-most : (d m n : ℕ) → AtMost (first_line d m n) 83
first-most d m n =
    plus
    (plus (plus (plus (plus (plus (known (ascii "dim")) (spaced-most (pos d))) (known (ascii " cbits"))) (spaced-most (pos m))) (known (ascii " blocks"))) (spaced-most (pos n)))
    (known newline)

pub short : Short
short l h = by (well_formed l) refl
  where
    by : (t : Bool) → well_formed l ≡ t → length (cond t (listing l) []) ≤ max_listing
    by true e =
        let r = (formed l e).head.room in
        omega (arith, r.inside, (plus (first-most (dim_at l) (bits_at l) (count_at l)) (chain-most (channels (dim_at l)) l (bits_at l) (side (dim_at l)) (count_at l) (nat_abs (word l 3)) r.few)).le)
    by false e = omega arith

pub short-refusal : ShortRefusal
short-refusal n i = (plus (plus (plus (known (ascii "refused")) (spaced-most (pos n))) (spaced-most (pos i))) (known newline)).le
