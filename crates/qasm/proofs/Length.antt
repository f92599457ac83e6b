-- How many bytes are written.
use mathlib.Core.Path.{◌≡◌, refl, sym, ap, ◌∙◌}
use mathlib.Core.Bool.{Bool, true}
use mathlib.Core.List.{List, [], ◌∷◌, ◌++◌}
use Prim.Native.Nat.{ℕ, suc, ◌+◌, ◌*◌, ◌%◌, ◌≤◌}
use native.Mathlib.Omega.{arith}
use lib.Dec.{eqb, leb}
use lib.ListN.{length, get_or, length-append}
use borrow.Author.Tests.{leb-true, eqb-true}
use Rattle.algebra.specs.Lists.{All, every, total, concat_map}
use Rattle.algebra.proofs.Lists.{every-all, filter_all}
use Rattle.algebra.proofs.Tests.{and_split}
use Rattle.gate.specs.Gate.{Gate, gate_size, gates_of}
use Rattle.text.specs.Decimal.{max_number, decimal}
use Rattle.text.proofs.RoundTrip.{digits-few}
use Rattle.qasm.specs.Forms.{Piece, fixed, fresh, size, register, index, Entry, table}
use Rattle.qasm.specs.Writing.{registers, print, words, line, of_kind, gate_line, gate_text, written}
use Rattle.qasm.specs.Claims.{small, Written}
use Rattle.qasm.proofs.Gates.{words_back, every_concat}
use Rattle.qasm.proofs.Sound.{size_small}

digits-small : (v : ℕ) → leb v max_number ≡ true → length (decimal v) ≤ 10
digits-small v e = digits-few 20 9 v (let h = leb-true v max_number e in omega arith)

-- ---- one line
abbrev most : Piece → ℕ
most (fixed bs) = length bs
most (fresh r) = length (get_or registers r [])
most (size r) = 10
most (register r) = length (get_or registers r [])
most (index w) = 10

module _ (ws : List ℕ) (s : small ws ≡ true) where
  piece_most : (p : Piece) → length (print [] ws p) ≤ most p
  piece_most (fixed bs) = omega arith
  piece_most (fresh r) = omega arith
  piece_most (size r) = digits-small (get_or [] r 0) (size_small [] r refl)
  piece_most (register r) = omega arith
  piece_most (index w) = digits-small (get_or ws w 0) (size_small ws w s)

  pieces-most : (ps : List Piece) → length (concat_map (print [] ws) ps) ≤ total most ps
  pieces-most [] = omega arith
  pieces-most (p ∷ ps) = omega (arith, length-append (print [] ws p) (concat_map (print [] ws) ps), piece_most p, pieces-most ps)

  line-most : (name : List ℕ) (ps : List Piece) → length (line [] ws name ps) ≤ length name + 2 + total most ps
  line-most name ps =
      let body = concat_map (print [] ws) ps in
      omega (arith, length-append name (32 ∷ (body ++ (10 ∷ []))), length-append body (10 ∷ []), pieces-most ps)

-- no gate's line has more than 49 bytes
abbrev short : Entry → Bool
short e = leb (length e.name + 2 + total most e.form) 49

pub gate-most : (g : Gate) → small (words g) ≡ true → length (gate_text g) ≤ 49
gate-most g s = by (of_kind g.kind) (filter_all (λ (e : Entry). short e ≡ true) (λ (e : Entry). eqb e.kind g.kind) table (every-all short (λ (e : Entry). short e ≡ true) (λ e h. h) table refl))
  where
    by : (es : List Entry) → All (λ (e : Entry). short e ≡ true) es → length (gate_line g es) ≤ 49
    by [] h = omega arith
    by (e ∷ es) h = omega (arith, line-most (words g) s e.name e.form, leb-true (length e.name + 2 + total most e.form) 49 h.0)

-- ---- the whole text
abbrev gate_bytes : Gate → ℕ
gate_bytes g = length (gate_text g)

lines_length : (gs : List Gate) → length (concat_map gate_text gs) ≡ total gate_bytes gs
lines_length [] = refl
lines_length (g ∷ gs) = length-append (gate_text g) (concat_map gate_text gs) ∙ ap (λ (k : ℕ). gate_bytes g + k) (lines_length gs)

one_more : (x y n : ℕ) → x ≤ 49 → y ≤ 49 * n → x + y ≤ 49 * suc n
one_more x y n h l = omega arith

lines_most : (gs : List Gate) → every (λ (g : Gate). small (words g)) gs ≡ true → total gate_bytes gs ≤ 49 * length gs
lines_most [] e = omega arith
lines_most (g ∷ gs) e = let (s, r) = and_split (small (words g)) _ e in one_more (gate_bytes g) (total gate_bytes gs) (length gs) (gate-most g s) (lines_most gs r)

text-length : (n m : ℕ) (gs : List Gate) → length (written n m gs) ≡ 56 + (length (decimal n) + length (decimal m)) + total gate_bytes gs
text-length n m gs = simp length-append (omega (arith, lines_length gs))

all_most : (l x y z n : ℕ) → l ≡ 56 + (x + y) + z → x ≤ 10 → y ≤ 10 → z ≤ 49 * n → l ≤ 76 + 49 * n
all_most l x y z n e h k j = omega arith

pub bytes : Written
bytes n m ws = record {
  count = text-length n m (gates_of ws);
  most = λ c.
      let gs = gates_of ws in
      let (hn, rest) = and_split (leb n max_number) _ c.numbers in
      let (hm, s) = and_split (leb m max_number) (small ws) rest in
      let two = eqb-true (length ws % gate_size) 0 (and_split (eqb (length ws % gate_size) 0) _ c.words).0 in
      let s = sym (every_concat (λ (w : ℕ). leb w max_number) words gs) ∙ ap small (words_back ws two) ∙ s in
      all_most (length (written n m gs)) (length (decimal n)) (length (decimal m)) (total gate_bytes gs) (length gs) (text-length n m gs) (digits-small n hn) (digits-small m hm) (lines_most gs s);
}
