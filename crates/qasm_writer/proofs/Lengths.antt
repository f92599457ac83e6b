-- How many bytes a text has, and when there is room for it.
use Rattle.std.specs.Prelude.{Some}
use mathlib.Core.Path.{◌≡◌, sym, ap, ◌∙◌}
use mathlib.Core.Bool.{true, false}
use mathlib.Core.List.{List, ◌++◌}
use Prim.Native.Nat.{ℕ, ◌+◌, ◌-◌, ◌*◌, ◌/◌, ◌^◌, ◌<◌, ◌≤◌}
use native.Mathlib.Omega.{arith}
use lib.Dec.{leb}
use lib.ListN.{length, length-append}
use borrow.Author.Tests.{le-leb, lt-leb}
use Rattle.algebra.specs.Lists.{total}
use Rattle.algebra.proofs.Tests.{leb_same}
use Rattle.gate.specs.Gate.{Gate, gate_size, gate_at, gates_of}
use Rattle.gate.proofs.Listed.{gates-more, gates-none}
use Rattle.text.specs.Decimal.{word_digits, decimal}
use Rattle.text.proofs.Digits.{decimal-one, decimal-more}
use Rattle.text.proofs.RoundTrip.{digits-most}
use Rattle.qasm.specs.Writing.{gate_text, written}
use Rattle.qasm.specs.Claims.{frame_bytes}
use Rattle.qasm.proofs.Length.{bytes}
use Rattle.text.specs.Ascii.{ascii}
use Rattle.qasm_writer.specs.Inner.Print.{name_of, others}
use Rattle.qasm_writer.proofs.Lines.{gate-shown}
use Rattle.qasm_writer.proofs.Asked.{from, from_all}

-- ---- numbers
module _ (n : ℕ) where
  pub decimal-most : length (decimal n) ≤ word_digits
  decimal-most = digits-most word_digits n

  pub length-one : n < 10 → length (decimal n) ≡ 1
  length-one h = ap length (decimal-one n h)

  pub length_more : 10 ≤ n → n < 2 ^ 64 → length (decimal n) ≡ length (decimal (n / 10)) + 1
  length_more g h = ap length (decimal-more n g h) ∙ length-append (decimal (n / 10)) _

-- ---- x bytes behind the first n
module _ (n x : ℕ) {k room : ℕ} (e : k ≡ n + x) where
  pub no_room : room < n → false ≡ leb k room
  no_room h = sym (lt-leb k room (omega arith))

  pub room-left : n ≤ room → leb k room ≡ leb x (room - n)
  room-left h = leb_same k room x (room - n) (λ l. omega arith) (λ l. omega arith)

-- ---- the bytes from gate i on
abbrev pub bytes_from : List ℕ → ℕ → ℕ
bytes_from ws i = total (λ (g : Gate). length (gate_text g)) (from ws i)

pub head-before : (n m : ℕ) (ws : List ℕ) {x y : ℕ} → x ≡ length (decimal n) → y ≡ length (decimal m) → length (written n m (gates_of ws)) ≡ frame_bytes + (x + y) + bytes_from ws 0
head-before n m ws e f = (bytes n m ws).count ∙ (λ i. frame_bytes + (sym e i + sym f i) + total (λ (g : Gate). length (gate_text g)) (from_all ws i))

module _ (ws : List ℕ) where
  pub line_before : {i k : ℕ} {g : Gate} → i < length ws / gate_size → g ≡ gate_at ws (i * gate_size) → k ≡ length (gate_text g) → bytes_from ws i ≡ k + bytes_from ws (i + 1)
  line_before {i} l e f =
      ap (total (λ (g : Gate). length (gate_text g))) (gates-more ws (length ws / gate_size) i l)
      ∙ (λ j. sym (f ∙ ap (λ (g : Gate). length (gate_text g)) e) j + bytes_from ws (i + 1))

  pub none_left : (i room : ℕ) → length ws / gate_size ≤ i → leb (bytes_from ws i) room ≡ true
  none_left i room l = ap (λ (gs : List Gate). leb (total (λ (g : Gate). length (gate_text g)) gs) room) (gates-none ws (length ws / gate_size) i l) ∙ le-leb 0 room (omega arith)

-- ---- the line of a gate
parts_count : (name before number behind os end : List ℕ) {text : List ℕ} → name ++ ((before ++ (number ++ behind)) ++ (os ++ end)) ≡ text
    → length name + ((length before + (length number + length behind)) + (length os + length end)) ≡ length text
parts_count name before number behind os end e =
    (λ i. length name + ((length before + sym (length-append number behind) i) + sym (length-append os end) i))
    ∙ (λ i. length name + (sym (length-append before (number ++ behind)) i + length (os ++ end)))
    ∙ ap (λ (k : ℕ). length name + k) (sym (length-append (before ++ (number ++ behind)) (os ++ end)))
    ∙ sym (length-append name ((before ++ (number ++ behind)) ++ (os ++ end))) ∙ ap length e

counted : (n : ℕ) {d o d' o' k : ℕ} → d ≡ d' → o ≡ o' → n + ((2 + (d' + 1)) + (o' + 2)) ≡ k → n + 5 + d + o ≡ k
counted n e f h = omega arith

pub line_count : (g : Gate) (name : List ℕ) {d o : ℕ} → name_of g.kind ≡ Some name → d ≡ length (decimal g.a) → o ≡ length (others g) → length name + 5 + d + o ≡ length (gate_text g)
line_count g name e p q = counted (length name) p q (parts_count name (ascii "q[") (decimal g.a) (ascii "]") (others g) (ascii ";\n") (gate-shown g e))
