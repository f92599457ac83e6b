-- One token: what the code's struct says before and after it is what the definition says.
use Rattle.std.specs.Prelude.{Option, Some, None, Ok, Err}
use Rattle.std.proofs.Common.{Bor}
use mathlib.Core.Path.{◌≡◌, refl, sym, ap, ◌∙◌, subst}
use mathlib.Core.Bool.{Bool, true, false, cond, ◌&&◌}
use mathlib.Core.List.{List, [], ◌∷◌, ◌++◌}
use Prim.Native.Nat.{ℕ, ◌+◌, ◌-◌, ◌≤◌}
use native.Mathlib.Omega.{arith}
use lib.Dec.{eqb, leb, ltb}
use lib.ListN.{length, set, length-set, length-append}
use lib.Seq.{sets}
use Rattle.std.proofs.lemmas.List.{length-map}
use borrow.Author.Tests.{leb-true, ltb-true, le-leb}
use Rattle.algebra.specs.Lists.{every}
use Rattle.algebra.proofs.Tests.{and_split}
use Rattle.text.specs.Ascii.{ascii}
use Rattle.text.specs.Decimal.{value}
use Rattle.qasm.specs.declared.steps.Progress.{Progress}
use Rattle.qasm.specs.declared.reader.Fault.{Fault}
use Rattle.qasm.specs.declared.pieces.Piece as code
use Rattle.qasm.specs.Tokens.{same, Token}
use Rattle.qasm.specs.Forms.{Piece, fixed, fresh, size, register, index, Entry, table, declared}
use Rattle.qasm.specs.Reading.{State, due, fault, fits, taken, wrong, unknown, opened, named, step, fault_at}
use Rattle.qasm.specs.Inner.Pieces.{piece_of, pieces_of, entry_named}
use Rattle.qasm.specs.Inner.Progress.{with_word, opened_for, names_of, seen_of, with_due, Took, Sees, Stepped}
use Rattle.qasm.proofs.Named.{entry-passes, opened_by, opened-named}
use Rattle.qasm.proofs.Words.{Held, held_set, held_run}

-- ---- the word that a piece says
word_count : (p : Piece) (t : Token) (n : ℕ) (ws : List ℕ) → length (with_word p t n ws) ≡ length ws
word_count (fixed bs) t n ws = refl
word_count (fresh r) t n ws = refl
word_count (size r) t n ws = refl
word_count (register r) t n ws = refl
word_count (index w) t n ws = length-set ws (n - 5 + w) (value t.bytes)

word_held : (l : List ℕ) {g : List ℕ} (p : Piece) (t : Token) (n : ℕ) (ws : List ℕ) → n ≡ length ws → opened_for n p ≡ true → Held l g ws → Held l (with_word p t n g) (with_word p t (length ws) ws)
word_held l (fixed bs) t n ws e o h = h
word_held l (fresh r) t n ws e o h = h
word_held l (size r) t n ws e o h = h
word_held l (register r) t n ws e o h = h
word_held l {g} (index w) t n ws e o h =
    let (a, b) = and_split (ltb w 5) (leb 5 n) o in
    let low = ltb-true w 5 a in
    let many = leb-true 5 n b in
    ap (λ (k : ℕ). set g (k - 5 + w) (value t.bytes)) e ∙ held_set l ws (length ws - 5 + w) (value t.bytes) (omega arith) h

-- ---- a piece is due
module _ (s : Progress) (g : List ℕ) (t : Token) {p : code.Piece} {ps : List code.Piece} (is : s.due.now ≡ p ∷ ps) where
  abbrev P : Piece
  P = piece_of p

  abbrev then : List ℕ → Bool → State
  then ws c = cond c (due (pieces_of ps) (taken P (seen_of s ws) t)) (fault (wrong P t) t.at)

  stepped-to : {l : List ℕ} {st : State} {c : Bool} → fits P (names_of s) t ≡ c → (x : Sees l (Ok s) g st) → step st t ≡ then x.words c
  stepped-to e x = ap (λ (q : State). step q t) (x.is ∙ ap (λ (ps : List code.Piece). due (pieces_of ps) (seen_of s x.words)) is) ∙ ap (then x.words) e

  -- the piece and those behind it are due behind a gate's name, where they say its words
  before : {l : List ℕ} {st : State} → Sees l (Ok s) g st → (opened_for s.words P ≡ true) × (every (opened_for s.words) (pieces_of ps) ≡ true)
  before x = and_split (opened_for s.words P) (every (opened_for s.words) (pieces_of ps)) (ap (λ (ps : List code.Piece). every (opened_for s.words) (pieces_of ps)) (sym is) ∙ x.counts.opened)

  step_taken : {r : Progress} {g' : List ℕ} → fits P (names_of s) t ≡ true → r.due.now ≡ ps → r.words ≡ s.words
      → ((ws : List ℕ) → seen_of r (with_word P t (length ws) ws) ≡ taken P (seen_of s ws) t) → g' ≡ with_word P t s.words g → Stepped s g t (Ok r) g'
  step_taken {r} {g'} e d n seen w = record {
    few = let a = ap length is in let b = ap length d in omega (arith, a, b, n);
    keeps = λ l st x. let k = x.counts.words in record {
      words = with_word P t (length x.words) x.words;
      is = stepped-to e x ∙ (λ i. due (pieces_of (sym d i)) (sym (seen x.words) i));
      counts = record {
        words = word_count P t (length x.words) x.words ∙ k ∙ sym n;
        opened = (λ i. every (opened_for (n i)) (pieces_of (d i))) ∙ (before x).1;
      };
      held = w ∙ word_held l P t s.words x.words (sym k) (before x).0 x.held;
    };
  }

  -- the token can stand there, where the pieces behind it are due next; or it cannot
  module _ {d : Bor (List code.Piece)} {s2 : Progress} {g' : List ℕ} (q : s2 ≡ with_due s d) where
    pub step_some : {r : Progress} → d.now ≡ ps → Took s2 g P t (Some r) g' → Stepped s g t (Ok r) g'
    step_some {r} n k =
        let e = subst (λ (s2 : Progress). Took s2 g P t (Some r) g') q k in
        step_taken (sym e.fitting) (ap (λ (d : Bor (List code.Piece)). d.now) e.stays.0 ∙ n) e.stays.1 e.seen e.written

    pub step_none : {f : Fault} → f ≡ fault_at (wrong P t) t.at → Took s2 g P t None g' → Stepped s g t (Err f) g'
    step_none {f} w k = let e = subst (λ (s2 : Progress). Took s2 g P t None g') q k in record {
      few = tt;
      keeps = λ l st x. record {
        words = x.words;
        is = stepped-to (sym e.fitting) x ∙ ap (λ (f : Fault). fault f.refusal f.position) (sym w);
        counts = tt;
        held = e.written ∙ x.held;
      };
    }

-- ---- the first token of a statement
-- a gate's form has four pieces and more, and its words are those of a gate
abbrev sound-form : List Piece → Bool
sound-form ps = leb 4 (length ps) && every (opened_for 5) ps

opened-more : (n : ℕ) (ps : List Piece) → every (opened_for 5) ps ≡ true → every (opened_for (n + 5)) ps ≡ true
opened-more n [] e = refl
opened-more n (p ∷ ps) e = let (a, b) = and_split (opened_for 5 p) (every (opened_for 5) ps) e in λ i. by p a i && opened-more n ps b i
  where
    by : (p : Piece) → opened_for 5 p ≡ true → opened_for (n + 5) p ≡ true
    by (fixed bs) e = refl
    by (fresh r) e = refl
    by (size r) e = refl
    by (register r) e = refl
    by (index w) e = λ i. (and_split (ltb w 5) true e).0 i && le-leb 5 (n + 5) (omega arith) i

module _ (s : Progress) (g : List ℕ) (t : Token) (none : s.due.now ≡ []) (no : (eqb (length s.classical.now) 0 && eqb s.words 0) && same (ascii "creg") t.bytes ≡ false) where
  abbrev begun : List ℕ → Bool → State
  begun ws c = cond c (due (declared 1) (seen_of s ws)) (opened (named t) (seen_of s ws) t)

  opens-to : {l : List ℕ} {st : State} → (x : Sees l (Ok s) g st) → step st t ≡ opened_by (entry_named t.bytes table) (seen_of s x.words) t
  opens-to x =
      ap (λ (q : State). step q t) (x.is ∙ ap (λ (ps : List code.Piece). due (pieces_of ps) (seen_of s x.words)) none)
      ∙ ap (begun x.words) (ap (λ (n : ℕ). (eqb (length s.classical.now) 0 && eqb n 0) && same (ascii "creg") t.bytes) x.counts.words ∙ no)
      ∙ opened-named (seen_of s x.words) t table

  pub open_none : {v : Fault} → None ≡ entry_named t.bytes table → v ≡ fault_at (unknown t) t.at → Stepped s g t (Err v) g
  open_none f q = record {
    few = tt;
    keeps = λ l st x. record {
      words = x.words;
      is = opens-to x ∙ ap (λ (o : Option Entry). opened_by o (seen_of s x.words) t) (sym f) ∙ ap (λ (v : Fault). fault v.refusal v.position) (sym q);
      counts = tt;
      held = x.held;
    };
  }

  pub open_gate : {e : Entry} {r : Progress} {g' : List ℕ} → Some e ≡ entry_named t.bytes table → pieces_of r.due.now ≡ e.form → r.words ≡ s.words + 5
      → ((ws : List ℕ) → seen_of r ws ≡ seen_of s ws) → g' ≡ sets g s.words (e.kind ∷ 0 ∷ 0 ∷ 0 ∷ 0 ∷ []) → Stepped s g t (Ok r) g'
  open_gate {e} {r} {g'} f d n seen w =
      let (a, b) = and_split (leb 4 (length e.form)) (every (opened_for 5) e.form) (entry-passes (λ (e : Entry). sound-form e.form) t.bytes table refl f) in
      let long : 4 ≤ length e.form = leb-true 4 (length e.form) a in
      let new : List ℕ = e.kind ∷ 0 ∷ 0 ∷ 0 ∷ 0 ∷ [] in
      record {
        few = let z = ap length none in let y : length r.due.now ≡ length e.form = sym (length-map r.due.now piece_of) ∙ ap length d in omega arith;
        keeps = λ l st x. let k = x.counts.words in record {
          words = x.words ++ new;
          is = opens-to x ∙ ap (λ (o : Option Entry). opened_by o (seen_of s x.words) t) (sym f) ∙ (λ i. due (sym d i) (sym (seen (x.words ++ new)) i));
          counts = record { words = length-append x.words new ∙ ap (λ (m : ℕ). m + 5) k ∙ sym n; opened = (λ i. every (opened_for (n i)) (d i)) ∙ opened-more s.words e.form b };
          held = w ∙ ap (λ (m : ℕ). sets g m new) (sym k) ∙ held_run l new x.words x.held;
        };
      }
