-- The reply to a text, and the words that are written, from what was read.
use Rattle.std.specs.Prelude.{Result, Ok, Err, IsOk}
use Rattle.std.specs.List.{starts_with}
use Rattle.std.proofs.lemmas.List.{take_rest}
use mathlib.Core.Path.{◌≡◌, refl, sym, ap, ◌∙◌, subst}
use mathlib.Core.Bool.{Bool, true, false, cond}
use mathlib.Core.List.{List, [], ◌∷◌, foldl}
use Prim.Native.Nat.{ℕ, suc, ◌+◌, ◌-◌, ◌<◌, ◌≤◌}
use native.Mathlib.Omega.{arith}
use lib.Dec.{eqb}
use lib.ListN.{length, take, drop}
use lib.Seq.{sets, take_all}
use borrow.Author.Tests.{eqb-true, le-leb, lt-leb}
use Rattle.verdict.specs.declared.Refusal.{Refusal}
use Rattle.verdict.specs.declared.Refusal.TheVariants.{ShortBuffer, BadText}
use Rattle.qasm.specs.declared.pieces.Piece as code
use Rattle.qasm.specs.declared.steps.Progress.{Progress}
use Rattle.qasm.specs.declared.reader.Reading.{Reading}
use Rattle.qasm.specs.declared.reader.Fault.{Fault}
use Rattle.qasm.specs.Tokens.{same, is_blank, run, begins, Token}
use Rattle.qasm.specs.Forms.{header}
use Rattle.qasm.specs.Reading.{State, due, fault, step, start, Outcome, circuit, refused, ended, read_of, fault_at, reply, filled}
use Rattle.qasm.specs.Inner.Scanning.{from}
use Rattle.qasm.specs.Inner.Pieces.{pieces_of}
use Rattle.qasm.specs.Inner.Progress.{state_of, seen_of, Sees}
use Rattle.qasm.proofs.Same.{same_pointwise}

-- a reply with its words
pub record Replied (l : List ℕ) (o : Outcome) (r : Result Reading Fault) (g : List ℕ) : Type 0 where
  pub reply : r ≡ reply (length l) o
  pub gates : g ≡ filled l o

-- what has no words leaves the buffer as it was
replied_no : (l : List ℕ) {v : Refusal} {at : ℕ} {o : Outcome} → o ≡ refused v at → Replied l o (Err (fault_at v at)) l
replied_no l e = record { reply = ap (reply (length l)) (sym e); gates = ap (filled l) (sym e) }

-- ---- where the header is looked for, behind the blanks of a text t
module _ (t : List ℕ) {i : ℕ} (b : i ≡ run is_blank t) {h : Bool} (e : h ≡ starts_with eqb (take (length t - i) (drop i t)) header) where
  abbrev found : Bool → Outcome
  found c = cond c (ended (length t) (foldl step start (from t (run is_blank t + length header)))) (refused BadText (run is_blank t))

  headed : h ≡ begins header (drop (run is_blank t) t)
  headed =
      e ∙ same_pointwise header (take (length header) (take (length t - i) (drop i t))) ∙ ap (λ (s : List ℕ). same header (take (length header) s)) (take_rest t i)
      ∙ ap (λ (i : ℕ). begins header (drop i t)) b

  -- it is missing
  pub no_header : (l : List ℕ) → h ≡ false → Replied l (read_of t) (Err (fault_at BadText i)) l
  no_header l f = replied_no l (ap found (sym headed ∙ f) ∙ ap (refused BadText) (sym b))

  -- it is there, and the tokens behind it are read
  pub behind : {ts : List Token} → h ≡ true → ts ≡ from t (run is_blank t + length header) → ended (length t) (foldl step start ts) ≡ read_of t
  behind f q = ap (λ (ts : List Token). ended (length t) (foldl step start ts)) q ∙ ap found (sym f ∙ headed)

-- ---- the tokens of a text of n bytes, judged without writing a word
pub judged_fault : (l : List ℕ) (n : ℕ) {f : Fault} {g : List ℕ} {st : State} → Sees [] (Err f) g st → Replied l (ended n st) (Err f) l
judged_fault l n x = replied_no l (ap (ended n) x.is)

-- two readings that say the same state read the same words
same-words : (s : Progress) (ws : List ℕ) (q : Result Progress Fault) (vs : List ℕ) → state_of (Ok s) ws ≡ state_of q vs → IsOk q × (ws ≡ vs)
same-words s ws (Ok q) vs e = (refl, subst Is e refl)
  where
    Is : State → Type 0
    Is (due ps x) = ws ≡ x.words
    Is (fault v at) = ⊥
same-words s ws (Err f) vs e = absurd (cc)

module _ (l : List ℕ) (n : ℕ) {s : Progress} {g : List ℕ} {st : State} (x : Sees [] (Ok s) g st) where
  -- the text ends within a statement
  pub judged_due : false ≡ eqb (length s.due.now) 0 → Replied l (ended n st) (Err (fault_at BadText n)) l
  judged_due e = replied_no l (ap (ended n) x.is ∙ by s.due.now e)
    where
      by : (ps : List code.Piece) → false ≡ eqb (length ps) 0 → ended n (due (pieces_of ps) (seen_of s x.words)) ≡ refused BadText n
      by [] e = absurd (cc)
      by (p ∷ ps) e = refl

  -- a second reading meets no fault
  pub again : {q : Result Progress Fault} {g' : List ℕ} → Sees l q g' st → IsOk q
  again {q} y = (same-words s x.words q y.words (sym x.is ∙ y.is)).0

  module _ (none : true ≡ eqb (length s.due.now) 0) where
    judged : ended n st ≡ circuit s.qubits s.bits x.words
    judged = ap (ended n) x.is ∙ by s.due.now none
      where
        by : (ps : List code.Piece) → true ≡ eqb (length ps) 0 → ended n (due (pieces_of ps) (seen_of s x.words)) ≡ circuit s.qubits s.bits x.words
        by [] e = refl
        by (p ∷ ps) e = let z = eqb-true (suc (length ps)) 0 (sym e) in absurd (omega arith)

    abbrev counted : ℕ → Reading
    counted k = record { qubits = s.qubits; bits = s.bits; words = k }

    abbrev replied : Bool → Result Reading Fault
    replied c = cond c (Ok (counted (length x.words))) (Err (fault_at ShortBuffer 0))

    -- there is no room for the words
    pub judged_short : length l < s.words → Replied l (ended n st) (Err (fault_at ShortBuffer 0)) l
    judged_short h =
        let fit = lt-leb (length x.words) (length l) (omega (arith, h, x.counts.words)) in
        record {
          reply = ap replied (sym fit) ∙ ap (reply (length l)) (sym judged);
          gates = ap (λ (c : Bool). cond c (sets l 0 x.words) l) (sym fit) ∙ ap (filled l) (sym judged);
        }

    -- the second reading writes them
    pub judged_all : s.words ≤ length l → {q : Result Progress Fault} {g' : List ℕ} → Sees l q g' st → Replied l (ended n st) (Ok (counted s.words)) g'
    judged_all h {q} y =
        let k = x.counts.words in
        let few : length x.words ≤ length l = omega (arith, h, k) in
        let fit = le-leb (length x.words) (length l) few in
        record {
          reply = ap (λ (k : ℕ). Ok (counted k)) (sym k) ∙ ap replied (sym fit) ∙ ap (reply (length l)) (sym judged);
          gates =
              y.held ∙ ap (λ (ws : List ℕ). sets l 0 (take (length l) ws)) (sym (same-words s x.words q y.words (sym x.is ∙ y.is)).1)
              ∙ ap (sets l 0) (take_all (length l) x.words few) ∙ ap (λ (c : Bool). cond c (sets l 0 x.words) l) (sym fit) ∙ ap (filled l) (sym judged);
        }
