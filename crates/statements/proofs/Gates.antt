-- A text that is read has as many gates as were read from it.
use mathlib.Core.Path.{◌≡◌, refl, sym, ap, ◌∙◌, subst}
use mathlib.Core.Bool.{Bool, true, false, cond, not, ◌&&◌, ◌||◌, true≢false}
use mathlib.Core.List.{List, [], ◌∷◌, foldl}
use Prim.Native.Nat.{ℕ, zero, suc, ◌+◌, ◌*◌, ◌-◌}
use native.Mathlib.Omega.{arith}
use lib.ListN.{length, get_or, drop, set, length-set, length-append}
use Rattle.algebra.specs.Lists.{All}
use Rattle.algebra.proofs.Lists.{every-all, filter_all, filter_true}
use Rattle.algebra.proofs.Tests.{and_split}
use Rattle.verdict.specs.declared.Refusal.TheVariants.{BadText}
use Rattle.gate.specs.Gate.{gate_size}
use Rattle.text.specs.Ascii.{ascii}
use Rattle.text.specs.Decimal.{is_number, value}
use Rattle.qasm.specs.Tokens.{same, is_blank, is_small, run, begins, Token, tokens, token, is_index}
use Rattle.qasm.specs.Forms.{Piece, fixed, fresh, size, register, index, header, declared, Entry, table}
use Rattle.qasm.specs.Reading.{Seen, State, due, fault, fits, taken, wrong, named, opened, may_declare, step, start, Outcome, circuit, refused, ended, read_from}
use Rattle.qasm.proofs.Same.{same_true}
use Rattle.statements.specs.Statements.{opens, declares, of_gates, gate_tokens}
use Rattle.statements.specs.Claims.{Counted}
use Rattle.statements.proofs.Counting.{gates-first}

-- ---- semicolons
abbrev ends : List ℕ → Bool
ends bs = same (ascii ";") bs

-- what passes a test that a semicolon fails is none
no_end : (p : List ℕ → Bool) → p (ascii ";") ≡ false → (bs : List ℕ) → p bs ≡ true → ends bs ≡ false
no_end p f bs e = by (ends bs) refl
  where
    by : (c : Bool) → ends bs ≡ c → c ≡ false
    by true q = absurd (true≢false (sym e ∙ sym (ap p (same_true (ascii ";") bs q)) ∙ f))
    by false q = refl

number_no_end : (bs : List ℕ) → is_index (token 0 bs) ≡ true → ends bs ≡ false
unfolding is_number
number_no_end bs e = no_end (λ (bs : List ℕ). is_index (token 0 bs)) refl bs e

-- no register is named so
abbrev Plain : List (List ℕ) → Type 0
Plain names = All (λ (n : List ℕ). ends n ≡ false) names

plain_at : (names : List (List ℕ)) (r : ℕ) → Plain names → ends (get_or names r []) ≡ false
plain_at [] r h = refl
plain_at (n ∷ names) zero h = h.0
plain_at (n ∷ names) (suc r) h = plain_at names r h.1

plain-set : (names : List (List ℕ)) (r : ℕ) (bs : List ℕ) → ends bs ≡ false → Plain names → Plain (set names r bs)
plain-set [] r bs e h = tt
plain-set (n ∷ names) zero bs e h = (e, h.1)
plain-set (n ∷ names) (suc r) bs e h = (h.0, plain-set names r bs e h.1)

-- ---- the tokens that open gates
abbrev is_gate : Bool → Token → Bool
is_gate opening t = opening && not (declares t.bytes)

abbrev gates : Bool → List Token → ℕ
gates opening ts = length (of_gates (opens opening ts))

gates-more : (o : Bool) (t : Token) (ts : List Token) → gates o (t ∷ ts) ≡ cond (is_gate o t) 1 0 + gates (ends t.bytes) ts
unfolding opens
gates-more o t ts = ap length (gates-first o t later) ∙ by (is_gate o t)
  where
    later : List Token
    later = opens (ends t.bytes) ts

    by : (c : Bool) → length (cond c (t ∷ of_gates later) (of_gates later)) ≡ cond c 1 0 + length (of_gates later)
    by true = omega arith
    by false = omega arith

-- ---- the pieces that are due: a semicolon closes each statement, and one that they open declares
abbrev closed : Bool → List Piece → Bool
closed o [] = o
closed o (fixed bs ∷ ps) = (not o || declares bs) && closed (ends bs) ps
closed o (fresh r ∷ ps) = not o && closed false ps
closed o (size r ∷ ps) = not o && closed false ps
closed o (register r ∷ ps) = not o && closed false ps
closed o (index w ∷ ps) = not o && closed false ps

abbrev Now : Bool → ℕ → State → Type 0
Now o n (due ps s) = ((closed o ps ≡ true) × Plain s.names) × (length s.words ≡ n)
Now o n (fault v at) = Unit {0}

abbrev Then : Bool → Token → ℕ → State → Type 0
Then o t n st = Now (ends t.bytes) (n + gate_size * cond (is_gate o t) 1 0) st

no_gate : {c : Bool} (n : ℕ) {k : ℕ} → c ≡ false → k ≡ n → k ≡ n + gate_size * cond c 1 0
no_gate n e h = omega (arith, h, ap {B = ℕ} (λ (b : Bool). cond b 1 0) e)

-- a token behind the first of its statement
inner : (o : Bool) (ps : List Piece) (t : Token) (s : Seen) {n : ℕ} → ends t.bytes ≡ false → (not o && closed false ps) ≡ true → Plain s.names → length s.words ≡ n → Then o t n (due ps s)
inner true ps t s e c p w = absurd (true≢false (sym c))
inner false ps t s {n} e c p w = ((ap (λ (b : Bool). closed b ps) e ∙ c, p), no_gate n refl w)

piece_then : (o : Bool) (p : Piece) (ps : List Piece) (s : Seen) (t : Token) (n : ℕ) → fits p s.names t ≡ true → Now o n (due (p ∷ ps) s) → Then o t n (due ps (taken p s t))
piece_then o (fixed bs) ps s t n e ((c, p), w) =
    let is = same_true bs t.bytes e in
    let (d, r) = and_split (not o || declares bs) (closed (ends bs) ps) c in
    ((ap (λ (b : List ℕ). closed (ends b) ps) (sym is) ∙ r, p), no_gate n (by o (declares t.bytes) (ap (λ (b : List ℕ). not o || declares b) (sym is) ∙ d)) w)
  where
    by : (o d : Bool) → not o || d ≡ true → (o && not d) ≡ false
    by true true e = refl
    by true false e = absurd (true≢false (sym e))
    by false d e = refl
piece_then o (fresh r) ps s t n e ((c, p), w) =
    let no = no_end (λ (bs : List ℕ). is_small (get_or bs 0 0)) refl t.bytes (and_split _ _ e).0 in
    inner o ps t (taken (fresh r) s t) no c (plain-set s.names r t.bytes no p) w
piece_then o (size r) ps s t n e ((c, p), w) = inner o ps t (taken (size r) s t) (number_no_end t.bytes e) c p w
piece_then o (register r) ps s t n e ((c, p), w) = inner o ps t s (ap ends (sym (same_true (get_or s.names r []) t.bytes e)) ∙ plain_at s.names r p) c p w
piece_then o (index v) ps s t n e ((c, p), w) = inner o ps t (taken (index v) s t) (number_no_end t.bytes e) c p (length-set s.words (length s.words - gate_size + v) (value t.bytes) ∙ w)

-- ---- the table's names and forms
abbrev right : Entry → Bool
right e = (not (declares e.name) && not (ends e.name)) && closed false e.form

opened-then : (es : List Entry) (s : Seen) (t : Token) (n : ℕ) → All (λ (e : Entry). right e ≡ true) es → All (λ (e : Entry). same e.name t.bytes ≡ true) es → Now true n (due [] s) → Then true t n (opened es s t)
opened-then [] s t n r q h = tt
opened-then (e ∷ es) s t n r q ((c, p), w) =
    let is = same_true e.name t.bytes q.0 in
    let (a, f) = and_split (not (declares e.name) && not (ends e.name)) (closed false e.form) r.0 in
    let (d, z) = and_split (not (declares e.name)) (not (ends e.name)) a in
    let gate : not (declares t.bytes) ≡ true = ap (λ (b : List ℕ). not (declares b)) (sym is) ∙ d in
    let no : ends t.bytes ≡ false = ap ends (sym is) ∙ turn (ends e.name) z in
    ((ap (λ (b : Bool). closed b e.form) no ∙ f, p), omega (arith, length-append s.words (e.kind ∷ 0 ∷ 0 ∷ 0 ∷ 0 ∷ []), w, ap {B = ℕ} (λ (b : Bool). cond b 1 0) gate))
  where
    turn : (b : Bool) → not b ≡ true → b ≡ false
    turn true e = sym e
    turn false e = refl

step_then : (o : Bool) (n : ℕ) (st : State) (t : Token) → Now o n st → Then o t n (step st t)
step_then o n (fault v at) t h = tt
step_then o n (due (p ∷ ps) s) t h = by (fits p s.names t) refl
  where
    by : (c : Bool) → fits p s.names t ≡ c → Then o t n (cond c (due ps (taken p s t)) (fault (wrong p t) t.at))
    by true e = piece_then o p ps s t n e h
    by false e = tt
step_then false n (due [] s) t ((c, p), w) = absurd (true≢false (sym c))
step_then true n (due [] s) t h = by (may_declare s && same (ascii "creg") t.bytes) refl
  where
    test : Entry → Bool
    test e = same e.name t.bytes

    by : (c : Bool) → (may_declare s && same (ascii "creg") t.bytes) ≡ c → Then true t n (cond c (due (declared 1) s) (opened (named t) s t))
    by true e =
        let is = same_true (ascii "creg") t.bytes (and_split (may_declare s) _ e).1 in
        ((ap (λ (b : List ℕ). closed (ends b) (declared 1)) (sym is), h.0.1), no_gate n (ap (λ (b : List ℕ). not (declares b)) (sym is)) h.1)
    by false e = opened-then (named t) s t n (filter_all (λ (e : Entry). right e ≡ true) test table (every-all right (λ (e : Entry). right e ≡ true) (λ e k. k) table refl)) (filter_true test table) h

-- ---- the whole text
abbrev Final : ℕ → State → Type 0
Final n (due ps s) = length s.words ≡ n
Final n (fault v at) = Unit {0}

fold_final : (ts : List Token) (o : Bool) (n : ℕ) (st : State) → Now o n st → Final (gates o ts * gate_size + n) (foldl step st ts)
unfolding opens
fold_final [] o n (due ps s) h = omega (arith, h.1)
fold_final [] o n (fault v at) h = tt
fold_final (t ∷ ts) o n st h =
    let m : ℕ = cond (is_gate o t) 1 0 in
    let same : gates (ends t.bytes) ts * gate_size + (n + gate_size * m) ≡ gates o (t ∷ ts) * gate_size + n = omega (arith, gates-more o t ts) in
    subst (λ (k : ℕ). Final k (foldl step (step st t) ts)) same (fold_final ts (ends t.bytes) (n + gate_size * m) (step st t) (step_then o n st t h))

abbrev Answer : ℕ → Outcome → Type 0
Answer n (circuit q b ws) = n * gate_size ≡ length ws
Answer n (refused v at) = Unit {0}

ended-answer : (n k : ℕ) (st : State) → Final (n * gate_size + 0) st → Answer n (ended k st)
ended-answer n k (fault v at) h = tt
ended-answer n k (due (p ∷ ps) s) h = tt
ended-answer n k (due [] s) h = omega (arith, h)

read_answer : (i : ℕ) (t : List ℕ) → Answer (gates true (tokens (i + length header) 0 (drop (i + length header) t))) (read_from i t)
read_answer i t = by (begins header (drop i t))
  where
    ts : List Token
    ts = tokens (i + length header) 0 (drop (i + length header) t)

    by : (c : Bool) → Answer (gates true ts) (cond c (ended (length t) (foldl step start ts)) (refused BadText i))
    by true = ended-answer (gates true ts) (length t) (foldl step start ts) (fold_final ts true 0 start ((refl, (refl, (refl, tt))), refl))
    by false = tt

pub counted : Counted
counted t n m ws e = subst (Answer (length (gate_tokens t))) e (read_answer (run is_blank t) t)
