-- What is read can be written: each gate is formed, has a name and words of 32 bits from the token on that names it.
use mathlib.Core.Path.{◌≡◌, refl, sym, ap, ◌∙◌, subst}
use mathlib.Core.Bool.{Bool, true, false, cond, ◌&&◌, true≢false}
use mathlib.Core.List.{List, [], ◌∷◌, ◌++◌, foldl}
use Prim.Native.Nat.{ℕ, zero, suc, ◌+◌, ◌-◌, ◌%◌, ◌≤◌}
use native.Mathlib.Omega.{arith}
use lib.Dec.{eqb, leb}
use lib.ListN.{length, get_or, drop, set}
use lib.Seq.{drop-set-lt}
use borrow.Author.Tests.{leb-true, eq-eqb}
use Rattle.algebra.specs.Lists.{All, every, filter_by, concat_map}
use Rattle.algebra.proofs.Lists.{every-all, filter_all}
use Rattle.algebra.proofs.Tests.{and_split}
use Rattle.verdict.specs.declared.Refusal.TheVariants.{BadText}
use Rattle.gate.specs.Gate.{Gate, gate, gate_size, gates_of, measure, rz, last_kind, arity, formed}
use Rattle.text.specs.Ascii.{ascii}
use Rattle.text.specs.Decimal.{max_digits, is_digit, value, max_number, is_number}
use Rattle.qasm.specs.Tokens.{same, is_blank, run, begins, Token, tokens, is_index}
use Rattle.qasm.specs.Forms.{Piece, fixed, fresh, size, register, index, header, declared, Entry, table}
use Rattle.qasm.specs.Reading.{Seen, State, due, fault, fits, taken, wrong, named, opened, may_declare, step, start, Outcome, circuit, refused, ended, read_from}
use Rattle.qasm.specs.Writing.{words}
use Rattle.qasm.specs.Claims.{is_named, writable, small, Circuit, Sound}
use Rattle.qasm.proofs.Gates.{words-length, gates_back, every_append, every_concat}
use Rattle.qasm.proofs.Lines.{put}

-- ---- one gate
abbrev good : Gate → Bool
good g = formed g && (is_named g && small (words g))

-- word w names a qubit or a bit of a gate of this kind
abbrev reaches : ℕ → ℕ → Bool
reaches kind w = leb w (cond (eqb kind measure) 2 (arity kind))

abbrev usable : ℕ → Piece → Bool
usable kind (fixed bs) = true
usable kind (fresh r) = true
usable kind (size r) = true
usable kind (register r) = true
usable kind (index w) = leb 1 w && (leb w 3 && reaches kind w)

small-set : (v : ℕ) → leb v max_number ≡ true → (ws : List ℕ) (i : ℕ) → small ws ≡ true → small (set ws i v) ≡ true
small-set v few [] i e = refl
small-set v few (w ∷ ws) zero e = let (p, q) = and_split (leb w max_number) (small ws) e in λ j. few j && q j
small-set v few (w ∷ ws) (suc i) e = let (p, q) = and_split (leb w max_number) (small ws) e in λ j. p j && small-set v few ws i q j

-- words past those that are used
keeps : (m : Bool) (n i v a b c : ℕ) → i ≤ 2 → leb (suc i) (cond m 2 n) ≡ true
    → cond m (get_or (set (a ∷ b ∷ c ∷ []) i v) 2 0 ∷ []) (drop n (set (a ∷ b ∷ c ∷ []) i v)) ≡ cond m (c ∷ []) (drop n (a ∷ b ∷ c ∷ []))
keeps true n zero v a b c h e = refl
keeps true n (suc zero) v a b c h e = refl
keeps true n (suc (suc i)) v a b c h e = absurd (omega (arith, leb-true (suc (suc (suc i))) 2 e))
keeps false n i v a b c h e = drop-set-lt n (a ∷ b ∷ c ∷ []) i v (leb-true (suc i) n e)

-- the gate g with v for one word that it uses
record With (g : Gate) (w v : ℕ) : Type 0 where
  pub gate : Gate
  pub is : set (words g) w v ≡ words gate
  pub kind : gate.kind ≡ g.kind
  pub right : good gate ≡ true

module _ (g : Gate) (v : ℕ) (ok : good g ≡ true) (few : leb v max_number ≡ true) where
  abbrev like : List ℕ → List ℕ → Bool
  like free ws = (leb g.kind last_kind && (cond (eqb g.kind rz) (leb g.k 8) (eqb g.k 0) && every (λ (w : ℕ). eqb w 0) free)) && (is_named g && small ws)

  stays : (i : ℕ) → i ≤ 2 → reaches g.kind (suc i) ≡ true
      → like (cond (eqb g.kind measure) (get_or (set (g.a ∷ g.b ∷ g.c ∷ []) i v) 2 0 ∷ []) (drop (arity g.kind) (set (g.a ∷ g.b ∷ g.c ∷ []) i v))) (set (words g) (suc i) v) ≡ true
  stays i h e =
      let (f, rest) = and_split (formed g) (is_named g && small (words g)) ok in
      let (n, s) = and_split (is_named g) (small (words g)) rest in
      ap (λ (free : List ℕ). like free (set (words g) (suc i) v)) (keeps (eqb g.kind measure) (arity g.kind) i v g.a g.b g.c h e)
      ∙ (λ j. f j && (n j && small-set v few (words g) (suc i) s j))

  with_word : (w : ℕ) → usable g.kind (index w) ≡ true → With g w v
  with_word zero e = absurd (true≢false (sym e))
  with_word (suc zero) e = record { gate = gate g.kind v g.b g.c g.k; is = refl; kind = refl; right = stays 0 (omega arith) e }
  with_word (suc (suc zero)) e = record { gate = gate g.kind g.a v g.c g.k; is = refl; kind = refl; right = stays 1 (omega arith) e }
  with_word (suc (suc (suc zero))) e = record { gate = gate g.kind g.a g.b v g.k; is = refl; kind = refl; right = stays 2 (omega arith) e }
  with_word (suc (suc (suc (suc w)))) e =
      let (p, q) = and_split (leb 1 (suc (suc (suc (suc w))))) _ e in
      absurd (omega (arith, leb-true (suc (suc (suc (suc w)))) 3 (and_split (leb (suc (suc (suc (suc w)))) 3) _ q).0))

-- ---- the words of many
record Many (ws : List ℕ) : Type 0 where
  pub gates : List Gate
  pub is : ws ≡ concat_map words gates
  pub right : every good gates ≡ true

many_append : (ws : List ℕ) (g : Gate) → Many ws → good g ≡ true → Many (ws ++ words g)
many_append ws g m e = record {
  gates = m.gates ++ (g ∷ []);
  is = ap (λ (vs : List ℕ). vs ++ words g) m.is ∙ sym (concat_snoc m.gates);
  right = every_append good m.gates (g ∷ []) ∙ (λ j. m.right j && (e j && true));
}
  where
    concat_snoc : (gs : List Gate) → concat_map words (gs ++ (g ∷ [])) ≡ concat_map words gs ++ words g
    concat_snoc [] = refl
    concat_snoc (h ∷ gs) = ap (λ (vs : List ℕ). words h ++ vs) (concat_snoc gs)

-- the words ws, where these pieces are due: an index goes into the last gate
data Held : List Piece → List ℕ → Type 0 where
  none : {ps : List Piece} {ws : List ℕ} → every (usable (suc last_kind)) ps ≡ true → Many ws → Held ps ws
  last : {ps : List Piece} {ws : List ℕ} (front : List ℕ) (g : Gate) → every (usable g.kind) ps ≡ true → Many front → good g ≡ true → ws ≡ front ++ words g → Held ps ws

closed : {ps : List Piece} {ws : List ℕ} → Held ps ws → Many ws
closed (none u m) = m
closed (last front g u m e is) = subst Many (sym is) (many_append front g m e)

passed : {p : Piece} {ps : List Piece} {ws : List ℕ} → Held (p ∷ ps) ws → Held ps ws
passed {p} {ps} (none u m) = none (and_split (usable (suc last_kind) p) (every (usable (suc last_kind)) ps) u).1 m
passed {p} {ps} (last front g u m e is) = last front g (and_split (usable g.kind p) (every (usable g.kind) ps) u).1 m e is

-- no gate's word is due there
idle : {ps qs : List Piece} {ws : List ℕ} → ((kind : ℕ) → every (usable kind) qs ≡ true) → Held ps ws → Held qs ws
idle f h = none (f (suc last_kind)) (closed h)

set_held : (w v : ℕ) (ps : List Piece) (ws : List ℕ) → leb v max_number ≡ true → Held (index w ∷ ps) ws → Held ps (set ws (length ws - gate_size + w) v)
set_held w v ps ws few (none u m) =
    let (p, q) = and_split (usable (suc last_kind) (index w)) (every (usable (suc last_kind)) ps) u in
    let (a, b) = and_split (leb 1 w) (leb w 3 && reaches (suc last_kind) w) p in
    let (c, d) = and_split (leb w 3) (reaches (suc last_kind) w) b in
    absurd (omega (arith, leb-true 1 w a, leb-true w 0 d))
set_held w v ps ws few (last front g u m e is) =
    let (p, q) = and_split (usable g.kind (index w)) (every (usable g.kind) ps) u in
    let r = with_word g v e few w p in
    last front r.gate (ap (λ (kind : ℕ). every (usable kind) ps) r.kind ∙ q) m r.right
    (ap (λ (vs : List ℕ). set vs (length vs - 5 + w) v) is ∙ put front g.kind g.a g.b g.c g.k w v ∙ ap (λ (vs : List ℕ). front ++ vs) r.is)

-- ---- the table's entries
abbrev sound-entry : Entry → Bool
sound-entry e = every (usable e.kind) e.form && good (gate e.kind 0 0 0 0)

entries-sound : (p : Entry → Bool) → All (λ (e : Entry). sound-entry e ≡ true) (filter_by p table)
entries-sound p = filter_all (λ (e : Entry). sound-entry e ≡ true) p table (every-all sound-entry (λ (e : Entry). sound-entry e ≡ true) (λ e h. h) table refl)

-- ---- states
abbrev Right : State → Type 0
Right (due ps s) = (small s.sizes ≡ true) × Held ps s.words
Right (fault v at) = Unit {0}

index-small : (t : Token) → is_index t ≡ true → leb (value t.bytes) max_number ≡ true
unfolding is_number
index-small t e =
    let p = (and_split (is_number t.bytes) _ e).0 in
    let q = (and_split (leb 1 (length t.bytes) && leb (length t.bytes) max_digits) _ p).1 in
    (and_split (every is_digit t.bytes) _ q).1

piece_right : (p : Piece) (ps : List Piece) (s : Seen) (t : Token) → fits p s.names t ≡ true → Right (due (p ∷ ps) s) → Right (due ps (taken p s t))
piece_right (fixed bs) ps s t e (a, h) = (a, passed h)
piece_right (fresh r) ps s t e (a, h) = (a, passed h)
piece_right (size r) ps s t e (a, h) = (small-set (value t.bytes) (index-small t e) s.sizes r a, passed h)
piece_right (register r) ps s t e (a, h) = (a, passed h)
piece_right (index w) ps s t e (a, h) = (a, set_held w (value t.bytes) ps s.words (index-small t e) h)

opened-right : (es : List Entry) (s : Seen) (t : Token) → All (λ (e : Entry). sound-entry e ≡ true) es → Right (due [] s) → Right (opened es s t)
opened-right [] s t g h = tt
opened-right (e ∷ es) s t g (a, h) =
    let (u, v) = and_split (every (usable e.kind) e.form) (good (gate e.kind 0 0 0 0)) g.0 in
    (a, last s.words (gate e.kind 0 0 0 0) u (closed h) v refl)

step_right : (st : State) (t : Token) → Right st → Right (step st t)
step_right (fault v at) t h = tt
step_right (due (p ∷ ps) s) t h = by (fits p s.names t) refl
  where
    by : (c : Bool) → fits p s.names t ≡ c → Right (cond c (due ps (taken p s t)) (fault (wrong p t) t.at))
    by true e = piece_right p ps s t e h
    by false e = tt
step_right (due [] s) t h = by (may_declare s && same (ascii "creg") t.bytes)
  where
    by : (c : Bool) → Right (cond c (due (declared 1) s) (opened (named t) s t))
    by true = (h.0, idle (λ kind. refl) h.1)
    by false = opened-right (named t) s t (entries-sound (λ (e : Entry). same e.name t.bytes)) h

fold_right : (ts : List Token) (st : State) → Right st → Right (foldl step st ts)
fold_right [] st h = h
fold_right (t ∷ ts) st h = fold_right ts (step st t) (step_right st t h)

-- ---- the outcome
abbrev Answer : Outcome → Type 0
Answer (circuit n m ws) = Circuit n m ws
Answer (refused v at) = Unit {0}

many-writable : (ws : List ℕ) → Many ws → (writable ws ≡ true) × (small ws ≡ true)
many-writable ws m =
    let gs = m.gates in
    let back = ap gates_of m.is ∙ gates_back gs in
    let (f, rest) = every-both gs m.right in
    let count : length ws % 5 ≡ 0 = omega (arith, ap length m.is, words-length gs) in (
      (λ i. eq-eqb (length ws % 5) 0 count i && ((ap (every formed) back ∙ f) i && (ap (every is_named) back ∙ rest.0) i)),
      ap small m.is ∙ every_concat (λ (w : ℕ). leb w max_number) words gs ∙ rest.1,
    )
  where
    every-both : (gs : List Gate) → every good gs ≡ true → (every formed gs ≡ true) × ((every is_named gs ≡ true) × (every (λ (g : Gate). small (words g)) gs ≡ true))
    every-both [] e = (refl, (refl, refl))
    every-both (g ∷ gs) e =
        let (h, t) = and_split (good g) (every good gs) e in
        let (a, bc) = and_split (formed g) (is_named g && small (words g)) h in
        let (b, c) = and_split (is_named g) (small (words g)) bc in
        let (fs, (ns, ss)) = every-both gs t in
        ((λ i. a i && fs i), ((λ i. b i && ns i), (λ i. c i && ss i)))

pub size_small : (ms : List ℕ) (i : ℕ) → small ms ≡ true → leb (get_or ms i 0) max_number ≡ true
size_small [] i e = refl
size_small (m ∷ ms) zero e = (and_split (leb m max_number) (small ms) e).0
size_small (m ∷ ms) (suc i) e = size_small ms i (and_split (leb m max_number) (small ms) e).1

ended-right : (n : ℕ) (st : State) → Right st → Answer (ended n st)
ended-right n (fault v at) h = tt
ended-right n (due (p ∷ ps) s) h = tt
ended-right n (due [] s) (a, h) =
    let (w, l) = many-writable s.words (closed h) in
    record { words = w; numbers = λ i. size_small s.sizes 0 a i && (size_small s.sizes 1 a i && l i) }

read_right : (i : ℕ) (t : List ℕ) → Answer (read_from i t)
read_right i t = by (begins header (drop i t))
  where
    after : ℕ
    after = i + length header

    by : (c : Bool) → Answer (cond c (ended (length t) (foldl step start (tokens after 0 (drop after t)))) (refused BadText i))
    by true = ended-right (length t) (foldl step start (tokens after 0 (drop after t))) (fold_right (tokens after 0 (drop after t)) start (refl, none refl (record { gates = []; is = refl; right = refl })))
    by false = tt

pub sound : Sound
sound t n m ws e = subst Answer e (read_right (run is_blank t) t)
