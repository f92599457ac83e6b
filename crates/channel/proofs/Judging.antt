-- Judged records: what a verdict says of the test behind it, and where the records of a well-formed channel lie.
use Rattle.std.specs.Prelude.{Option, Some, None, Ok, Err, is_ok}
use mathlib.Core.Path.{◌≡◌, refl, sym, ap, ◌∙◌, subst}
use mathlib.Core.Bool.{Bool, true, false, ◌&&◌, ◌||◌, true≢false}
use mathlib.Core.List.{List}
use Prim.Native.Nat.{ℕ, suc, ◌+◌, ◌*◌, ◌-◌, ◌/◌, ◌<◌, ◌≤◌}
use native.Mathlib.Omega.{arith}
use native.Mathlib.Nat.{le-div_iff_mul-le}
use lib.Dec.{leb}
use lib.ListN.{length}
use borrow.Author.Tests.{leb-true}
use lib.IntN.{ℤ, pos, nat_abs}
use Rattle.algebra.specs.Words.{eqℤ, up_to}
use Rattle.algebra.proofs.Tests.{and_split}
use Rattle.verdict.specs.Questions.{Verdict}
use Rattle.verdict.specs.declared.Refusal.TheVariants.{Malformed}
use Rattle.channel.specs.declared.forms.Parts.{Parts}
use Rattle.channel.specs.Layout.{Form, channels, form_in, form_of, header_size, record_size, record_at, side, word, store_at, dim_at, bits_at, count_at}
use Rattle.channel.specs.declared.Shape.{Shape}
use Rattle.verdict.specs.declared.Refusal.{Refusal}
use Rattle.channel.specs.WellFormed.{is_dim, is_start, record_ok, chain_ok, header_ok, chained, well_formed_in, well_formed, has_zero_block, verdict_by, form_verdict}
use Rattle.channel.specs.Inner.Shapes.{when, blank, some_blank, Room, shape_at, shape_by, shape_of, header_of}
use Rattle.store.proofs.Words.{up-abs}
use Rattle.channel.proofs.Words.{dim_range, square_small}

-- what a value that is there says of the test behind it, and one that is not
pub there : {A : Type 0} (b : Bool) (x : A) {y : A} {r : Option A} → r ≡ when b x → r ≡ Some y → (b ≡ true) × (y ≡ x)
there true x e f = (refl, cc)
there false x e f = absurd (cc)

pub lacking : {A : Type 0} (b : Bool) (x : A) {r : Option A} → r ≡ when b x → r ≡ None → b ≡ false
lacking true x e f = absurd (cc)
lacking false x e f = refl

-- ---- one step along the chain
module _ (F : Form) (l : List ℤ) (m count n : ℕ) (z : ℤ) (first : Bool) (prev : ℕ) (h : 0 < n) where
  abbrev pub rest : Bool
  rest = chain_ok F l m count (n - 1) (word l (nat_abs z)) false (store_at l (nat_abs z))

  pub step : chain_ok F l m count n z first prev ≡ (is_start F count z && (record_ok F l m (nat_abs z) first prev && rest))
  unfolding chain_ok
  step = let e : n ≡ suc (n - 1) = omega arith in ap (λ (k : ℕ). chain_ok F l m count k z first prev) e

  pub no_record : is_start F count z ≡ true → record_ok F l m (nat_abs z) first prev ≡ false → chain_ok F l m count n z first prev ≡ false
  no_record e f = step ∙ (λ i. e i && (f i && rest))

  pub goes_on : is_start F count z ≡ true → record_ok F l m (nat_abs z) first prev ≡ true → chain_ok F l m count n z first prev ≡ rest
  goes_on e f = step ∙ (λ i. e i && (f i && rest))

  -- what a chain that is right says of its first record
  pub chain-start : chain_ok F l m count n z first prev ≡ true → is_start F count z ≡ true
  chain-start e = (and_split (is_start F count z) _ (sym step ∙ e)).0

  pub chain_record : chain_ok F l m count n z first prev ≡ true → record_ok F l m (nat_abs z) first prev ≡ true
  chain_record e = (and_split (record_ok F l m (nat_abs z) first prev) _ (and_split (is_start F count z) _ (sym step ∙ e)).1).0

  pub chain-rest : chain_ok F l m count n z first prev ≡ true → rest ≡ true
  chain-rest e = (and_split (record_ok F l m (nat_abs z) first prev) _ (and_split (is_start F count z) _ (sym step ∙ e)).1).1

or_assoc : (a b c : Bool) → (a || (b || c)) ≡ ((a || b) || c)
or_assoc true b c = refl
or_assoc false b c = refl

or_end : (a : Bool) → (a || false) ≡ a
or_end true = refl
or_end false = refl

-- whether a block is blank, one block further along the chain
blank-step : (F : Form) (l : List ℤ) (n at : ℕ) → 0 < n → some_blank F l n at ≡ (blank F l at || some_blank F l (n - 1) (nat_abs (word l at)))
blank-step F l n at h = let e : n ≡ suc (n - 1) = omega arith in ap (λ (k : ℕ). some_blank F l k at) e

pub chain-end : (F : Form) (l : List ℤ) (m count n : ℕ) (z : ℤ) (first : Bool) (prev : ℕ) → n ≤ 0 → chain_ok F l m count n z first prev ≡ eqℤ z (pos 0)
unfolding chain_ok
chain-end F l m count n z first prev h = let e : n ≡ 0 = omega arith in ap (λ (k : ℕ). chain_ok F l m count k z first prev) e

-- what is found, `left` records from index z on, where `b` tells whether one before them is blank
module _ (F : Form) (l : List ℤ) (m count left : ℕ) where
  abbrev pub chain_found : ℤ → Bool → ℕ → Bool → Option Bool
  chain_found z first prev b = when (chain_ok F l m count left z first prev) (b || some_blank F l left (nat_abs z))

  pub refused : (z : ℤ) (first : Bool) (prev : ℕ) (b : Bool) → chain_ok F l m count left z first prev ≡ false → chain_found z first prev b ≡ None
  refused z first prev b e = ap (λ (t : Bool). when t (b || some_blank F l left (nat_abs z))) e

  pub further : (z : ℤ) (first : Bool) (prev : ℕ) (b : Bool) → 0 < left → is_start F count z ≡ true → record_ok F l m (nat_abs z) first prev ≡ true
      → chain_found z first prev b ≡ when (chain_ok F l m count (left - 1) (word l (nat_abs z)) false (store_at l (nat_abs z))) ((b || blank F l (nat_abs z)) || some_blank F l (left - 1) (nat_abs (word l (nat_abs z))))
  further z first prev b h e f =
      λ i. when (goes_on F l m count left z first prev h e f i)
      ((ap (λ (t : Bool). b || t) (blank-step F l left (nat_abs z) h) ∙ or_assoc b (blank F l (nat_abs z)) (some_blank F l (left - 1) (nat_abs (word l (nat_abs z))))) i)

  pub ended : (z : ℤ) (first : Bool) (prev : ℕ) (b ends : Bool) → left ≤ 0 → eqℤ z (pos 0) ≡ ends → chain_found z first prev b ≡ when ends b
  ended z first prev b ends h e =
      let n : left ≡ 0 = omega arith in
      λ i. when ((chain-end F l m count left z first prev h ∙ e) i) ((ap (λ (k : ℕ). b || some_blank F l k (nat_abs z)) n ∙ or_end b) i)

-- ---- the header
-- what a right header says
pub record HeadedIn (F : Form) (l : List ℤ) : Type 0 where
  pub dim : is_dim (word l 0) ≡ true
  pub some : 1 ≤ dim_at l
  pub small : dim_at l ≤ 16
  pub few : bits_at l ≤ 64
  pub inside : header_size + count_at l * record_size F ≤ length l

pub headed_in : (F : Form) (l : List ℤ) → header_ok F l ≡ true → HeadedIn F l
headed_in F l e =
    let t = and_split (leb header_size (length l)) _ e in
    let u = and_split (is_dim (word l 0) && up_to 64 (word l 1)) _ t.1 in
    let v = and_split (is_dim (word l 0)) _ u.0 in
    let d = dim_range (word l 0) v.0 in
    record {
      dim = v.0;
      some = d.1;
      small = up-abs 16 (word l 0) d.0;
      few = up-abs 64 (word l 1) v.1;
      inside = fit (record_size F) (count_at l) (length l) (omega arith) (leb-true header_size (length l) t.0) (up-abs _ (word l 2) u.1);
    }
  where
    fit : (s n k : ℕ) → 1 ≤ s → header_size ≤ k → n ≤ (k - header_size) / s → header_size + n * s ≤ k
    fit s n k p h q = let r = (le-div_iff_mul-le p).0 q in omega arith

-- room for the records that the right header of a channel announces
pub record HeadRoom (l : List ℤ) : Type 0 where
  pub width : side (dim_at l) ≤ 256
  pub few : bits_at l ≤ 64
  pub inside : record_at (channels (dim_at l)) (count_at l) ≤ length l

pub record Headed (l : List ℤ) : Type 0 where
  pub some : 1 ≤ dim_at l
  pub small : dim_at l ≤ 16
  pub room : HeadRoom l

pub headed : (l : List ℤ) → header_ok (channels (dim_at l)) l ≡ true → Headed l
headed l e =
    let h = headed_in (channels (dim_at l)) l e in
    record { some = h.some; small = h.small; room = record { width = square_small (dim_at l) h.small; few = h.few; inside = h.inside } }

-- what a verdict says of its two tests
pub verdict_test : (b : Bool) → is_ok (verdict_by b false) ≡ b
verdict_test true = refl
verdict_test false = refl

pub verdict_right : (b z : Bool) → is_ok (verdict_by b z) ≡ true → (b ≡ true) × (z ≡ false)
verdict_right true true e = absurd (true≢false (sym e))
verdict_right true false e = (refl, refl)
verdict_right false z e = absurd (true≢false (sym e))

-- a channel that is accepted
module _ (l : List ℤ) (e : is_ok (form_verdict l) ≡ true) where
  pub form-right : well_formed l ≡ true
  form-right = (verdict_right (well_formed l) (has_zero_block l) e).0

  pub form-full : has_zero_block l ≡ false
  form-full = (verdict_right (well_formed l) (has_zero_block l) e).1

-- what a shape, or a refusal in its place, says of the verdict that it goes with
pub shape-yes : (v : Verdict) (l : List ℤ) {h : Shape} → Ok h ≡ shape_by v l → (v ≡ Ok tt) × (h ≡ shape_at l)
shape-yes (Ok x) l e = (refl, cc)
shape-yes (Err r) l e = absurd (cc)

pub shape_no : (v : Verdict) (l : List ℤ) {r : Refusal} → Err r ≡ shape_by v l → v ≡ Err r
shape_no (Ok x) l e = absurd (cc)
shape_no (Err s) l e = cc

-- words that are well formed in a form: their header, and their chain
module _ (F : Form) (l : List ℤ) where
  pub well_formed_lem : (b : Bool) → header_ok F l ≡ true → chained F l ≡ b → well_formed_in F l ≡ b
  unfolding well_formed_in
  well_formed_lem b e f = λ i. e i && f i

  pub formed_in : well_formed_in F l ≡ true → HeadedIn F l × (chained F l ≡ true)
  unfolding well_formed_in
  formed_in e = let t = and_split (header_ok F l) (chained F l) e in (headed_in F l t.0, t.1)

-- a channel is in its own form
pub in_channel : (l : List ℤ) → well_formed l ≡ well_formed_in (channels (dim_at l)) l
unfolding well_formed
in_channel l = refl

-- the verdict, by the header and what is found along the chain
module _ (l : List ℤ) where
  pub bad_header : header_ok (channels (dim_at l)) l ≡ false → form_verdict l ≡ (Err Malformed)
  unfolding well_formed well_formed_in
  bad_header e = ap (λ (b : Bool). verdict_by (b && chained (channels (dim_at l)) l) (has_zero_block l)) e

  pub form-along : header_ok (channels (dim_at l)) l ≡ true → form_verdict l ≡ verdict_by (chained (channels (dim_at l)) l) (has_zero_block l)
  unfolding well_formed well_formed_in
  form-along e = ap (λ (b : Bool). verdict_by (b && chained (channels (dim_at l)) l) (has_zero_block l)) e

-- the header of words of a form, or its refusal
module _ (f : Parts) (l : List ℤ) where
  pub header_is : {h : Shape} → Ok h ≡ header_of f l → (header_ok (form_in f l) l ≡ true) × (h ≡ shape_at l)
  header_is e = let q = shape-yes (verdict_by (header_ok (form_in f l) l) false) l e in (sym (verdict_test (header_ok (form_in f l) l)) ∙ ap is_ok q.0, q.1)

  pub header-no : {r : Refusal} → Err r ≡ header_of f l → (header_ok (form_in f l) l ≡ false) × (r ≡ Malformed)
  header-no {r} e = by (header_ok (form_in f l) l) refl (shape_no (verdict_by (header_ok (form_in f l) l) false) l e)
    where
      by : (b : Bool) → header_ok (form_in f l) l ≡ b → verdict_by b false ≡ Err r → (b ≡ false) × (r ≡ Malformed)
      by true p q = absurd (cc)
      by false p q = (refl, cc)

  module _ {h : Shape} (e : Ok h ≡ header_of f l) where
    headed_there : HeadedIn (form_in f l) l
    headed_there = headed_in (form_in f l) l (header_is e).0

    pub room_there : Room (form_of (h.dim * h.dim) f) l h.bits h.count
    room_there = subst (λ (s : Shape). Room (form_of (s.dim * s.dim) f) l s.bits s.count) (sym (header_is e).1) (record { few = headed_there.few; inside = headed_there.inside })

-- a well-formed channel: its header, and its chain
pub record Formed (l : List ℤ) : Type 0 where
  pub head : Headed l
  pub chain : chained (channels (dim_at l)) l ≡ true

pub formed : (l : List ℤ) → well_formed l ≡ true → Formed l
unfolding well_formed well_formed_in
formed l e = let t = and_split (header_ok (channels (dim_at l)) l) (chained (channels (dim_at l)) l) e in record { head = headed l t.0; chain = t.1 }

-- a channel that is judged well: its header
pub record Passed (l : List ℤ) (h : Shape) : Type 0 where
  pub verdict : form_verdict l ≡ Ok tt
  pub right : well_formed l ≡ true
  pub is : h ≡ shape_at l
  pub narrow : h.dim ≤ 16
  pub few : h.bits ≤ 64

pub passed_is : (l : List ℤ) {h : Shape} → Ok h ≡ shape_of l → Passed l h
passed_is l e =
    let q = shape-yes (form_verdict l) l e in
    let w = form-right l (ap is_ok q.0) in
    let r = (formed l w).head.room in
    record {
      verdict = q.0;
      right = w;
      is = q.1;
      narrow = subst (λ (h : Shape). h.dim ≤ 16) (sym q.1) (formed l w).head.small;
      few = subst (λ (h : Shape). h.bits ≤ 64) (sym q.1) r.few;
    }
