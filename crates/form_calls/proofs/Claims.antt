-- The claims on a channel's words written in a form that keeps less, and read from there.
use Rattle.std.specs.Prelude.{Option, Some, None, is_none, unwrap_or, Ok, Err, is_ok, ⊤}
use mathlib.Core.Path.{◌≡◌, refl, sym, ap, ◌∙◌, subst}
use mathlib.Core.Bool.{Bool, true, false, cond, not, true≢false}
use mathlib.Core.List.{List, [], ◌++◌}
use Prim.Native.Nat.{ℕ, zero, suc, ◌+◌, ◌*◌, ◌<◌, ◌≤◌}
use lib.Dec.{leb}
use lib.ListN.{length, drop, take-append-drop}
use lib.Seq.{sets}
use lib.IntN.{ℤ, nat_abs}
use borrow.Author.Tests.{le-leb}
use Rattle.verdict.specs.declared.Refusal.TheVariants.{ShortBuffer, NotHermitianAt, NotPlainAt}
use Rattle.verdict.specs.Questions.{Verdict}
use Rattle.exact.specs.Exact.{Exact, conj}
use Rattle.channel.specs.Layout.{Form, entries, record_at, side, words, word, dim_at, bits_at, count_at, exp_at, numbers_at, block_at, form_in}
use Rattle.channel.specs.WellFormed.{well_formed_in, well_formed, has_zero_block}
use Rattle.channel.specs.Recast.{recast}
use Rattle.channel.specs.Claims.{Plain, Suits}
use Rattle.channel.specs.Forms.{restores, block_of, Restored}
use Rattle.channel.proofs.Judging.{in_channel}
use Rattle.channel.proofs.Restore.{cell_below}
use Rattle.channel.proofs.Written.{written, written_entry}
use Rattle.channel.proofs.Recast.{recast-written}
use Rattle.channel.proofs.Canonical.{writable, canonical, full_suits, recast_back}
use Rattle.channel.proofs.Deciding.{restores_exactly}
use Rattle.channel.specs.declared.forms.Parts.{Parts}
use Rattle.recast.specs.Words.{size_in, recast_into}
use Rattle.recast.proofs.Whole.{into_is}
use Rattle.form_calls.specs.Calls.{own, fault, refusal, write_verdict, read_verdict, write_result, read_result}
use Rattle.form_calls.specs.Claims.{Read, ReadsBack, Written, WritesBack, along, block_along, FirstUnfit, NamesFirst, Suited, NeverUnfit, Source, FormedExactly}
use Rattle.form_calls.proofs.Answers.{write_by, read_by, none_is, asked, asked-read, write_ready, read_ready}
use Rattle.form_calls.proofs.Walking.{each_fits, no_fault, after, First, fault-first, first-fault}

-- the same entries
suits_same : (F : Form) (x y : ℕ → Exact) → ((k : ℕ) → k < entries F → x k ≡ y k) → Suits F y → Suits F x
suits_same F x y h s = record {
  mirror = λ e r c p q. h (r * F.side + c) (cell_below F r c p q) ∙ s.mirror e r c p q ∙ ap conj (sym (h (c * F.side + r) (cell_below F c r q p)));
  rational = λ k l. subst (λ (z : Exact). Plain F.plain z.num) (sym (h k l)) (s.rational k l);
}

-- ---- a channel, and the form
module _ (f : Parts) (l : List ℤ) where
  abbrev F : Form
  F = own l

  abbrev G : Form
  G = form_in f l

  -- a block that the form restores
  suits_of : (at : ℕ) → restores G (numbers_at F l at) ≡ true → Suits G (block_at F l at).entry
  suits_of at t = (restores_exactly G (numbers_at F l at) (exp_at l at)).0 t

  fits-of : (at : ℕ) → Suits G (block_at F l at).entry → restores G (numbers_at F l at) ≡ true
  fits-of at s = (restores_exactly G (numbers_at F l at) (exp_at l at)).1 s

  right_of : well_formed l ≡ true → well_formed_in F l ≡ true
  right_of e = sym (in_channel l) ∙ e

  -- accepted: the form restores every block
  suited : (res : List ℤ) → is_ok (write_verdict f l res) ≡ true → Suited f l
  suited res e = let q = asked f l res e in record { right = q.0; suits = λ j h. suits_of (record_at F j) (each_fits F G l (right_of q.0) (none_is (fault f l) q.1.1.0) j h) }

  -- taken to the form and back
  there_and_back : Suited f l → (rest : List ℤ) → Restored F G l rest
  there_and_back s rest = recast_back (side (dim_at l)) false false f.half f.plain l (right_of s.right) s.suits rest

  unfaulted : Suited f l → fault f l ≡ None
  unfaulted s = no_fault F G l (right_of s.right) (λ j h. fits-of (record_at F j) (s.suits j h))

  passes : (res : List ℤ) → Suited f l → has_zero_block l ≡ false → size_in G l ≤ length res → is_ok (write_verdict f l res) ≡ true
  passes res s z room = λ i. is_ok (write_by {A = ⊤} tt (s.right i) (not (z i)) (is_none (unfaulted s i)) (le-leb (size_in G l) (length res) room i) (refusal f (unwrap_or (fault f l) 0)))

  left : (res : List ℤ) → is_ok (write_verdict f l res) ≡ true → write_result f l res ≡ recast_into F G l res
  left res e = ap (λ (b : Bool). cond b (recast_into F G l res) res) e

-- ---- words of the form, and the channel that is read from them
module _ (f : Parts) (p : List ℤ) (ok : well_formed_in (form_in f p) p ≡ true) (rest : List ℤ) where
  abbrev H : Form
  H = form_in f p

  abbrev K : Form
  K = own p

  abbrev unpacked : List ℤ
  unpacked = recast H K p ++ rest

  back_and_there : Restored H K p rest
  back_and_there = recast_back (side (dim_at p)) f.half f.plain false false p ok (λ j h. full_suits (side (dim_at p)) (block_of H p j).entry) rest

  -- it is written from the same blocks
  there : recast H K p ≡ words K (dim_at p) (bits_at p) (count_at p) (block_of H p)
  there =
      ap (recast H K) (sym (take-append-drop (size_in H p) p) ∙ ap (λ (q : List ℤ). q ++ drop (size_in H p) p) (canonical H p ok))
      ∙ recast-written (side (dim_at p)) f.half f.plain false false (dim_at p) (bits_at p) (count_at p) (block_of H p) (writable H p ok).suits (drop (size_in H p) p)

  same_suits : (j : ℕ) → j < count_at p → Suits H (block_of K unpacked j).entry
  same_suits j h =
      subst (λ (q : List ℤ). Suits H (block_of K (q ++ rest) j).entry) (sym there)
      (suits_same H (block_of K (written K (dim_at p) (bits_at p) (count_at p) (block_of H p) rest) j).entry (block_of H p j).entry
      (written_entry K (dim_at p) (bits_at p) (count_at p) (block_of H p) rest j h (full_suits (side (dim_at p)) (block_of H p j).entry) ((writable H p ok).lowest j h)) ((writable H p ok).suits j h))

  from-form : Suited f unpacked
  from-form = record { right = in_channel unpacked ∙ back_and_there.right; suits = same_suits }

read_passes : (f : Parts) (p res : List ℤ) → well_formed_in (form_in f p) p ≡ true → size_in (own p) p ≤ length res → is_ok (read_verdict f p res) ≡ true
read_passes f p res ok room = λ i. is_ok (read_by {A = ⊤} tt (ok i) (le-leb (size_in (own p) p) (length res) room i))

-- ---- the claims
pub reads_back : (f : Parts) → ReadsBack f
reads_back f l mid res e room =
    subst (λ (p : List ℤ). Read f l p res) (sym (left f l mid e ∙ into_is (own l) (form_in f l) l mid (write_ready f l mid e).room))
    (by (there_and_back f l (suited f l mid e) (drop (size_in (form_in f l) l) mid)))
  where
    p : List ℤ
    p = recast (own l) (form_in f l) l ++ drop (size_in (form_in f l) l) mid

    by : Restored (own l) (form_in f l) l (drop (size_in (form_in f l) l) mid) → Read f l p res
    by r =
        let t = read_passes f p res r.right room in
        record { passes = t; words = ap (λ (b : Bool). cond b (recast_into (form_in f p) (own p) p res) res) t ∙ ap (sets res 0) r.back }

pub writes_back : (f : Parts) → WritesBack f
writes_back f p mid res e z room =
    subst (λ (l : List ℤ). Written f p l res) (sym is)
    (let t = passes f (unpacked f p ok rest) res (from-form f p ok rest) (subst (λ (l : List ℤ). has_zero_block l ≡ false) is z) room in
    record { passes = t; words = left f (unpacked f p ok rest) res t ∙ ap (sets res 0) (back_and_there f p ok rest).back })
  where
    ok : well_formed_in (form_in f p) p ≡ true
    ok = (asked-read f p mid e).0

    rest : List ℤ
    rest = drop (size_in (own p) p) mid

    is : read_result f p mid ≡ unpacked f p ok rest
    is = ap (λ (b : Bool). cond b (recast_into (form_in f p) (own p) p mid) mid) e ∙ into_is (form_in f p) (own p) p mid (read_ready f p mid e).room

pub never_unfit : (f : Parts) → NeverUnfit f
never_unfit f l res s z room = passes f l res s z room

pub formed_exactly : (f : Parts) → FormedExactly f
formed_exactly f p = (there_is, back_is)
  where
    there_is : well_formed_in (form_in f p) p ≡ true → Source f p
    there_is ok = record { channel = unpacked f p ok []; suited = from-form f p ok []; words = sym (back_and_there f p ok []).back }

    back_is : Source f p → well_formed_in (form_in f p) p ≡ true
    back_is s =
        subst (λ (q : List ℤ). well_formed_in (form_in f q) q ≡ true) (sym (sym (take-append-drop (size_in (form_in f p) p) p) ∙ ap (λ (q : List ℤ). q ++ drop (size_in (form_in f p) p) p) s.words))
        (there_and_back f s.channel s.suited (drop (size_in (form_in f p) p) p)).right

-- ---- the block that is named
named : (o : Option ℕ) (b h : Bool) (i : ℕ)
    → ◌≡◌ {A = Verdict} (cond (is_none o) (cond b (Ok tt) (Err ShortBuffer)) (Err (cond h (NotHermitianAt (unwrap_or o 0)) (NotPlainAt (unwrap_or o 0))))) (Err (cond h (NotHermitianAt i) (NotPlainAt i))) → o ≡ Some i
named None true true i e = absurd (cc)
named None true false i e = absurd (cc)
named None false true i e = absurd (cc)
named None false false i e = absurd (cc)
named (Some k) b true i e = cc
named (Some k) b false i e = cc

after_is : (F G : Form) (l : List ℤ) (i : ℕ) → after F G l (nat_abs (word l 3)) i ≡ along l i
after_is F G l zero = refl
after_is F G l (suc i) = ap (λ (a : ℕ). nat_abs (word l a)) (after_is F G l i)

pub names_first : (f : Parts) → NamesFirst f
names_first f l res s i = (there_is, back_is)
  where
    F : Form
    F = own l

    G : Form
    G = form_in f l

    room : Bool
    room = leb (size_in G l) (length res)

    known : write_verdict f l res ≡ cond (is_none (fault f l)) (cond room (Ok tt) (Err ShortBuffer)) (Err (refusal f (unwrap_or (fault f l) 0)))
    known = λ j. write_by {A = ⊤} tt (s.right j) (not (s.full j)) (is_none (fault f l)) room (refusal f (unwrap_or (fault f l) 0))

    fit_at : (j : ℕ) → restores G (numbers_at F l (after F G l (nat_abs (word l 3)) j)) ≡ true → Suits G (block_along l j).entry
    fit_at j t = suits_of f l (along l j) (ap (λ (a : ℕ). restores G (numbers_at F l a)) (sym (after_is F G l j)) ∙ t)

    there_is : write_verdict f l res ≡ Err (refusal f i) → FirstUnfit G l i
    there_is e =
        let q = named (fault f l) room f.half i (sym known ∙ e) in
        let r = fault-first F G l (count_at l) (nat_abs (word l 3)) i q in
        record {
          below = r.0;
          unfit = λ u. true≢false (sym (fits-of f l (along l i) u) ∙ ap (λ (a : ℕ). restores G (numbers_at F l a)) (sym (after_is F G l i)) ∙ r.1.unfit);
          fit = λ j v. fit_at j (r.1.fit j v);
        }

    back_is : FirstUnfit G l i → write_verdict f l res ≡ Err (refusal f i)
    back_is r = known ∙ (λ j. cond (is_none (is j)) (cond room (Ok tt) (Err ShortBuffer)) (Err (refusal f (unwrap_or (is j) 0))))
      where
        first : First F G l (nat_abs (word l 3)) i
        first = record { unfit = go (restores G (numbers_at F l (after F G l (nat_abs (word l 3)) i))) refl; fit = λ j h. ap (λ (a : ℕ). restores G (numbers_at F l a)) (after_is F G l j) ∙ fits-of f l (along l j) (r.fit j h) }
          where
            go : (b : Bool) → restores G (numbers_at F l (after F G l (nat_abs (word l 3)) i)) ≡ b → restores G (numbers_at F l (after F G l (nat_abs (word l 3)) i)) ≡ false
            go true t = absurd (r.unfit (fit_at i t))
            go false t = t

        is : fault f l ≡ Some i
        is = first-fault F G l (count_at l) (nat_abs (word l 3)) i first r.below
