-- Equal blocks have equal words, and the test of what a form restores is right.
use mathlib.Core.Path.{◌≡◌, refl, sym, ap, ap₂, ◌∙◌}
use mathlib.Core.Bool.{Bool, true, false, not, ◌&&◌, ◌||◌, true≢false}
use mathlib.Core.List.{List, [], ◌∷◌}
use Prim.Native.Nat.{ℕ, ◌+◌, ◌*◌, ◌<◌}
use native.Mathlib.Nat.{zero-add}
use native.Mathlib.Omega.{arith}
use lib.ListN.{get_or}
use lib.IntN.{ℤ, pos, nat_abs}
use Rattle.algebra.specs.Quadratic.{conjugate}
use Rattle.algebra.specs.Dyadic.{frac}
use Rattle.algebra.specs.Lists.{all_below}
use Rattle.algebra.specs.Words.{eqℤ, up_to, joined}
use Rattle.algebra.proofs.Tests.{and_split, all-at, all-by}
use Rattle.algebra.proofs.Signed.{eqℤ-true, eqℤ-refl}
use Rattle.algebra.proofs.Blocks.{joined_at}
use Rattle.algebra.proofs.Quadratic.{ℤ√2i}
use Rattle.algebra.proofs.Dyadic.{lowest_is, value_same}
use Rattle.exact.specs.Exact.{Number, Exact, root2, lowest, max_exponent}
use Rattle.exact.proofs.Exact.{exact_halving, conj-lowest}
use Rattle.exact.proofs.Equal.{equal-true, equal_of}
use Rattle.channel.specs.Shared.{shared_ok, shared_fits, is_shared}
use Rattle.channel.specs.Layout.{word, Form, entries, block_size, block_words, numbers_at, shared_at}
use Rattle.channel.specs.WellFormed.{diagonal_ok, block_ok}
use Rattle.channel.specs.Claims.{Plain, Suits}
use Rattle.channel.specs.Forms.{restores, is_conjugate, has_root, Restorable, RestoresExactly, SameWords, SameEntries, WordsDecide}
use Rattle.channel.proofs.Shared.{unique}
use Rattle.channel.proofs.Restore.{restored, block_same, scaled-plain}
use Rattle.channel.proofs.Canonical.{natural, half-zero, read-block, read_plain, mirrored}

-- ---- what a block test says
module _ (F : Form) (l : List ℤ) (a : ℕ) (ok : block_ok F l a ≡ true) where
  exponent : pos (nat_abs (word l (a + 3))) ≡ word l (a + 3)
  exponent = natural max_exponent (word l (a + 3)) (and_split (up_to max_exponent (word l (a + 3))) _ ok).0

  both : (shared_ok (entries F) (shared_at F l a) ≡ true) × (diagonal_ok F (numbers_at F l a) ≡ true)
  both = and_split (shared_ok (entries F) (shared_at F l a)) _ (and_split (up_to max_exponent (word l (a + 3))) _ ok).1

  form_of : is_shared (entries F) (shared_at F l a) ≡ true
  form_of = (and_split (shared_fits (entries F) (shared_at F l a)) _ both.0).1

  restorable : Restorable F (numbers_at F l a)
  restorable = record {
    mirror = mirrored F (λ (i : ℕ). word l (a + 4 + i)) 0 both.1;
    rational = λ k p. read_plain F (λ (i : ℕ). word l (a + 4 + i)) k;
  }

-- word i of a block is that of its numbers
own-word : (F : Form) (l : List ℤ) (a i : ℕ) → i < block_size F → get_or (block_words F (numbers_at F l a)) i (pos 0) ≡ word l (a + 4 + i)
own-word F l a i h =
    ap (λ (ws : List ℤ). get_or ws i (pos 0)) (read-block F (λ (i : ℕ). word l (a + 4 + i)))
    ∙ ap (λ (k : ℕ). get_or (joined (block_size F) (λ (i : ℕ). word l (a + 4 + (0 + i)) ∷ [])) k (pos 0)) place
    ∙ joined_at 1 (λ (i : ℕ). word l (a + 4 + (0 + i)) ∷ []) (λ i. refl) (block_size F) i 0 h (omega arith)
    ∙ ap (λ (k : ℕ). word l (a + 4 + k)) (zero-add i)
  where
    place : i ≡ i * 1 + 0
    place = omega arith

pub words_decide : WordsDecide
words_decide F l a r b p q = (there, back)
  where
    there : SameEntries F l a r b → SameWords F l a r b
    there h =
        let e = (unique (entries F) (shared_at F l a) (shared_at F r b) (form_of F l a p) (form_of F r b q)).0 h in
        record {
          exponent = sym (exponent F l a p) ∙ ap pos e.exp ∙ exponent F r b q;
          numerators = λ i u. sym (own-word F l a i u) ∙ ap (λ (ws : List ℤ). get_or ws i (pos 0)) (block_same F _ _ e.num) ∙ own-word F r b i u;
        }

    back : SameWords F l a r b → SameEntries F l a r b
    back h k u =
        ap₂ lowest (restored F (numbers_at F r b) (restorable F r b q) (λ (i : ℕ). word l (a + 4 + i)) (λ i v. h.numerators i v ∙ sym (own-word F r b i v)) k u) (ap nat_abs h.exponent)

-- ---- the test
module _ (F : Form) (z : ℕ → Number) (e : ℕ) where
  from_test : restores F z ≡ true → Restorable F z
  from_test t = record { mirror = λ h r c p q. mirror h r c p q; rational = λ k p h. rational h k p }
    where
      u : ((not F.half || all_below F.side (λ (r : ℕ). all_below F.side (λ (c : ℕ). is_conjugate (z (r * F.side + c)) (z (c * F.side + r))))) ≡ true)
          × ((not F.plain || all_below (entries F) (λ (k : ℕ). not (has_root (z k)))) ≡ true)
      u = and_split (not F.half || all_below F.side (λ (r : ℕ). all_below F.side (λ (c : ℕ). is_conjugate (z (r * F.side + c)) (z (c * F.side + r))))) _ t

      asked : (a b : Bool) → a ≡ true → (not a || b) ≡ true → b ≡ true
      asked true b h k = k
      asked false b h k = absurd (true≢false (sym h))

      mirror : F.half ≡ true → (r c : ℕ) → r < F.side → c < F.side → z (r * F.side + c) ≡ conjugate root2 (z (c * F.side + r))
      mirror h r c p q =
          ap (λ (x : Exact). x.num)
          (equal-true (frac (z (r * F.side + c)) 0) (frac (conjugate root2 (z (c * F.side + r))) 0)
          (all-at F.side (λ (c : ℕ). is_conjugate (z (r * F.side + c)) (z (c * F.side + r)))
          (all-at F.side (λ (r : ℕ). all_below F.side (λ (c : ℕ). is_conjugate (z (r * F.side + c)) (z (c * F.side + r)))) (asked F.half _ h u.0) r p) c q))

      twice : (b : Bool) → not (not b) ≡ true → b ≡ true
      twice true t = refl
      twice false t = t

      rational : F.plain ≡ true → (k : ℕ) → k < entries F → ((z k).re.im ≡ pos 0) × ((z k).im.im ≡ pos 0)
      rational h k p =
          let v = and_split (eqℤ (z k).re.im (pos 0)) _ (twice _ (all-at (entries F) (λ (k : ℕ). not (has_root (z k))) (asked F.plain _ h u.1) k p)) in
          (eqℤ-true (z k).re.im (pos 0) v.0, eqℤ-true (z k).im.im (pos 0) v.1)

  to_test : Restorable F z → restores F z ≡ true
  to_test m = λ i. first F.half refl i && second F.plain refl i
    where
      first : (b : Bool) → F.half ≡ b → (not b || all_below F.side (λ (r : ℕ). all_below F.side (λ (c : ℕ). is_conjugate (z (r * F.side + c)) (z (c * F.side + r))))) ≡ true
      first false h = refl
      first true h =
          all-by F.side _ (λ r p. all-by F.side (λ (c : ℕ). is_conjugate (z (r * F.side + c)) (z (c * F.side + r)))
          (λ c q. equal_of (frac (z (r * F.side + c)) 0) (frac (conjugate root2 (z (c * F.side + r))) 0) (ap (λ (x : Number). frac x 0) (m.mirror h r c p q))))

      second : (b : Bool) → F.plain ≡ b → (not b || all_below (entries F) (λ (k : ℕ). not (has_root (z k)))) ≡ true
      second false h = refl
      second true h =
          all-by (entries F) (λ (k : ℕ). not (has_root (z k)))
          (λ k p. ap (λ (b : Bool). not (not b)) (λ i. (ap (λ (x : ℤ). eqℤ x (pos 0)) (m.rational k p h).0 ∙ eqℤ-refl (pos 0)) i && (ap (λ (x : ℤ). eqℤ x (pos 0)) (m.rational k p h).1 ∙ eqℤ-refl (pos 0)) i))

  suits_of : Restorable F z → Suits F (λ (k : ℕ). lowest (z k) e)
  suits_of m = record {
    mirror = λ h r c p q. ap (λ (y : Number). lowest y e) (m.mirror h r c p q) ∙ sym (conj-lowest (z (c * F.side + r)) e);
    rational = λ k p h. half-zero (z k) e (m.rational k p h);
  }

  of_suits : Suits F (λ (k : ℕ). lowest (z k) e) → Restorable F z
  of_suits s = record {
    mirror = λ h r c p q. value_same ℤ√2i exact_halving e (z (r * F.side + c)) (conjugate root2 (z (c * F.side + r))) (s.mirror h r c p q ∙ conj-lowest (z (c * F.side + r)) e);
    rational = λ k p. whole k (s.rational k p);
  }
    where
      whole : (k : ℕ) → Plain F.plain (lowest (z k) e).num → Plain F.plain (z k)
      whole k p h =
          let (t, u, v) = lowest_is ℤ√2i exact_halving (z k) e in
          let w = scaled-plain F.plain (lowest (z k) e).num p t h in
          (ap (λ (y : Number). y.re.im) u ∙ w.0, ap (λ (y : Number). y.im.im) u ∙ w.1)

pub restores_exactly : RestoresExactly
restores_exactly F z e = ((λ t. suits_of F z e (from_test F z e t)), λ s. to_test F z e (of_suits F z e s))
