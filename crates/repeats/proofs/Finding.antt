-- First places of the same numbers while they are found.
use mathlib.Core.Path.{◌≡◌, sym, ap, ◌∙◌, subst}
use mathlib.Core.Bool.{true, ◌&&◌}
use mathlib.Core.List.{List}
use Prim.Native.Nat.{ℕ, ◌+◌, ◌*◌, ◌≤◌, ◌<◌}
use native.Mathlib.Decide.{dec_lt}
use native.Mathlib.Omega.{arith}
use lib.Dec.{eqb}
use lib.ListN.{length, get_or, set, length-set}
use lib.Seq.{get_or-set_same, get_or-set_other}
use lib.IntN.{ℤ}
use Rattle.algebra.specs.Dyadic.{frac}
use Rattle.exact.specs.Exact.{Number, Exact}
use Rattle.exact.proofs.Equal.{equal-true}
use Rattle.share.specs.Share.{number_in}
use Rattle.repeats.specs.Inner.Repeats.{same, Firsts}

pub same-true : (x y : Number) → same x y ≡ true → x ≡ y
same-true x y e = ap (λ (z : Exact). z.num) (equal-true (frac x 0) (frac y 0) (λ i. e i && eqb 0 0))

-- the first places of r numbers, and n of them that are their own
pub record Finding (f p : List ℕ) (n : ℕ) (m : List ℤ) (k r : ℕ) : Type 0 where
  pub sized : (length f ≡ 256) × (length p ≡ 8)
  pub firsts : Firsts f m k r
  pub few : n ≤ 8
  pub places : (i : ℕ) → i < n → (get_or p i 0 < r) × (get_or f (get_or p i 0) 0 ≡ get_or p i 0)

pub none_found : (f p : List ℕ) (m : List ℤ) (k : ℕ) → (length f ≡ 256) × (length p ≡ 8) → Finding f p 0 m k 0
none_found f p m k h = record {
  sized = h;
  firsts = record { before = λ r q. absurd (omega arith); same = λ r q. absurd (omega arith); own = λ r q. absurd (omega arith) };
  few = omega arith;
  places = λ i q. absurd (omega arith);
}

module _ {f : List ℕ} {m : List ℤ} {k r : ℕ} (h : Firsts f m k r) (v : ℕ) (hv : v ≤ r) (long : r < length f) where
  abbrev g : List ℕ
  g = set f r v

  earlier : (q : ℕ) → q < r → get_or g q 0 ≡ get_or f q 0
  earlier q p = get_or-set_other f r q v 0 (λ e. omega arith)

  here : get_or g r 0 ≡ v
  here = get_or-set_same f r v 0 long

  -- number r is that at v, which is its own first place
  placed : number_in m (k + v * 4) ≡ number_in m (k + r * 4) → (v < r → get_or f v 0 ≡ v) → Firsts g m k (r + 1)
  placed e own = record {
    before = λ q p. before q p (dec_lt q r);
    same = λ q p. same_at q p (dec_lt q r);
    own = λ q p. own_at q p (dec_lt q r);
  }
    where
      at_r : (q : ℕ) → q < r + 1 → (q < r → ⊥) → q ≡ r
      at_r q p n = omega (arith, n)

      before : (q : ℕ) → q < r + 1 → Dec (q < r) → get_or g q 0 ≤ q
      before q p (yes l) = omega (arith, earlier q l, h.before q l)
      before q p (no n) = subst (λ (j : ℕ). get_or g j 0 ≤ j) (sym (at_r q p n)) (omega (arith, here, hv))

      same_at : (q : ℕ) → q < r + 1 → Dec (q < r) → number_in m (k + get_or g q 0 * 4) ≡ number_in m (k + q * 4)
      same_at q p (yes l) = ap (λ (j : ℕ). number_in m (k + j * 4)) (earlier q l) ∙ h.same q l
      same_at q p (no n) = subst (λ (j : ℕ). number_in m (k + get_or g j 0 * 4) ≡ number_in m (k + j * 4)) (sym (at_r q p n)) (ap (λ (j : ℕ). number_in m (k + j * 4)) here ∙ e)

      its : Dec (v < r) → get_or g v 0 ≡ v
      its (yes l) = earlier v l ∙ own l
      its (no n) = let q : v ≡ r = omega (arith, n) in ap (λ (j : ℕ). get_or g j 0) q ∙ here

      own_at : (q : ℕ) → q < r + 1 → Dec (q < r) → get_or g (get_or g q 0) 0 ≡ get_or g q 0
      own_at q p (yes l) =
          let b = h.before q l in
          ap (λ (j : ℕ). get_or g j 0) (earlier q l) ∙ earlier (get_or f q 0) (omega arith) ∙ h.own q l ∙ sym (earlier q l)
      own_at q p (no n) = subst (λ (j : ℕ). get_or g (get_or g j 0) 0 ≡ get_or g j 0) (sym (at_r q p n)) (ap (λ (j : ℕ). get_or g j 0) here ∙ its (dec_lt v r) ∙ sym here)

module _ {f p : List ℕ} {n : ℕ} {m : List ℤ} {k r : ℕ} (w : Finding f p n m k r) (hr : r < 256) where
  long : r < length f
  long = omega (arith, w.sized.0)

  -- number r is that at place i
  pub again_found : (i : ℕ) → i < n → number_in m (k + get_or p i 0 * 4) ≡ number_in m (k + r * 4) → Finding (set f r (get_or p i 0)) p n m k (r + 1)
  again_found i h e = record {
    sized = (omega (arith, w.sized.0, length-set f r v), w.sized.1);
    firsts = placed w.firsts v (omega (arith, (w.places i h).0)) long e (λ l. (w.places i h).1);
    few = w.few;
    places = λ j q. (omega (arith, (w.places j q).0), earlier w.firsts v (omega (arith, (w.places i h).0)) long (get_or p j 0) (w.places j q).0 ∙ (w.places j q).1);
  }
    where
      v : ℕ
      v = get_or p i 0

  -- it is another one
  pub new_found : n < 8 → Finding (set f r r) (set p n r) (n + 1) m k (r + 1)
  new_found few = record {
    sized = (omega (arith, w.sized.0, length-set f r r), omega (arith, w.sized.1, length-set p n r));
    firsts = placed w.firsts r (omega arith) long (λ i. number_in m (k + r * 4)) (λ l. absurd (omega (arith, l)));
    few = omega arith;
    places = λ j q. place j q (dec_lt j n);
  }
    where
      there : get_or (set f r r) r 0 ≡ r
      there = here w.firsts r (omega arith) long

      place : (j : ℕ) → j < n + 1 → Dec (j < n) → (get_or (set p n r) j 0 < r + 1) × (get_or (set f r r) (get_or (set p n r) j 0) 0 ≡ get_or (set p n r) j 0)
      place j q (yes l) =
          let u = w.places j l in
          let e = get_or-set_other p n j r 0 (λ e. omega arith) in (
            omega (arith, e, u.0),
            ap (λ (i : ℕ). get_or (set f r r) i 0) e ∙ earlier w.firsts r (omega arith) long (get_or p j 0) u.0 ∙ u.1 ∙ sym e,
          )
      place j q (no l) =
          let e : get_or (set p n r) j 0 ≡ r = let s : j ≡ n = omega (arith, l) in ap (λ (i : ℕ). get_or (set p n r) i 0) s ∙ get_or-set_same p n r 0 (omega (arith, w.sized.1)) in
          (omega (arith, e), ap (λ (i : ℕ). get_or (set f r r) i 0) e ∙ there ∙ sym e)
