-- A projection: one row more of its product, and the whole product.
use mathlib.Core.Path.{◌≡◌, refl, sym, ap, ◌∙◌, subst}
use mathlib.Core.Bool.{Bool, true, false, cond, not, ◌&&◌}
use mathlib.Core.List.{List}
use Prim.Native.Nat.{ℕ, ◌+◌, ◌*◌, ◌/◌, ◌%◌, ◌≤◌, ◌<◌}
use native.Mathlib.Nat.{add-zero}
use lib.Bits.{bit_and, bit_xor, xor_zero_r}
use lib.Dec.{eqb}
use lib.ListN.{length, set}
use lib.Seq.{sets}
use lib.IntN.{ℤ, pos}
use borrow.Author.Tests.{eq-eqb, ne_eqb}
use Rattle.algebra.specs.Dyadic.{frac}
use Rattle.exact.specs.Exact.{numbers, number_of, lowest}
use Rattle.gate.specs.Inner.Rows.{Form, entry_in}
use Rattle.channel.specs.Forms.{Alike}
use Rattle.share.specs.Share.{number_in, shared_from, with_numerators}
use Rattle.share.proofs.Laws.{stands, over_one}
use Rattle.rows.specs.Inner.Rows.{exponent_in, held_words, scaled_row, combined_row, Scaling}
use Rattle.rows.proofs.Held.{shared_sets}
use Rattle.rows.proofs.Rows.{left-row, right-row}
use Rattle.gate.specs.Inner.Tables.{zeros}
use Rattle.branches.specs.Inner.Step.{Applying, row_numerators, row_sum}
use Rattle.branches.specs.Inner.Project.{part, projection, split_in}
use Rattle.branches.proofs.Applied.{Applied, own-scaling, other_scaling, applied_more, applied_shared}

-- the operator with a number, as the code makes it
abbrev numbered : ℕ → Bool → ℕ → Form
numbered m resets v = projection m (not (eqb v 0) && not resets) (not (eqb v 0) && resets)

numbered_is : (m : ℕ) (resets : Bool) (v : ℕ) → numbered m resets v ≡ split_in m resets v
numbered_is m resets v = go (eqb v 0)
  where
    go : (t : Bool) → ◌≡◌ {A = Form} (projection m (not t && not resets) (not t && resets)) (cond t (projection m false false) (projection m (not resets) resets))
    go true = refl
    go false = refl

-- ---- one row more
module _ (high moved : Bool) {l : List ℤ} {m old new d : ℕ} (p : Applying l m (projection m high moved) old new d) {r : ℕ} (hr : r < d) {b : List ℤ} (w : Applied l m (projection m high moved) old new d b r)
    {keep : ℕ} (ek : keep ≡ cond high m 0) where
  -- one that is kept, read where it lies or from its partner's place
  module _ {flip : ℕ} (ef : flip ≡ cond moved m 0) (e : bit_and r m ≡ keep) where
    kept : part moved true ≡ part moved (eqb (bit_and r m) (cond high m 0))
    kept = ap (part moved) (sym (eq-eqb (bit_and r m) (cond high m 0) (e ∙ ek)))

    still : flip ≡ 0 → r ≡ bit_xor r flip
    still z = sym (ap (bit_xor r) z ∙ xor_zero_r r)

    pub copying : Scaling b numbers.𝟙 (old + bit_xor r flip * d * 4) (new + r * d * 4) d
    copying = go moved ef kept
      where
        go : (t : Bool) → flip ≡ cond t m 0 → part t true ≡ part moved (eqb (bit_and r m) (cond high m 0)) → Scaling b numbers.𝟙 (old + bit_xor r flip * d * 4) (new + r * d * 4) d
        go true z k = subst (λ (s : ℕ). Scaling b numbers.𝟙 (old + s * d * 4) (new + r * d * 4) d) (sym (ap (bit_xor r) z)) (other_scaling p hr w k)
        go false z k = subst (λ (s : ℕ). Scaling b numbers.𝟙 (old + s * d * 4) (new + r * d * 4) d) (still z) (own-scaling p hr w k)

    pub copied_more : {q : List ℤ} → q ≡ with_numerators b (new + r * d * 4) d (scaled_row b numbers.𝟙 (old + bit_xor r flip * d * 4)) → Applied l m (projection m high moved) old new d q (r + 1)
    copied_more {q} f = applied_more p hr w kept (go moved ef)
      where
        from : (s : ℕ) → bit_xor r flip ≡ s → q ≡ with_numerators b (new + r * d * 4) d (scaled_row b numbers.𝟙 (old + s * d * 4))
        from s z = f ∙ ap (λ (s : ℕ). with_numerators b (new + r * d * 4) d (scaled_row b numbers.𝟙 (old + s * d * 4))) z

        go : (t : Bool) → flip ≡ cond t m 0 → q ≡ with_numerators b (new + r * d * 4) d (combined_row b (number_of (part t true).own) (old + r * d * 4) (number_of (part t true).other) (old + bit_xor r m * d * 4))
        go true z = right-row b (number_of zeros) (old + r * d * 4) numbers.𝟙 (old + bit_xor r m * d * 4) (new + r * d * 4) d refl (from (bit_xor r m) (ap (bit_xor r) z))
        go false z = left-row b numbers.𝟙 (old + r * d * 4) (number_of zeros) (old + bit_xor r m * d * 4) (new + r * d * 4) d refl (from r (sym (still z)))

  -- any other
  module _ (n : bit_and r m ≡ keep → ⊥) where
    empty : part moved false ≡ part moved (eqb (bit_and r m) (cond high m 0))
    empty = ap (part moved) (sym (ne_eqb (bit_and r m) (cond high m 0) (λ e. n (e ∙ sym ek))))

    pub clearing : Scaling b (number_of zeros) (old + r * d * 4) (new + r * d * 4) d
    clearing = own-scaling p hr w empty

    pub cleared_more : {q : List ℤ} → q ≡ with_numerators b (new + r * d * 4) d (scaled_row b (number_of zeros) (old + r * d * 4)) → Applied l m (projection m high moved) old new d q (r + 1)
    cleared_more f = applied_more p hr w empty (left-row b (number_of zeros) (old + r * d * 4) (number_of zeros) (old + bit_xor r m * d * 4) (new + r * d * 4) d refl f)

-- ---- the whole product, in its shared form
-- numerators over 1 are in it, and 0 is written behind them
pub over_one_shared : (b : List ℤ) (at n e : ℕ) → e ≡ 0 → {q : List ℤ} → q ≡ set b (at + n * 4) (pos 0) → q ≡ sets b at (held_words n (λ (k : ℕ). lowest (number_in b (at + k * 4)) e))
over_one_shared b at n e zero f = shared_sets b at n (λ (k : ℕ). lowest (number_in b (at + k * 4)) e) (stands b at n e 0 alike) (f ∙ ap (λ (x : ℕ). set b (at + n * 4) (pos x)) alike.exp)
  where
    alike : Alike n (frac (λ (k : ℕ). number_in b (at + k * 4)) 0) (shared_from b at n e)
    alike = over_one b at n e zero

pub projected_shared : (l : List ℤ) (m : ℕ) (resets : Bool) (v old new d : ℕ) → new + d * d * 4 ≤ length l
    → {b : List ℤ} → b ≡ with_numerators l new (d * d) (λ (i : ℕ). row_numerators l m (numbered m resets v) old d (i / d) (i % d)) → {e : ℕ} → e ≡ exponent_in l old (d * d)
    → {q : List ℤ} → q ≡ sets b new (held_words (d * d) (λ (i : ℕ). lowest (number_in b (new + i * 4)) e))
    → q ≡ sets l new (held_words (d * d) (λ (i : ℕ). row_sum l m (entry_in (split_in m resets v)) old d (i / d) (i % d)))
projected_shared l m resets v old new d room {b} eb {e} ee g =
    applied_shared l m (numbered m resets v) old new d room eb ee
    (g ∙ ap (λ (e : ℕ). sets b new (held_words (d * d) (λ (i : ℕ). lowest (number_in b (new + i * 4)) e))) (sym (add-zero e)))
    ∙ ap (λ (R : Form). sets l new (held_words (d * d) (λ (i : ℕ). row_sum l m (entry_in R) old d (i / d) (i % d)))) (numbered_is m resets v)
