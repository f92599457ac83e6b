-- An operator applied: what a row asks, one row more, and the whole product in its shared form.
use mathlib.Core.Path.{◌≡◌, refl, sym, ap, ap₂, ◌∙◌, subst}
use mathlib.Core.List.{List}
use mathlib.Core.Logic.{inr}
use Prim.Native.Nat.{ℕ, ◌+◌, ◌*◌, ◌/◌, ◌%◌, ◌≤◌, ◌<◌}
use native.Mathlib.Nat.{le_refl, zero-mul}
use native.Mathlib.Omega.{arith}
use lib.Arith.{digits_lt, digits_div, digits_mod}
use lib.Bits.{bit_xor}
use lib.ListN.{length, get_or, set}
use lib.Seq.{sets, set-get_or}
use lib.IntN.{ℤ, pos}
use Rattle.algebra.specs.Dyadic.{frac}
use Rattle.algebra.specs.Words.{blocks}
use Rattle.algebra.proofs.Signed.{word_is}
use Rattle.algebra.proofs.Blocks.{Writing, begin, kept, rest, wrote, Same, narrow, block_in_lem, blocks-same, blocks_more, blocks_over}
use Rattle.exact.specs.Exact.{Number, Exact, lowest, narrow_exponent, narrow_numerator, number_of, list_of}
use Rattle.exact.specs.Inner.Sizes.{Within}
use Rattle.gate.specs.declared.rows.Row.{Row}
use Rattle.gate.specs.Inner.Rows.{Form, entry_in}
use Rattle.channel.specs.Shared.{shared}
use Rattle.channel.specs.Forms.{Alike}
use Rattle.share.specs.Share.{number_in, shared_from, with_numerators}
use Rattle.share.proofs.Laws.{stands, over_one}
use Rattle.share.proofs.Numbers.{number-filled}
use Rattle.rows.specs.Inner.Rows.{exponent_in, held_words, combined_row, Factors, Scaling}
use Rattle.rows.proofs.Held.{words_same, shared_sets}
use Rattle.branches.specs.Inner.Bank.{matrix_size}
use Rattle.branches.specs.Inner.Step.{Applying, row_numerators, row_sum}
use Rattle.branches.proofs.Numerators.{row-place, own_narrow, other_narrow, row_made, factor_narrow, row-same, numerators_value}

-- ---- b is l with r rows of the product written
abbrev pub Applied : List ℤ → ℕ → Form → ℕ → ℕ → ℕ → List ℤ → ℕ → Type 0
Applied l m R old new d b r = Writing 4 l new (d * d) (λ (i : ℕ). list_of (row_numerators l m R old d (i / d) (i % d))) b (r * d)

pub none_applied : (l : List ℤ) (m : ℕ) (R : Form) (old new d : ℕ) → Applied l m R old new d l 0
none_applied l m R old new d = subst (Writing 4 l new (d * d) (λ (i : ℕ). list_of (row_numerators l m R old d (i / d) (i % d))) l) (sym (zero-mul d)) (begin (λ i. le_refl 4))

module _ {l : List ℤ} {m : ℕ} {R : Form} {old new d : ℕ} (p : Applying l m R old new d) {r : ℕ} (hr : r < d) {b : List ℤ} (w : Applied l m R old new d b r) where
  matrix : Same b l old (matrix_size d)
  matrix = kept w old (matrix_size d) (narrow old (matrix_size d) new (matrix_size d) old (matrix_size d) new (d * d * 4) p.apart (omega arith) (omega arith) (omega arith) (omega arith))

  -- row s may be multiplied by x
  scaling : {s : ℕ} → s < d → {x : Number} → Within narrow_numerator x → Scaling b x (old + s * d * 4) (new + r * d * 4) d
  scaling {s} hs small = record {
    scale = small;
    from_room = omega (arith, matrix.long, p.turning.factors.room, block_in_lem hs d);
    factor = λ c hc. subst (Within narrow_numerator) (sym (row-same d matrix s c hs hc ∙ ap (number_in l) (row-place old d s c))) (factor_narrow p.turning.factors (s * d + c) (digits_lt hs hc));
    to_room = omega (arith, matrix.long, p.new_room, block_in_lem hr d);
    place = inr (narrow old (matrix_size d) new (matrix_size d) (old + s * d * 4) (d * 4) (new + r * d * 4) (d * 4) p.apart (omega arith) (omega (arith, block_in_lem hs d)) (omega arith) (omega (arith, block_in_lem hr d)));
  }

  module _ {x : Row} (e : x ≡ R.row r) where
    pub own-scaling : Scaling b (number_of x.own) (old + r * d * 4) (new + r * d * 4) d
    own-scaling = scaling hr (own_narrow p.turning.sized hr e)

    pub other_scaling : Scaling b (number_of x.other) (old + bit_xor r m * d * 4) (new + r * d * 4) d
    other_scaling = scaling (p.turning.below r hr) (other_narrow p.turning.sized hr e)

    -- one row more
    pub applied_more : {q : List ℤ} → q ≡ with_numerators b (new + r * d * 4) d (combined_row b (number_of x.own) (old + r * d * 4) (number_of x.other) (old + bit_xor r m * d * 4)) → Applied l m R old new d q (r + 1)
    applied_more f =
        record {
          sized = λ i. le_refl 4;
          count = omega (arith, block_in_lem hr d);
          is =
              f
              ∙ blocks-same 4 b (new + r * d * 4) d _ (λ (c : ℕ). entry (r * d + c)) (λ c hc. ap list_of (row c hc ∙ sym (λ i. row_numerators l m R old d (digits_div r hc i) (digits_mod r hc i))))
              ∙ ap (λ (b : List ℤ). blocks 4 b (new + r * d * 4) d (λ (c : ℕ). entry (r * d + c))) w.is
              ∙ blocks_more 4 l new (r * d) d entry
              ∙ ap (λ (n : ℕ). blocks 4 l new n entry) rows;
        }
      where
        entry : ℕ → List ℤ
        entry i = list_of (row_numerators l m R old d (i / d) (i % d))

        rows : r * d + d ≡ (r + 1) * d
        rows = omega arith

        row : (c : ℕ) → c < d → combined_row b (number_of x.own) (old + r * d * 4) (number_of x.other) (old + bit_xor r m * d * 4) c ≡ row_numerators l m R old d r c
        row c hc = row_made l b m R old d r c e (row-same d matrix r c hr hc) (row-same d matrix (bit_xor r m) c (p.turning.below r hr) hc)

-- ---- the whole product
module _ (l : List ℤ) (m : ℕ) (R : Form) (old new d : ℕ) (room : new + d * d * 4 ≤ length l) {b : List ℤ}
    (eb : b ≡ with_numerators l new (d * d) (λ (i : ℕ). row_numerators l m R old d (i / d) (i % d))) {e : ℕ} (ee : e ≡ exponent_in l old (d * d)) where
  abbrev sum : ℕ → Exact
  sum i = row_sum l m (entry_in R) old d (i / d) (i % d)

  -- its numbers are read back
  value_is : (i : ℕ) → i < d * d → lowest (number_in b (new + i * 4)) (e + R.exponent) ≡ sum i
  value_is i h =
      ap₂ lowest (ap (λ (b : List ℤ). number_in b (new + i * 4)) eb ∙ number-filled (λ (i : ℕ). row_numerators l m R old d (i / d) (i % d)) l new (d * d) i h room) (ap (λ (e : ℕ). e + R.exponent) ee)
      ∙ numerators_value l m R old d (i / d) (i % d)

  -- written over them, their shared form and its exponent are the words of the product
  pub applied_shared : {q : List ℤ} → q ≡ sets b new (held_words (d * d) (λ (i : ℕ). lowest (number_in b (new + i * 4)) (e + R.exponent))) → q ≡ sets l new (held_words (d * d) sum)
  applied_shared g =
      let num = (shared (d * d) sum).num in
      g
      ∙ ap (sets b new) (words_same (d * d) _ sum value_is)
      ∙ sym (shared_sets b new (d * d) sum refl refl)
      ∙ ap (λ (c : List ℤ). set c (new + d * d * 4) (pos (shared (d * d) sum).exp))
      (ap (λ (b : List ℤ). with_numerators b new (d * d) num) eb ∙ blocks_over 4 l new (d * d) _ (λ (i : ℕ). list_of (num i)) (λ i. refl) (λ i. refl) room)
      ∙ shared_sets l new (d * d) sum refl refl

-- numerators over 1, written over those of a matrix over 1, are in their shared form, and the exponent behind them stands
pub shared_there : {l : List ℤ} {at n : ℕ} → Factors l at n → (f : ℕ → Number) {b : List ℤ} → b ≡ with_numerators l at n f → exponent_in l at n ≡ 0 → (e : ℕ) → e ≡ 0
    → b ≡ sets b at (held_words n (λ (k : ℕ). lowest (number_in b (at + k * 4)) e))
shared_there {l} {at} {n} p f {b} eb none e zero =
    shared_sets b at n (λ (k : ℕ). lowest (number_in b (at + k * 4)) e) (stands b at n e 0 alike) (sym (set-get_or b (at + n * 4) (pos 0)) ∙ ap (set b (at + n * 4)) exponent)
  where
    alike : Alike n (frac (λ (k : ℕ). number_in b (at + k * 4)) 0) (shared_from b at n e)
    alike = over_one b at n e zero

    exponent : get_or b (at + n * 4) (pos 0) ≡ pos (shared_from b at n e).exp
    exponent =
        (rest (wrote (λ k. le_refl 4) eb) (at + n * 4) 1 (le_refl (at + n * 4))).word (at + n * 4) (le_refl (at + n * 4)) (omega arith)
        ∙ (word_is narrow_exponent (get_or l (at + n * 4) (pos 0)) p.exponent).0
        ∙ ap pos (none ∙ alike.exp)
