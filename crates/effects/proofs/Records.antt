-- The effects' records as words: their length, the next of them in a channel, and what a well-formed channel says of its records.
use mathlib.Core.Path.{◌≡◌, sym, ap, ◌∙◌, subst}
use mathlib.Core.Bool.{true}
use mathlib.Core.List.{List}
use Prim.Native.Nat.{ℕ, suc, ◌+◌, ◌-◌, ◌≤◌}
use native.Mathlib.Nat.{mul-le-mul, le_refl}
use native.Mathlib.Omega.{arith}
use lib.ListN.{length}
use lib.IntN.{ℤ, pos, nat_abs}
use Rattle.exact.specs.Exact.{Exact}
use Rattle.channel.specs.Layout.{channels, effects, header_size, record_head, block_size, record_size, record_at, word, dim_at, count_at}
use Rattle.channel.specs.WellFormed.{well_formed}
use Rattle.channel.specs.Inner.Shapes.{Onward}
use Rattle.channel.proofs.Judging.{in_channel, formed}
use Rattle.channel.proofs.Chain.{onward_begin, first-index, chain-from, on-inside, on-block, on-index, on-next}
use Rattle.channel.proofs.Restore.{length-block}
use Rattle.channel.proofs.Visits.{each_record}
use Rattle.effects.specs.Effects.{effect_shared, effect_record}
use Rattle.effects.specs.Inner.Readable.{Dim, Linked, Readable, Records}
use Rattle.effects.proofs.Linking.{record_less}

pub record_length : (entry : List ℤ → ℕ → ℕ → ℕ → Exact) (l : List ℤ) (d at : ℕ) → length (effect_record entry l d at) ≡ record_size (effects d)
record_length entry l d at = ap (λ (n : ℕ). suc (suc (suc (suc n)))) (length-block (effects d) (effect_shared entry l at d).num) ∙ by (block_size (effects d))
  where
    by : (n : ℕ) → suc (suc (suc (suc n))) ≡ record_head + n
    by n = omega arith

-- the effects' records are no longer than the channel's
pub shorter : {d : ℕ} → Dim d → (n : ℕ) → record_at (effects d) n ≤ record_at (channels d) n
shorter m n = let p = mul-le-mul (le_refl n) (record_less m) in omega arith

-- ---- what a well-formed channel says of its records
module _ (l : List ℤ) (e : well_formed l ≡ true) where
  pub dim_of : Dim (dim_at l)
  dim_of = let h = (formed l e).head in record { some = h.some; small = h.small }

  linked : (n at : ℕ) → Onward l n at → (z : ℤ) → z ≡ pos at → Linked (dim_at l) z
  linked n at o z f = record {
    dim = dim_of;
    index = f ∙ ap (λ (y : ℤ). pos (nat_abs y)) (sym f);
    from = λ g. subst (λ (y : ℤ). header_size ≤ nat_abs y) (sym f) (chain-from n at o (λ q. g (f ∙ ap pos q)));
  }

  pub first-linked : Linked (dim_at l) (word l 3)
  first-linked = linked (count_at l) (nat_abs (word l 3)) (onward_begin l e) (word l 3) (first-index l e)

  pub records-of : Records l (dim_at l) (count_at l)
  records-of = record {
    dim = dim_of;
    inside = (formed l e).head.room.inside;
    each = each_record (channels (dim_at l)) l (sym (in_channel l) ∙ e) (λ (at : ℕ). Readable l at (dim_at l)) (λ n at o h. record {
      dim = dim_of;
      inside = on-inside o h;
      formed = on-block o h;
      next = linked (n - 1) (nat_abs (word l at)) (on-next o h) (word l at) (on-index o h);
    });
  }
