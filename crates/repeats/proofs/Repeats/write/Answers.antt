-- `Repeats::write` meets its contract: all rows are shifted as far as those that are worked out allow.
use mathlib.Core.Path.{◌≡◌, ap, ◌∙◌}
use Prim.Native.Nat.{ℕ, ◌*◌, ◌-◌, ◌%◌, ◌^◌, min}
use lib.Bits.{bit_or}
use lib.Count.{count_trailing_zeros}
use mir.Syntax.{w64}
use mir.Val.{of_z}
use Rattle.algebra.proofs.Blocks.{blocks-same}
use Rattle.exact.specs.Exact.{list_of}
use Rattle.share.specs.Share.{with_numerators}
use Rattle.share.proofs.Laws.{alone}
use Rattle.repeats.specs.Inner.Repeats.{rows_finished}
use Rattle.repeats.proofs.Rows.{back}
use Rattle.repeats.proofs.Products.{products-alike, finished}
use Rattle.repeats.proofs.Repeats.write.Goals as goal

pub returns : goal.returns
returns c =
    let s = c.args.self in
    let out = c.args.out in
    let n = s.w * s.w in
    let g = c.write_firsts-g in
    let b = g.new.res in
    let count : c.common_zeros.result ≡ count_trailing_zeros 64 (of_z w64 g.result % 2 ^ 63) =
    c.common_zeros.ensures ∙ ap (λ (m : ℕ). count_trailing_zeros 64 (m % 2 ^ 63)) (ap (λ (k : ℕ). bit_or (bit_or k 0) (bit_or 0 0)) (back g.result (record { sfits = g.type_inv })) ∙ alone (of_z w64 g.result)) in
    let alike = products-alike s.repeat c.args.e c.common_zeros.result (of_z w64 g.result) g.ensures.bits c.requires.1 count in
    record {
      exponent = ap (λ (j : ℕ). c.args.e - j) c.min-t.ensures ∙ alike.exp;
      numerators =
          finished s.repeat c.args.res.now out (min c.common_zeros.result c.args.e) c.requires.0 g.ensures.words
          (c.finish_rows.ensures ∙ ap (λ (j : ℕ). with_numerators b out n (rows_finished b out s.work.now s.k s.firsts.now s.w j)) c.min-t.ensures) c.clear_zeros.ensures
          ∙ blocks-same 4 c.args.res.now out n _ _ (λ k h. ap list_of (alike.num k h));
    }
