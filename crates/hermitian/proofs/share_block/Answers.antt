-- `share_block` meets its contract: all numerators are shifted as far as all of them allow.
use mathlib.Core.Path.{◌≡◌, ap, ◌∙◌}
use Prim.Native.Nat.{ℕ, ◌*◌, ◌-◌, ◌%◌, ◌^◌}
use lib.Bits.{bit_or}
use lib.Count.{count_trailing_zeros}
use mir.Syntax.{w64}
use mir.Val.{to_z, of_z}
use mir.Facts.{of_z-to_z, Fits-of_z}
use Rattle.algebra.proofs.Blocks.{blocks-same}
use Rattle.exact.specs.Exact.{list_of}
use Rattle.share.specs.Share.{with_numerators}
use Rattle.share.proofs.Laws.{alone}
use Rattle.hermitian.specs.Inner.Upper.{or_upper, upper_shared}
use Rattle.hermitian.proofs.Bits.{mirror-alike, shared_is}
use Rattle.hermitian.proofs.share_block.Goals as goal

pub returns : goal.returns
returns c =
    let s = c.args in
    let n = s.w * s.w in
    let g = c.or_rows-g in
    -- the argument is read back from its bits
    let back : of_z w64 (to_z w64 (of_z w64 g.result)) ≡ of_z w64 g.result = of_z-to_z {w = w64} (Fits-of_z {w = w64} {z = g.result} (record { sfits = g.type_inv })) in
    let count : c.common_zeros.result ≡ count_trailing_zeros 64 (or_upper s.s.now s.at s.w s.w % 2 ^ 63) =
    c.common_zeros.ensures ∙ ap (λ (m : ℕ). count_trailing_zeros 64 (m % 2 ^ 63)) (ap (λ (k : ℕ). bit_or (bit_or k 0) (bit_or 0 0)) back ∙ alone (of_z w64 g.result) ∙ g.ensures.bits) in
    let alike = mirror-alike s.s.now s.at s.w g.ensures.fit s.e c.common_zeros.result c.requires.1 count in
    let same = shared_is s.s.now s.at s.w g.ensures.fit s.e c.common_zeros.result c.requires.1 count in
    record {
      exponent = ap (λ (j : ℕ). s.e - j) c.min-t.ensures ∙ alike.exp;
      numerators = c.share_rows.ensures
          ∙ ap (λ (j : ℕ). with_numerators s.s.now s.at n (upper_shared s.s.now s.at s.w j)) c.min-t.ensures
          ∙ blocks-same 4 s.s.now s.at n _ _ (λ k h. ap list_of (same k h ∙ alike.num k h));
    }
