-- `share_numbers` meets its contract: all numerators are shifted as far as all of them allow.
use mathlib.Core.Path.{◌≡◌, ap, ◌∙◌}
use Prim.Native.Nat.{ℕ, ◌+◌, ◌*◌, ◌-◌, ◌%◌, ◌^◌, min}
use lib.Bits.{bit_or}
use lib.Count.{count_trailing_zeros}
use lib.ListN.{get_or}
use lib.IntN.{pos}
use lib.Signed.{shr_z}
use mir.Syntax.{w64}
use mir.Val.{to_z, of_z}
use mir.Facts.{of_z-to_z, Fits-of_z}
use Rattle.algebra.specs.Dyadic.{frac}
use Rattle.algebra.specs.Words.{fill_words}
use Rattle.exact.proofs.Zeros.{shifted}
use Rattle.channel.specs.Forms.{Alike}
use Rattle.share.specs.Share.{number_in, or_words, shared_from}
use Rattle.share.proofs.Laws.{shifts_are, share_is, numerators_are, stands, over_one, alone}
use Rattle.share.proofs.share_numbers.Goals as goal

pub returns-then-e-eq0 : goal.returns-then-e-eq0
returns-then-e-eq0 c =
    let s = c.args in
    let a = over_one s.s.now s.at s.n s.e c.if-e-eq0.true in
    record { exponent = a.exp; numerators = stands s.s.now s.at s.n s.e 0 a }

pub returns : goal.returns
returns c =
    let s = c.args in
    let g = c.or_more-g in
    let least = min c.common_zeros.result s.e in
    -- the argument is read back from its bits
    let back : of_z w64 (to_z w64 (of_z w64 g.result)) ≡ of_z w64 g.result = of_z-to_z {w = w64} (Fits-of_z {w = w64} {z = g.result} (record { sfits = g.type_inv })) in
    let count : c.common_zeros.result ≡ count_trailing_zeros 64 (or_words 0 s.s.now s.at (s.n * 4) % 2 ^ 63) =
    c.common_zeros.ensures ∙ ap (λ (m : ℕ). count_trailing_zeros 64 (m % 2 ^ 63)) (ap (λ (k : ℕ). bit_or (bit_or k 0) (bit_or 0 0)) back ∙ alone (of_z w64 g.result) ∙ g.ensures.bits) in
    let alike : Alike s.n (frac (λ (k : ℕ). shifted (number_in s.s.now (s.at + k * 4)) least) (s.e - least)) (shared_from s.s.now s.at s.n s.e) =
    share_is s.s.now s.at s.n s.e c.common_zeros.result g.ensures.fit c.requires.1 count in
    record {
      exponent = ap (λ (j : ℕ). s.e - j) c.min-t.ensures ∙ alike.exp;
      numerators = c.shift_words.ensures
          ∙ ap (λ (j : ℕ). fill_words s.s.now s.at (s.n * 4) (λ (i : ℕ). shr_z (get_or s.s.now (s.at + i) (pos 0)) (2 ^ j))) c.min-t.ensures
          ∙ shifts_are s.s.now s.at s.n least
          ∙ numerators_are s.s.now s.at s.n s.e least alike;
    }
