-- `shift_words` meets its contract: i words are shifted, the rest is as it was.
use mathlib.Core.Path.{sym, ap, ◌∙◌}
use Prim.Native.Nat.{ℕ, ◌+◌, ◌^◌}
use native.Mathlib.Nat.{le_refl}
use native.Mathlib.Omega.{arith}
use lib.ListN.{get_or}
use lib.IntN.{ℤ, pos}
use lib.Signed.{shr_z}
use Rattle.algebra.proofs.Blocks.{begin, again_word, rest}
use Rattle.algebra.proofs.Signed.{shift_back, shift_none}
use Rattle.share.proofs.Numbers.{words-there}
use Rattle.share.proofs.shift_words.Goals as goal

pub returns-then-t-eq0 : goal.returns-then-t-eq0
returns-then-t-eq0 c =
    let b = c.args in
    let word = λ (i : ℕ). get_or b.s.now (b.at + i) (pos 0) in
    sym (words-there b.s.now b.at b.n _ (λ i h. ap (λ (t : ℕ). shr_z (word i) (2 ^ t)) c.if-t-eq0.true ∙ shift_none (word i)))

pub loop-i-init : goal.loop-i-init
loop-i-init c = begin (λ k. le_refl 1)

pub loop-i-preserved : goal.loop-i-preserved
loop-i-preserved c =
    let b = c.args in
    let i = c.loop-i.i in
    let same = (rest c.loop-i.invariant (b.at + i) 1 (omega arith)).word (b.at + i) (omega arith) (omega arith) in
    again_word (λ k. shr_z (get_or b.s.now (b.at + k) (pos 0)) (2 ^ b.t)) c.loop-i.invariant c.loop-i-test.true
    (shift_back (get_or c.loop-i.s (b.at + i) (pos 0)) (2 ^ b.t) (record { sfits = c.x-1.given }) ∙ ap (λ (z : ℤ). shr_z z (2 ^ b.t)) same)
