-- `layout::read_entry` meets its contract.
use mathlib.Core.Path.{◌≡◌, sym, ap, ◌∙◌, subst}
use mathlib.Core.Bool.{false}
use Prim.Native.Nat.{ℕ, ◌+◌, ◌*◌, ◌≤◌}
use native.Mathlib.Nat.{add_assoc}
use native.Mathlib.Omega.{arith}
use lib.IntN.{ℤ, nat_abs}
use mir.Syntax.{w64}
use mir.Val.{to_z, of_z}
use Rattle.algebra.proofs.Signed.{back, word_is}
use Rattle.exact.specs.Exact.{lowest, number_of, max_exponent}
use Rattle.scalar.specs.Calls.{scalar_of}
use Rattle.channel.specs.Layout.{record_head, exponent_place, entry_from, word}
use Rattle.channel.proofs.layout.read_entry.Goals as goal

pub read_kept-numerators-requires : goal.read_kept-numerators-requires
read_kept-numerators-requires c = let h = c.requires.inside in omega arith

-- an exponent is read as it stands
small : (z : ℤ) → nat_abs z ≤ max_exponent → to_z w64 (of_z w64 z) ≡ z
small z h = back z (omega arith)

pub reduce-requires : goal.reduce-requires
reduce-requires c =
    let x = word c.args.s.now (c.args.at + exponent_place) in
    let h = (word_is max_exponent x c.requires.exponent).1 in
    subst (λ (z : ℤ). nat_abs z ≤ 63) (sym (small x h)) (omega arith)

pub returns : goal.returns
returns c =
    let s = c.args in
    let x = word s.s.now (s.at + exponent_place) in
    let e = small x (word_is max_exponent x c.requires.exponent).1 in
    let n = ap number_of c.read_kept-numerators.ensures ∙ (λ j. entry_from false (λ (i : ℕ). word s.s.now (add_assoc (s.at + record_head) (s.k * 4) i j))) in
    c.reduce.ensures ∙ (λ j. scalar_of (lowest (n j) (nat_abs (e j))))
