-- The words of the range, word by word.
use Rattle.std.proofs.Common.{◌≡◌, ◌+◌, ◌-◌, arith}
use Rattle.std.specs.List.{list_all}
use mathlib.Core.Path.{◌∙◌, ap}
use Prim.Native.Nat.{ℕ}
use lib.ListN.{take, drop}
use Rattle.algebra.specs.Words.{up_to}
use Rattle.kept_circuit.specs.Kept.{all_up_to}
use Rattle.algebra.proofs.Ranges.{all_in}
use Rattle.kept_circuit.proofs.counts.are_up_to.Goals as goal

pub returns : goal.returns
unfolding all_up_to
returns c =
    let a = c.args in
    let n : a.at + a.n - a.at ≡ a.n = omega arith in
    c.each_up_to.ensures ∙ ap (λ (k : ℕ). list_all (up_to a.top) (take k (drop a.at a.words.now))) n ∙ all_in (up_to a.top) a.words.now a.at a.n c.requires
