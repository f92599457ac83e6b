-- `each_in_range` meets its contract: word by word.
use mathlib.Core.Path.{sym, ap, ◌∙◌}
use mathlib.Core.Bool.{Bool}
use native.Mathlib.Omega.{arith}
use lib.Dec.{leb}
use lib.ListN.{length}
use lib.Seq.{take-length}
use lib.IntN.{ℤ, nat_abs}
use Rattle.std.proofs.Common.{rules}
use Rattle.std.specs.List.{list_all}
use Rattle.std.proofs.lemmas.Iterator.{YieldsList-from_slice}
use Rattle.std.proofs.lemmas.Iterator.Search.{all_from_yields_List}
use Rattle.algebra.proofs.Ranges.{all_in}
use Rattle.exact.specs.Exact.{max_numerator}
use Rattle.gather.proofs.each_in_range.Goals as goal

abbrev good : ℤ → Bool
good x = leb (nat_abs x) max_numerator

pub returns : goal.returns
returns c =
    let l = c.args.s.now in
    all_from_yields_List good _ _ _ c.all.ensures.ran (YieldsList-from_slice l cc) (λ x b q k. search rules)
    ∙ ap (list_all good) (sym (take-length l))
    ∙ all_in good l 0 (length l) (omega arith)
