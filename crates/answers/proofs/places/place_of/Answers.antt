-- `places::place_of` meets its contract.
use mathlib.Core.Path.{sym, ap, ◌∙◌}
use mathlib.Core.List.{foldl}
use Prim.Native.Nat.{ℕ}
use lib.ListN.{take, drop_of_length-le}
use Rattle.std.proofs.lemmas.List.{take_min}
use Rattle.answers.specs.Places.{place, after, place_of}
use Rattle.answers.proofs.places.place_of.Goals as goal

pub returns : goal.returns
unfolding place_of
returns c =
    let t = c.args.text.now in
    let whole = ap (λ (k : ℕ). take k t) c.min.ensures ∙ take_min c.args.position t in
    sym (c.loop-b.invariant.1 ∙ ap (foldl after c.loop-b.p) (drop_of_length-le _ c.loop-b-test.false)) ∙ ap (foldl after (place 1 1)) whole
