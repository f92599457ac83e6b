-- `read_raised` meets its contract.
use mathlib.Core.Path.{sym, ap, ◌∙◌, subst}
use mathlib.Core.List.{List}
use native.Mathlib.Omega.{arith}
use lib.Dec.{lit≤}
use lib.IntN.{ℤ}
use Rattle.exact.specs.Exact.{number_of, list_of, narrow_numerator}
use Rattle.exact.specs.Inner.Sizes.{Within, scaled, room_numerator}
use Rattle.exact.proofs.Align.{widen, scaled-none}
use Rattle.share.specs.Share.{number_in}
use Rattle.overlaps.specs.Inner.Overlap.{raised_at}
use Rattle.overlaps.proofs.read_raised.Goals as goal

pub returns-then-s-eq0 : goal.returns-then-s-eq0
returns-then-s-eq0 c =
    let a = c.args in
    c.numerators_at-y.ensures ∙ ap list_of (sym (scaled-none (number_in a.work.now a.q) a.s c.if-s-eq0.true))

pub scaled4-requires : goal.scaled4-requires
scaled4-requires c =
    let a = c.args in
    let f = c.requires in
    (omega (arith, f.shift), subst (λ (l : List ℤ). Within room_numerator (scaled (number_of l) a.s)) (sym c.numerators_at-y.ensures) (widen narrow_numerator room_numerator (raised_at a.s a.work.now a.q) (lit≤ tt) f.narrow))

pub returns : goal.returns
returns c = let a = c.args in c.scaled4.ensures ∙ ap (λ (l : List ℤ). list_of (scaled (number_of l) a.s)) c.numerators_at-y.ensures
