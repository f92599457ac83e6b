-- `compare::advanced` meets its contract.
use mathlib.Core.Path.{sym, subst}
use Prim.Native.Nat.{◌-◌}
use native.Mathlib.Omega.{arith}
use Rattle.channel.specs.Inner.Shapes.{Onward}
use Rattle.channel.proofs.Chain.{on-inside, on-index, on-next}
use Rattle.compare.proofs.advanced.Goals as goal

pub overflow_sub-t : goal.overflow_sub-t
overflow_sub-t c = let o = c.requires c.in-Some.t c.in-Some.is in let h = o.some in omega arith

pub follow-requires : goal.follow-requires
follow-requires c = let o = c.requires c.in-Some.t c.in-Some.is in let q = on-inside o.walk o.some in (omega arith, on-index o.walk o.some)

pub enter-requires : goal.enter-requires
enter-requires c =
    let o = c.requires c.in-Some.t c.in-Some.is in
    subst (Onward c.args.s.now (c.in-Some.t.left - 1)) (sym c.follow.ensures) (on-next o.walk o.some)
