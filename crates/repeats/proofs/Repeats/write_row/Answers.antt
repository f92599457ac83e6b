-- `Repeats::write_row` meets its contract.
use mathlib.Core.Path.{ap}
use mathlib.Core.List.{List}
use native.Mathlib.Nat.{le_refl}
use native.Mathlib.Omega.{arith}
use lib.IntN.{ℤ}
use Rattle.algebra.proofs.Blocks.{begin, again, long}
use Rattle.exact.specs.Exact.{number_of, list_of}
use Rattle.repeats.proofs.Rows.{stands}
use Rattle.repeats.proofs.Repeats.write_row.Goals as goal

pub loop-c-init : goal.loop-c-init
loop-c-init c = begin (λ k. le_refl 4)

pub product_at-p-requires : goal.product_at-p-requires
product_at-p-requires c =
    let w = c.loop-c.invariant in
    record {
      row = record { room = omega (arith, c.requires.room, long w); scale = c.requires.scale };
      inside = c.loop-c-test.true;
      stands = stands c.args.res.now c.args.to (number_of c.args.x) c.args.self.repeat c.loop-c-test.true c.requires.room w.is;
    }

pub loop-c-preserved : goal.loop-c-preserved
loop-c-preserved c = again c.loop-c.invariant c.loop-c-test.true c.write_numerators.ensures (ap (λ (l : List ℤ). list_of (number_of l)) c.product_at-p.ensures)
