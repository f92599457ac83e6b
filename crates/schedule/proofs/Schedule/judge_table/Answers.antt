-- The invariant: the positions before i are sound.
use mathlib.Core.Path.{◌≡◌, sym, ◌∙◌}
use mathlib.Core.Bool.{true, false, ◌&&◌}
use Prim.Native.Nat.{◌/◌}
use native.Mathlib.Omega.{arith}
use lib.Dec.{eqb}
use lib.ListN.{length}
use Rattle.std.proofs.lemmas.Bool.Decides.{nat_tests}
use Rattle.algebra.proofs.Tests.{all-step}
use Rattle.gate.specs.Gate.{gate_size, gates_of}
use Rattle.schedule.specs.Questions.{sound}
use Rattle.schedule.proofs.Asked.{lengths_are, lengths_differ, position_no, positions_yes}
use Rattle.schedule.proofs.Schedule.judge_table.Goals as goal

pub returns-then-not-is_sound : goal.returns-then-not-is_sound
returns-then-not-is_sound c =
    let a = c.args in
    let same : (eqb (length a.self.new.now / gate_size) (length a.self.old.now / gate_size) && eqb (length a.self.table.now) (length a.self.old.now / gate_size)) ≡ true = grind (arith, nat_tests) in
    let table_long : length a.self.table.now ≡ length a.self.old.now / gate_size = grind (arith, nat_tests) in
    position_no (gates_of a.self.old.now) (gates_of a.self.new.now) a.self.table.now (lengths_are a.self.old.now a.self.new.now a.self.table.now same) c.loop-i.i c.loop-i.invariant (omega arith)
    (sym c.is_sound.ensures ∙ c.if-not-is_sound.true)

pub returns : goal.returns
returns c =
    let a = c.args in
    let same : (eqb (length a.self.new.now / gate_size) (length a.self.old.now / gate_size) && eqb (length a.self.table.now) (length a.self.old.now / gate_size)) ≡ true = grind (arith, nat_tests) in
    let table_long : length a.self.table.now ≡ length a.self.old.now / gate_size = grind (arith, nat_tests) in
    positions_yes (gates_of a.self.old.now) (gates_of a.self.new.now) a.self.table.now (lengths_are a.self.old.now a.self.new.now a.self.table.now same) c.loop-i.i c.loop-i.invariant (omega arith)

pub returns-then-self-count : goal.returns-then-self-count
returns-then-self-count c =
    let a = c.args in
    let differ : (eqb (length a.self.new.now / gate_size) (length a.self.old.now / gate_size) && eqb (length a.self.table.now) (length a.self.old.now / gate_size)) ≡ false = grind (arith, nat_tests) in
    sym (lengths_differ (gates_of a.self.old.now) (gates_of a.self.new.now) a.self.table.now (lengths_are a.self.old.now a.self.new.now a.self.table.now differ))
