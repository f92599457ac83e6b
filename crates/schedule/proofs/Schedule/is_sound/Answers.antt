-- The entry, the gate there, and those before it.
use mathlib.Core.Path.{refl, sym, ◌∙◌}
use mathlib.Core.Bool.{true, false}
use borrow.Author.Tests.{not-true, not-false}
use Rattle.schedule.proofs.Asked.{past_end, in_place}
use Rattle.schedule.proofs.Schedule.is_sound.Goals as goal

pub returns-then-self-place : goal.returns-then-self-place
returns-then-self-place c = let a = c.args in past_end a.self.old.now a.self.new.now a.self.table.now a.i c.if-self-place.true

pub returns : goal.returns
returns c =
    let a = c.args in
    in_place a.self.old.now a.self.new.now a.self.table.now a.i c.if-self-place.false c.gate_at-g.ensures c.gate_at-h.ensures true _ (sym (not-false _ (sym c.ne.ensures ∙ c.if-ne.false))) c.is_free.ensures
