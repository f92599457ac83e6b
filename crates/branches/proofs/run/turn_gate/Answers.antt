-- `turn_gate` meets its contract.
use mathlib.Core.Path.{◌≡◌, sym, ◌∙◌, subst}
use mathlib.Core.Bool.{true}
use Prim.Native.Nat.{ℕ}
use Rattle.std.specs.Prelude.{None}
use Rattle.gate.specs.Gate.{Gate, splits}
use Rattle.gate.specs.Inner.Entries.{Ready, core_of}
use Rattle.gate.specs.Inner.Tables.{phase_of, place, is_core, core_at}
use Rattle.gate.proofs.Represented.{at-phase, at-place}
use Rattle.branches.proofs.Gates.{turning_asked, turning_done}
use Rattle.branches.proofs.run.turn_gate.Goals as goal

-- the matrix of a gate that is no phase
listed : {n p : ℕ} {g : Gate} → p ≡ place g.kind → Ready n g 0 → phase_of g.kind g.k ≡ None → splits g ≡ 0 → is_core (core_at p) (core_of g 0) ≡ true
listed {g = g} e ready phase none = subst (λ (p : ℕ). is_core (core_at p) (core_of g 0) ≡ true) (sym e) (at-place ready phase none)

pub turn_phase-requires : goal.turn_phase-requires
turn_phase-requires c = let (none, p) = c.requires in turning_asked p none _ (at-phase p.ready (sym c.phase_at.ensures ∙ c.in-Some.is)) c.flips-m.ensures c.controls-held.ensures

pub returns-in-Some : goal.returns-in-Some
returns-in-Some c = let (none, p) = c.requires in turning_done p none _ (at-phase p.ready (sym c.phase_at.ensures ∙ c.in-Some.is)) c.flips-m.ensures c.controls-held.ensures c.turn_phase.ensures

pub turn_listed-requires : goal.turn_listed-requires
turn_listed-requires c =
    let (none, p) = c.requires in
    let e = c.place_at.ensures in
    (e.inside, turning_asked p none _ (listed e.value p.ready (sym c.phase_at.ensures ∙ c.in-None.is) none) c.flips-m.ensures c.controls-held.ensures)

pub returns-in-None : goal.returns-in-None
returns-in-None c =
    let (none, p) = c.requires in
    turning_done p none _ (listed c.place_at.ensures.value p.ready (sym c.phase_at.ensures ∙ c.in-None.is) none) c.flips-m.ensures c.controls-held.ensures c.turn_listed.ensures
