-- `step_gate` meets its contract.
use mathlib.Core.Path.{refl, sym, ap, ◌∙◌, subst}
use Prim.Native.Nat.{ℕ, ◌*◌}
use native.Mathlib.Omega.{arith}
use Rattle.gate.specs.Gate.{Gate}
use Rattle.gate.specs.Inner.Words.{gate_of}
use Rattle.branches.specs.Inner.Run.{GateStep}
use Rattle.branches.proofs.Gates.{splits-none, place-kept, place-other, gate_left}
use Rattle.branches.proofs.run.step_gate.Goals as goal

pub split_gate-requires : goal.split_gate-requires
split_gate-requires c =
    let a = c.args in
    (λ e. c.if-splits-ne0.true (c.splits.ensures ∙ e), subst (λ (g : Gate). GateStep a.work.now g a.n a.from.d a.from.at a.to a.from.count) (sym c.read_gate-g.ensures) c.requires.branches)

pub returns-then-splits-ne0 : goal.returns-then-splits-ne0
returns-then-splits-ne0 c =
    let a = c.args in
    let g = gate_of c.read_gate-g.result in
    let (bank, words) = gate_left a.work.now a.n a.from.d a.from.at a.to a.from.count c.read_gate-g.ensures (place-other g a.from.at a.to (λ e. c.if-splits-ne0.true (c.splits.ensures ∙ e))) refl c.split_gate.ensures.words in
    record { bank = c.split_gate.ensures.bank ∙ bank; words = words }

pub turn_gate-requires : goal.turn_gate-requires
turn_gate-requires c =
    let a = c.args in
    (sym c.splits.ensures ∙ c.if-splits-ne0.false, subst (λ (g : Gate). GateStep a.work.now g a.n a.from.d a.from.at a.to a.from.count) (sym c.read_gate-g.ensures) c.requires.branches)

pub returns : goal.returns
returns c =
    let a = c.args in
    let g = gate_of c.read_gate-g.result in
    let none = sym c.splits.ensures ∙ c.if-splits-ne0.false in
    let f = a.from in
    let (bank, words) = gate_left a.work.now a.n f.d f.at a.to f.count c.read_gate-g.ensures (place-kept g f.at a.to none) (omega (arith, splits-none g none, ap (λ (k : ℕ). f.count * k) (splits-none g none))) c.turn_gate.ensures in
    record { bank = bank; words = words }
