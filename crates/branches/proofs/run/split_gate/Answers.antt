-- `split_gate` meets its contract.
use mathlib.Core.Path.{refl, sym, ap, ◌∙◌}
use Prim.Native.Nat.{ℕ, ◌*◌}
use lib.ListN.{length}
use Rattle.std.specs.Prelude.{Option, is_some, unwrap_or}
use Rattle.gate.specs.Operators.{operators}
use Rattle.gate.specs.Inner.Words.{gate_of}
use Rattle.branches.specs.Inner.Store.{no_bit}
use Rattle.branches.specs.Inner.Run.{gate_stepped}
use Rattle.branches.specs.declared.bank.Bank.{Bank}
use Rattle.branches.proofs.Gates.{splits-some, place-other, bit_is, gate_splits, gate_done}
use Rattle.branches.proofs.Splits.{halves}
use Rattle.branches.proofs.run.split_gate.Goals as goal

pub split-requires : goal.split-requires
split-requires c =
    let (some, p) = c.requires in
    let e = c.flips.ensures in
    let h = halves p.few p.ready some e c.is_none.result (ap is_some (sym c.bit-bit.ensures) ∙ c.is_none.ensures) in
    gate_splits p refl e (splits-some (gate_of c.args.g) some) h.first (λ _. h.second) refl

pub returns : goal.returns
returns c =
    let a = c.args in
    let g = gate_of a.g in
    let (some, p) = c.requires in
    let e = c.flips.ensures in
    let h = halves p.few p.ready some e c.is_none.result (ap is_some (sym c.bit-bit.ensures) ∙ c.is_none.ensures) in
    let f = a.from in
    let place = place-other g f.at a.to some in
    let (bank, words) = gate_done p refl e (splits-some g some) h.first (λ _. h.second) place refl refl (ap (λ (o : Option ℕ). unwrap_or o no_bit) c.bit-bit.ensures ∙ bit_is g) c.split.ensures in
    record { bank = bank ∙ ap {B = Bank} (λ (k : ℕ). record { at = k; d = f.d; count = f.count * length (operators g) }) (sym place); words = words ∙ ap (λ (k : ℕ). gate_stepped a.work.now a.n f.d f.at k f.count g) (sym place) }
