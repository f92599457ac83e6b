-- `judge_blocks` meets its contract.
use Rattle.std.specs.Prelude.{is_none, unwrap_or}
use mathlib.Core.Path.{◌≡◌}
use mathlib.Core.Bool.{true, false}
use Prim.Native.Nat.{◌-◌}
use lib.IntN.{nat_abs}
use Rattle.channel.specs.Layout.{word, form_of}
use Rattle.channel.proofs.Judging.{chain_found}
use Rattle.form_judge.specs.Faults.{fault_from}
use Rattle.form_judge.proofs.Faults.{faults}
use Rattle.form_judge.proofs.judge_blocks.Given as goal

abbrev pub invariant-loop-i : goal.invariant-loop-i
invariant-loop-i l =
    let G = form_of l.form.side l.to in
    (chain_found l.form l.s l.m l.count l.count (word l.s 3) true 0 false ≡ chain_found l.form l.s l.m l.count (l.count - l.i) l.z (is_none l.prev) (unwrap_or l.prev 0) l.blank)
    × (fault_from l.form G l.s l.count (nat_abs (word l.s 3)) ≡ faults l.form G l.s l.i l.fault (l.count - l.i) (nat_abs l.z))
