-- `well_formed::judge_chain` meets its contract.
use Rattle.std.specs.Prelude.{is_none, unwrap_or}
use mathlib.Core.Path.{◌≡◌}
use mathlib.Core.Bool.{true, false}
use Prim.Native.Nat.{◌-◌}
use Rattle.channel.specs.Layout.{word}
use Rattle.channel.proofs.Judging.{chain_found}
use Rattle.channel.proofs.well_formed.judge_chain.Given as goal

abbrev pub invariant-loop-i : goal.invariant-loop-i
invariant-loop-i l = chain_found l.form l.s l.m l.count l.count (word l.s 3) true 0 false ≡ chain_found l.form l.s l.m l.count (l.count - l.i) l.z (is_none l.prev) (unwrap_or l.prev 0) l.blank
