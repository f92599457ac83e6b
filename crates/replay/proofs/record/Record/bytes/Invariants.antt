-- `Record::bytes` meets its contract.
use Rattle.std.proofs.Common.{◌≡◌, take}
use Rattle.replay.specs.Record.{with_bytes}
use Rattle.replay.proofs.record.Record.bytes.Given as goal

abbrev pub invariant-loop-b : goal.invariant-loop-b
invariant-loop-b l = l.seen ≡ with_bytes l.text l.initial.seen (take l.b-index l.bs)
