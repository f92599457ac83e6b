-- `names::gate_named` meets its contract.
use Rattle.std.proofs.Common.{◌≡◌, map, drop}
use Rattle.qasm.specs.Forms.{table}
use Rattle.qasm.specs.Inner.Pieces.{entry_named}
use Rattle.qasm.proofs.Named.{entry_in}
use Rattle.qasm.proofs.names.gate_named.Given as goal

abbrev pub invariant-loop-name : goal.invariant-loop-name
invariant-loop-name l = entry_named l.word table ≡ entry_named l.word (map entry_in (drop l.name-index l.name-items))
