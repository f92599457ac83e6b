-- The gate that the code's struct holds.
use Rattle.gate.specs.declared.judge.GateWords.{GateWords}
use Rattle.gate.specs.Gate.{Gate, gate}

abbrev pub gate_of : GateWords → Gate
gate_of w = gate w.kind w.a w.b w.c w.k
