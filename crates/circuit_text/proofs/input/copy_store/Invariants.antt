-- `input::copy_store` meets its contract.
use Rattle.circuit_text.proofs.Shapes.{Copied}
use Rattle.circuit_text.proofs.input.copy_store.Given as goal

abbrev pub invariant-loop-i : goal.invariant-loop-i
invariant-loop-i l = Copied l.numbers l.m l.initial.store l.store l.i
