-- `numbers::read_numbers` meets its contract.
use Rattle.std.proofs.Common.{◌≡◌, length}
use Rattle.circuit_text.specs.Text.{pieces}
use Rattle.circuit_text.proofs.Pieces.{Taken}
use Rattle.circuit_text.proofs.numbers.read_numbers.Given as goal

abbrev pub invariant-loop-piece : goal.invariant-loop-piece
invariant-loop-piece l = record { count : l.count ≡ length l.yielded; taken : Taken (pieces l.text) l.initial.numbers l.numbers l.count }
