-- `numeral::read` meets its contract.
use Rattle.std.proofs.Common.{◌≡◌, ◌≤◌, length, drop, max}
use Rattle.replay.specs.Numerals.{word_from, word_at}
use Rattle.replay.proofs.numeral.read.Given as goal

abbrev pub invariant-loop-i : goal.invariant-loop-i
invariant-loop-i l = record { inside : l.i ≤ max l.at (length l.text); word : word_at l.text l.at ≡ word_from l.digits l.i (drop l.i l.text) }
