-- `sum::checksum` meets its contract.
use Rattle.std.proofs.Common.{◌≡◌, take}
use Rattle.std.specs.List.{fold}
use Rattle.replay.specs.Checksum.{sums, with_word}
use Rattle.replay.proofs.sum.checksum.Given as goal

abbrev pub invariant-loop-w : goal.invariant-loop-w
invariant-loop-w l = l.sums ≡ fold with_word (sums 0 0) (take l.w-index l.words)
