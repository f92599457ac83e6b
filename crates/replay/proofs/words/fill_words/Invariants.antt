-- `words::fill_words` meets its contract.
use Rattle.std.proofs.Common.{◌≡◌, ◌-◌}
use Rattle.replay.specs.Words.{placed}
use Rattle.replay.proofs.words.fill_words.Given as goal

abbrev pub invariant-loop-i : goal.invariant-loop-i
invariant-loop-i l = placed l.text l._i-end l.initial.next l.initial.buf ≡ placed l.text (l._i-end - l._i) l.next l.buf
