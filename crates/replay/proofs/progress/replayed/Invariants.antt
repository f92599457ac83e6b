-- `progress::replayed` meets its contract: each turn leaves one case less.
use Rattle.std.proofs.Common.{◌≡◌, ◌-◌}
use Rattle.replay.specs.Progress.{with_nexts, replay_of}
use Rattle.replay.proofs.progress.replayed.Given as goal

abbrev pub invariant-loop-i : goal.invariant-loop-i
invariant-loop-i g l = replay_of (λ kind. g.C.Cases.record_of (g.C.Cases.case_of kind)) l.text ≡ with_nexts (λ kind. g.C.Cases.record_of (g.C.Cases.case_of kind)) l.text (l._i-end - l._i) l.progress
