-- The number that the phase test replies with.
use Rattle.std.specs.Prelude.{ℕ, Result, Ok, Err}
use Rattle.verdict.specs.declared.Refusal.{Refusal}
use Rattle.verdict.specs.Verdict.{refusal_number}
use Rattle.matrix.specs.declared.Phase.{Phase}
use Rattle.matrix.specs.declared.Phase.TheVariants.{Equivalent, Different}
use Rattle.c_scalars.specs.Replies.{equivalent, different}

abbrev pub found_number : Phase → ℕ
found_number Equivalent = equivalent
found_number Different = different

-- a refusal's number, or what was found
abbrev pub phase_number : Result Phase Refusal → ℕ
phase_number (Ok p) = found_number p
phase_number (Err r) = refusal_number r
