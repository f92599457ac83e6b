-- `reasons::sentence` meets its contract: each sentence by computation.
use mathlib.Core.Path.{◌≡◌, sym, ap}
use Rattle.std.specs.Prelude.{Err}
use Rattle.verdict.specs.declared.Refusal.{Refusal}
use Rattle.answers.specs.Reasons.{reason}
use Rattle.answers.proofs.reasons.sentence.Goals as goal

of : {r s : Refusal} → r ≡ s → reason (Err s) ≡ reason (Err r)
of e = ap (λ (r : Refusal). reason (Err r)) (sym e)

pub returns-in-OverLimit : goal.returns-in-OverLimit
returns-in-OverLimit c = of c.in-OverLimit.is

pub returns-in-UnsupportedAt : goal.returns-in-UnsupportedAt
returns-in-UnsupportedAt c = of c.in-UnsupportedAt.is

pub returns-in-OperandAt : goal.returns-in-OperandAt
returns-in-OperandAt c = of c.in-OperandAt.is

pub returns-in-BadStore : goal.returns-in-BadStore
returns-in-BadStore c = of c.in-BadStore.is

pub returns-in-MalformedAt : goal.returns-in-MalformedAt
returns-in-MalformedAt c = of c.in-MalformedAt.is

pub returns-in-OverCeiling : goal.returns-in-OverCeiling
returns-in-OverCeiling c = of c.in-OverCeiling.is

pub returns-in-TooHeavy : goal.returns-in-TooHeavy
returns-in-TooHeavy c = of c.in-TooHeavy.is

pub returns-in-ShortBuffer : goal.returns-in-ShortBuffer
returns-in-ShortBuffer c = of c.in-ShortBuffer.is

pub returns-in-TooLarge : goal.returns-in-TooLarge
returns-in-TooLarge c = of c.in-TooLarge.is

pub returns-in-Malformed : goal.returns-in-Malformed
returns-in-Malformed c = of c.in-Malformed.is

pub returns-in-BadLayers : goal.returns-in-BadLayers
returns-in-BadLayers c = of c.in-BadLayers.is

pub returns-in-ClashAt : goal.returns-in-ClashAt
returns-in-ClashAt c = of c.in-ClashAt.is

pub returns-in-BadText : goal.returns-in-BadText
returns-in-BadText c = of c.in-BadText.is

pub returns-in-UnknownNameAt : goal.returns-in-UnknownNameAt
returns-in-UnknownNameAt c = of c.in-UnknownNameAt.is

pub returns-in-NotScheduleAt : goal.returns-in-NotScheduleAt
returns-in-NotScheduleAt c = of c.in-NotScheduleAt.is

pub returns-in-ZeroBlock : goal.returns-in-ZeroBlock
returns-in-ZeroBlock c = of c.in-ZeroBlock.is

pub returns-in-BadNodeAt : goal.returns-in-BadNodeAt
returns-in-BadNodeAt c = of c.in-BadNodeAt.is

pub returns-in-BadAxisAt : goal.returns-in-BadAxisAt
returns-in-BadAxisAt c = of c.in-BadAxisAt.is

pub returns-in-NoOutcomeAt : goal.returns-in-NoOutcomeAt
returns-in-NoOutcomeAt c = of c.in-NoOutcomeAt.is

pub returns-in-NoPlace : goal.returns-in-NoPlace
returns-in-NoPlace c = of c.in-NoPlace.is

pub returns-in-NoGate : goal.returns-in-NoGate
returns-in-NoGate c = of c.in-NoGate.is

pub returns-in-NotHermitianAt : goal.returns-in-NotHermitianAt
returns-in-NotHermitianAt c = of c.in-NotHermitianAt.is

pub returns-in-NotPlainAt : goal.returns-in-NotPlainAt
returns-in-NotPlainAt c = of c.in-NotPlainAt.is

pub returns-in-TooManyPairs : goal.returns-in-TooManyPairs
returns-in-TooManyPairs c = of c.in-TooManyPairs.is

pub returns-in-BadCounts : goal.returns-in-BadCounts
returns-in-BadCounts c = of c.in-BadCounts.is
