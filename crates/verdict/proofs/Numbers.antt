-- No refusal has the number 0.
use mathlib.Core.Path.{◌≡◌, refl}
use mathlib.Core.Bool.{false}
use lib.Dec.{eqb}
use Rattle.std.specs.Prelude.{Result, Ok, Err}
use Rattle.verdict.specs.declared.Refusal.{Refusal}
use Rattle.verdict.specs.declared.Refusal.TheVariants.{OverLimit, UnsupportedAt, OperandAt, BadStore, MalformedAt, OverCeiling, TooHeavy, ShortBuffer, TooLarge, Malformed}
use Rattle.verdict.specs.declared.Refusal.TheVariants.{BadLayers, ClashAt, BadText, UnknownNameAt, NotScheduleAt, ZeroBlock, BadNodeAt, BadAxisAt, NoOutcomeAt, NoPlace, NoGate, NotHermitianAt, NotPlainAt, TooManyPairs, BadCounts}
use Rattle.verdict.specs.Verdict.{refusal_number, Numbered}

refused : (r : Refusal) → eqb (refusal_number r) 0 ≡ false
refused OverLimit = refl
refused (UnsupportedAt i) = refl
refused (OperandAt i) = refl
refused BadStore = refl
refused (MalformedAt i) = refl
refused OverCeiling = refl
refused TooHeavy = refl
refused ShortBuffer = refl
refused TooLarge = refl
refused Malformed = refl
refused BadLayers = refl
refused (ClashAt i) = refl
refused BadText = refl
refused (UnknownNameAt i) = refl
refused (NotScheduleAt i) = refl
refused ZeroBlock = refl
refused (BadNodeAt i) = refl
refused (BadAxisAt i) = refl
refused (NoOutcomeAt i) = refl
refused NoPlace = refl
refused NoGate = refl
refused (NotHermitianAt i) = refl
refused (NotPlainAt i) = refl
refused TooManyPairs = refl
refused BadCounts = refl

pub numbered : {A : Type 0} (v : Result A Refusal) → Numbered v
numbered (Ok x) = refl
numbered (Err r) = refused r
