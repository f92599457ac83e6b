-- What a call answers: document 01's number and index of each refusal. A refusal that a later call brings gets its line here.
use Rattle.std.specs.Prelude.{◌≡◌, ℕ, eqb, Result, Ok, Err, is_ok}
use Rattle.verdict.specs.declared.Refusal.{Refusal}
use Rattle.verdict.specs.declared.Refusal.TheVariants.{OverLimit, UnsupportedAt, OperandAt, BadStore, MalformedAt, OverCeiling, TooHeavy, ShortBuffer, TooLarge, Malformed}
use Rattle.verdict.specs.declared.Refusal.TheVariants.{BadLayers, ClashAt, BadText, UnknownNameAt, NotScheduleAt, ZeroBlock, BadNodeAt, BadAxisAt, NoOutcomeAt, NoPlace, NoGate, NotHermitianAt, NotPlainAt, TooManyPairs, BadCounts}

abbrev pub refusal_number : Refusal → ℕ
refusal_number OverLimit = 1
refusal_number (UnsupportedAt i) = 2
refusal_number (OperandAt i) = 3
refusal_number BadStore = 4
refusal_number (MalformedAt i) = 5
refusal_number OverCeiling = 6
refusal_number TooHeavy = 7
refusal_number ShortBuffer = 8
refusal_number TooLarge = 9
refusal_number Malformed = 10
refusal_number BadLayers = 11
refusal_number (ClashAt i) = 12
refusal_number BadText = 13
refusal_number (UnknownNameAt i) = 14
refusal_number (NotScheduleAt i) = 15
refusal_number ZeroBlock = 16
refusal_number (BadNodeAt i) = 17
refusal_number (BadAxisAt i) = 18
refusal_number (NoOutcomeAt i) = 19
refusal_number NoPlace = 20
refusal_number NoGate = 21
refusal_number (NotHermitianAt i) = 22
refusal_number (NotPlainAt i) = 23
refusal_number TooManyPairs = 24
refusal_number BadCounts = 25

-- 0 where the refusal names no index
abbrev pub refusal_index : Refusal → ℕ
refusal_index OverLimit = 0
refusal_index (UnsupportedAt i) = i
refusal_index (OperandAt i) = i
refusal_index BadStore = 0
refusal_index (MalformedAt i) = i
refusal_index OverCeiling = 0
refusal_index TooHeavy = 0
refusal_index ShortBuffer = 0
refusal_index TooLarge = 0
refusal_index Malformed = 0
refusal_index BadLayers = 0
refusal_index (ClashAt i) = i
refusal_index BadText = 0
refusal_index (UnknownNameAt i) = i
refusal_index (NotScheduleAt i) = i
refusal_index ZeroBlock = 0
refusal_index (BadNodeAt i) = i
refusal_index (BadAxisAt i) = i
refusal_index (NoOutcomeAt i) = i
refusal_index NoPlace = 0
refusal_index NoGate = 0
refusal_index (NotHermitianAt i) = i
refusal_index (NotPlainAt i) = i
refusal_index TooManyPairs = 0
refusal_index BadCounts = 0

-- 0 where a call was accepted
abbrev pub verdict_number : {A : Type 0} → Result A Refusal → ℕ
verdict_number (Ok x) = 0
verdict_number (Err r) = refusal_number r

-- what is said of acceptance holds of the number that a caller reads: it is 0 exactly where the call was accepted
abbrev pub Numbered : {A : Type 0} → Result A Refusal → Type 0
Numbered v = eqb (verdict_number v) 0 ≡ is_ok v

abbrev pub verdict_index : {A : Type 0} → Result A Refusal → ℕ
verdict_index (Ok x) = 0
verdict_index (Err r) = refusal_index r
