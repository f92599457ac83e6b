-- Refusals in words: what is wrong, and what to do.
use Rattle.std.specs.Prelude.{List, ℕ, Ok, Err}
use Prim.Native.String.{String}
use Rattle.verdict.specs.Questions.{Verdict}
use Rattle.verdict.specs.declared.Refusal.TheVariants.{OverLimit, UnsupportedAt, OperandAt, BadStore, MalformedAt, OverCeiling, TooHeavy, ShortBuffer, TooLarge, Malformed}
use Rattle.verdict.specs.declared.Refusal.TheVariants.{BadLayers, ClashAt, BadText, UnknownNameAt, NotScheduleAt, ZeroBlock, BadNodeAt, BadAxisAt, NoOutcomeAt, NoPlace, NoGate, NotHermitianAt, NotPlainAt, TooManyPairs, BadCounts}
use Rattle.answers.specs.Utf8.{utf8}

abbrev pub sentence : Verdict → String
sentence (Ok tt) = "The circuit is accepted."
sentence (Err OverLimit) = "The circuit is over a limit on qubits, classical bits, gates, branches or size: make it smaller, or raise that limit, at most to its ceiling."
sentence (Err (UnsupportedAt i)) = "This gate is not supported: write it with gates that are, where rz turns by multiples of pi/4."
sentence (Err (OperandAt i)) = "This gate names a qubit or a bit that is not there, or a qubit twice: name different ones, numbered from 0."
sentence (Err BadStore) = "The initial store does not fit the circuit: give one value, 0 or 1, for each classical bit, at most 64 of them."
sentence (Err (MalformedAt i)) = "This gate's words are malformed, or the list's length is no multiple of 5: give five words a gate, a known kind first, and 0 where a kind uses no word."
sentence (Err OverCeiling) = "A limit is above its ceiling: lower it to the ceiling."
sentence (Err TooHeavy) = "The gates h, ch and sx number more than 56: use fewer of them."
sentence (Err ShortBuffer) = "A buffer is too short for the result or for the work: lend a longer one."
sentence (Err TooLarge) = "A number is too large: use numbers that stay in range, and factors that are narrow."
sentence (Err Malformed) = "A scalar, matrix or channel is malformed: hand in words as the judge leaves them."
sentence (Err BadLayers) = "The ends of the layers do not rise from at least 1 to the number of gates: correct their list."
sentence (Err (ClashAt i)) = "This gate shares a qubit or a bit with an earlier gate of its layer: move it to another layer."
sentence (Err BadText) = "The text is not OpenQASM 2 in the form that is read: correct it at this place."
sentence (Err (UnknownNameAt i)) = "This gate or register is not known here: use a gate that can be read and written, or a declared register."
sentence (Err (NotScheduleAt i)) = "The new list is no schedule of the old one at this gate: list each old gate once, by its old position, and keep the order of gates that share a qubit or a bit."
sentence (Err ZeroBlock) = "A block of the channel is zero in every entry: leave such blocks out."
sentence (Err (BadNodeAt i)) = "This node names a qubit that is not there, or a node that does not come before it: name qubits from 0 and earlier nodes."
sentence (Err (BadAxisAt i)) = "The axis of this operation is no node of the program, or is not its own adjoint: name a node, with a phase that makes it Hermitian."
sentence (Err (NoOutcomeAt i)) = "This operation asks for an outcome that is not yet made: name one of an earlier measure."
sentence (Err NoPlace) = "There is no free place for another gate: lend more words, for at most 1,024 gates."
sentence (Err NoGate) = "There is no gate at this position: name one that holds a gate."
sentence (Err (NotHermitianAt i)) = "This block of the channel is not Hermitian: hand in a channel as the judge leaves it."
sentence (Err (NotPlainAt i)) = "This gate or block is outside the plain profile, whose numbers have no square root of 2: keep to the gates of the profile."
sentence (Err TooManyPairs) = "There are more than 32 pairs: give them in several lists."
sentence (Err BadCounts) = "The words are not those of a kept circuit as its calls leave them: start it anew."

abbrev pub reason : Verdict → List ℕ
reason v = utf8 (sentence v)
