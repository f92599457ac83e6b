-- the next token.
use Prim.Native.Nat.{◌-◌}
use lib.ListN.{length}
use mathlib.Core.Path.{◌≡◌}
use Rattle.qasm.specs.Inner.Left.{tokens_left}
use Rattle.qasm.proofs.tokens.TokensIterator.next.Given as goal

abbrev pub invariant-loop-part : goal.invariant-loop-part
invariant-loop-part l = tokens_left l.fn.self ≡ tokens_left l.self

abbrev pub decreases-loop-part : goal.decreases-loop-part
decreases-loop-part l = length l.self.text.now - l.self.at
