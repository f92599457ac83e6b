-- `states::put_store` meets its contract.
use Prim.Native.Nat.{◌-◌}
use Rattle.text.proofs.Put.{Left}
use Rattle.answers.proofs.Bits.{bit_bytes}
use Rattle.answers.proofs.states.put_store.Given as goal

abbrev pub invariant-loop : goal.invariant-loop
invariant-loop l = Left l.initial.out (bit_bytes l.m l.store) l.out (bit_bytes (l.m - l.counter) l.rest)
