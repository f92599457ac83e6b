-- `compare::enter` meets its contract.
use native.Mathlib.Omega.{arith}
use Rattle.channel.proofs.Chain.{on-inside, on-words}
use Rattle.compare.proofs.enter.Goals as goal

pub read_store-store-requires : goal.read_store-store-requires
read_store-store-requires c = let h = c.if-left-eq0.false in let q = on-inside c.requires (omega arith) in (omega arith, on-words c.requires (omega arith))
