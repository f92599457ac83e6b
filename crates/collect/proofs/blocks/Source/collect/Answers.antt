-- `Source::collect` meets its contract.
use mathlib.Core.Path.{◌≡◌, sym, ap, ◌∙◌}
use mathlib.Core.Bool.{true, ◌&&◌}
use Prim.Native.Nat.{ℕ, ◌+◌, ◌*◌, ◌≤◌}
use native.Mathlib.Omega.{arith}
use lib.ListN.{length}
use Rattle.channel.specs.Layout.{record_head, header_size, record_size, channels, side}
use Rattle.collect.specs.Inner.Bank.{starts}
use Rattle.collect.proofs.Recording.{record_room}
use Rattle.collect.proofs.blocks.Source.collect.Goals as goal
use Rattle.collect.proofs.blocks.Source.collect.Goals.{Else-not-is_first, After-record_size}

-- a branch that starts a record
starting : (c : Else-not-is_first) → let b = c.args.self.branch in starts b.work.now b.bank.at b.bank.d b.j ≡ true
starting c = λ i. (sym c.is_alive.ensures ∙ c.if-not-is_alive.false) i && (sym c.is_first.ensures ∙ c.if-not-is_first.false) i

-- it has room for it
started : (c : Else-not-is_first) → header_size + c.args.n * record_size (channels c.args.self.branch.bank.d) + record_size (channels c.args.self.branch.bank.d) ≤ length c.args.res.now
started c = record_room c.requires (starting c)

room : (c : After-record_size) → header_size + c.args.n * c.record_size.result + record_size (channels c.args.self.branch.bank.d) ≤ length c.args.res.now
room c = omega (arith, started c.before, ap (λ (k : ℕ). c.args.n * k) c.record_size.ensures)

-- a record's place is no smaller than its number
grows : (n k : ℕ) → n ≤ n * (record_head + k * 4)
grows n k = omega arith

pub overflow_mul-to : goal.overflow_mul-to
overflow_mul-to c = let q = room c in omega arith

pub overflow_add-to : goal.overflow_add-to
overflow_add-to c = let q = room c in omega arith

pub write_record-requires : goal.write_record-requires
write_record-requires c = let q = room c.before in record { room = omega arith; first = starting c.before.before }

pub overflow_add-result : goal.overflow_add-result
overflow_add-result c = let d = c.args.self.branch.bank.d in omega (arith, started c.before.before.before.before, grows c.args.n (side d * side d))
