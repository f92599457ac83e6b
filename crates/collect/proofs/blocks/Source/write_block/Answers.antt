-- `Source::write_block` meets its contract.
use mathlib.Core.Path.{ap, ◌∙◌}
use native.Mathlib.Omega.{arith}
use lib.ListN.{set}
use lib.IntN.{pos}
use mir.Syntax.{w64}
use mir.Facts.{to_z_pos}
use Rattle.collect.specs.Inner.Bank.{store_of, shared_of}
use Rattle.collect.proofs.Sharing.{block_written}
use Rattle.collect.proofs.blocks.Source.write_block.Goals as goal

pub returns : goal.returns
returns c =
    let s = c.args in
    let b = s.self.branch in
    let form = shared_of b.work.now b.bank.at b.bank.d b.bank.count (store_of b.work.now b.bank.at b.bank.d b.j) in
    let shared = c.write_shared-shared in
    let exponent = to_z_pos w64 {n = shared.result} (omega arith) ∙ ap pos shared.ensures.exponent in
    (λ i. set (shared.ensures.numerators i) s.to (exponent i)) ∙ block_written s.res.now s.to b.bank.d form.num (pos form.exp)
