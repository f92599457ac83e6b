-- `lookup::locate` meets its contract.
use mathlib.Core.Path.{sym, ◌∙◌}
use native.Mathlib.Omega.{arith}
use Rattle.store.proofs.Bytes.{fits_word}
use Rattle.channel.proofs.Words.{square_small}
use Rattle.channel.proofs.Judging.{passed_is}
use Rattle.channel.proofs.Finding.{inside_there}
use Rattle.channel.proofs.lookup.locate.Goals as goal

pub pack-requires : goal.pack-requires
pack-requires c =
    let s = c.args in
    let p = passed_is s.s.now c.in-Ok.ensures in
    let f = fits_word c.in-Ok.h.bits s.store.now (sym c.is_store.ensures ∙ c.if-not-is_store.false) in
    (omega (arith, f.0, p.few), f.1)

pub overflow_mul-w : goal.overflow_mul-w
overflow_mul-w c = omega (arith, square_small _ (passed_is c.args.s.now c.in-Ok.ensures).narrow)

pub overflow_add-result : goal.overflow_add-result
overflow_add-result c =
    let s = c.args in
    let q = inside_there s.s.now s.store.now c.in-Ok.ensures (sym c.is_store.ensures ∙ c.if-not-is_store.false) c.pack.ensures c.in_ok-at.ensures in
    omega arith

pub block_size-requires : goal.block_size-requires
block_size-requires c = square_small _ (passed_is c.args.s.now c.in-Ok.ensures).narrow
