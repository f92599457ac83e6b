-- `turn_pair` meets its contract.
use Rattle.branches.proofs.Chosen.{mixed_rows, exchanged_rows, mixing_by, mixed_by}
use Rattle.branches.proofs.cores.turn_pair.Goals as goal

pub mix_constants-requires-then-r-m-eq0 : goal.mix_constants-requires-then-r-m-eq0
mix_constants-requires-then-r-m-eq0 c =
    let a = c.args in
    let (p, (n, (k, (h, e)))) = c.requires.masks in
    mixing_by p a.core n k h (mixed_rows p a.core n k h c.if-r-held.false c.if-r-m-eq0.true) a.work.now a.p a.q a.d c.requires.mixing

pub returns-then-r-m-eq0 : goal.returns-then-r-m-eq0
returns-then-r-m-eq0 c =
    let a = c.args in
    let (p, (n, (k, (h, e)))) = c.requires.masks in
    mixed_by p a.core n k h (mixed_rows p a.core n k h c.if-r-held.false c.if-r-m-eq0.true) a.work.now a.p a.q a.d c.mix_constants-then-r-m-eq0.ensures

pub mix_constants-requires-2 : goal.mix_constants-requires-2
mix_constants-requires-2 c =
    let a = c.args in
    let (p, (n, (k, (h, e)))) = c.requires.masks in
    mixing_by p a.core n k h (exchanged_rows p a.core n k h c.if-r-held.false c.if-r-m-eq0.false c.one_over-one.ensures) a.work.now a.p a.q a.d c.requires.mixing

pub returns : goal.returns
returns c =
    let a = c.args in
    let (p, (n, (k, (h, e)))) = c.requires.masks in
    mixed_by p a.core n k h (exchanged_rows p a.core n k h c.if-r-held.false c.if-r-m-eq0.false c.one_over-one.ensures) a.work.now a.p a.q a.d c.mix_constants-2.ensures
