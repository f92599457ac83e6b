-- `share_row` meets its contract.
use mathlib.Core.Path.{sym, ◌∙◌}
use Prim.Native.Nat.{◌+◌, ◌*◌}
use native.Mathlib.Nat.{le_refl}
use native.Mathlib.Omega.{arith}
use Rattle.algebra.specs.Quadratic.{conjugate}
use Rattle.algebra.proofs.Blocks.{wrote, long}
use Rattle.exact.specs.Exact.{root2, list_of}
use Rattle.share.specs.Share.{number_in}
use Rattle.overlaps.proofs.Rows.{diagonal-room}
use Rattle.hermitian.proofs.Mirrored.{row-none, row_done}
use Rattle.hermitian.proofs.share_row.Goals as goal

pub returns-then-is_zero_row : goal.returns-then-is_zero_row
returns-then-is_zero_row c = let a = c.args in row-none a.s.now a.out a.w a.r a.t (c.requires.0.row.none (sym c.is_zero_row.ensures ∙ c.if-is_zero_row.true))

pub shift_words-requires : goal.shift_words-requires
shift_words-requires c =
    let a = c.args in
    let row = c.requires.0.row in
    let same = wrote {s = 4} {l = a.s.now} {at = a.out + a.r * a.w * 4} {n = a.r} {f = λ i. list_of (conjugate root2 (number_in a.s.now (a.out + (i * a.w + a.r) * 4)))} (λ k. le_refl 4) c.mirror_column.ensures in
    (omega (arith, row.room, diagonal-room a.out a.w a.r row.inside, long same), c.requires.1)

pub returns : goal.returns
returns c = let a = c.args in row_done a.s.now a.out a.w a.r a.t c.requires.0.row.inside c.mirror_column.ensures c.shift_words.ensures
