-- `fold_row` meets its contract.
use mathlib.Core.Path.{refl, sym, ap, ◌∙◌}
use mathlib.Core.List.{List}
use mathlib.Core.Logic.{inl}
use Prim.Native.Nat.{ℕ, ◌+◌, ◌*◌, ◌≤◌, ◌<◌}
use lib.Dec.{lit≤}
use lib.IntN.{ℤ}
use lib.ListN.{length}
use Rattle.exact.specs.Exact.{Number, number_of, max_numerator, narrow_numerator}
use Rattle.exact.specs.Inner.Sizes.{Within, room_numerator}
use Rattle.exact.proofs.Align.{widen}
use Rattle.exact.proofs.Sizes.{within_of}
use Rattle.share.specs.Share.{number_in, with_numerators}
use Rattle.rows.specs.Inner.Rows.{Scaling, scaled_row}
use Rattle.rows.proofs.Rows.{folded}
use Rattle.rows.proofs.fold_row.Goals as goal

module _ {l : List ℤ} {p d : ℕ} (room : p + d * 4 ≤ length l) (narrow : (c : ℕ) → c < d → Within narrow_numerator (number_in l (p + c * 4))) where
  in_place : {x : Number} → Within narrow_numerator x → Scaling l x p p d
  in_place h = record { scale = h; from_room = room; factor = narrow; to_room = room; place = inl refl }

pub sum4-z-requires : goal.sum4-z-requires
sum4-z-requires c =
    let a = c.args in
    (widen narrow_numerator room_numerator (number_of a.x.now) (lit≤ tt) c.requires.0, widen narrow_numerator max_numerator (number_of a.y.now) (lit≤ tt) c.requires.1.0)

pub scale_by-requires : goal.scale_by-requires
scale_by-requires c =
    let r = c.requires.1.1 in
    in_place r.0 r.1 (within_of narrow_numerator (number_of c.sum4-z.result) (sym c.are_within.ensures ∙ c.if-are_within.true))

pub combine_rows-requires : goal.combine_rows-requires
combine_rows-requires c = let r = c.requires.1.1 in (in_place r.0 r.1 c.requires.0, in_place r.0 r.1 c.requires.1.0)

pub returns-then-are_within : goal.returns-then-are_within
returns-then-are_within c =
    let a = c.args in
    folded a.buf.now (number_of a.x.now) (number_of a.y.now) a.p a.d
    (c.scale_by.ensures ∙ ap (λ (z : List ℤ). with_numerators a.buf.now a.p a.d (scaled_row a.buf.now (number_of z) a.p)) c.sum4-z.ensures)
