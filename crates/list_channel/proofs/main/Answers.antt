-- The page holds what is printed of it.
use mathlib.Core.Path.{sym}
use lib.Seq.{length-take-le}
use Rattle.text.proofs.Put.{inside}
use Rattle.list_channel.proofs.main.Goals as goal

pub slice_bounds-page-end : goal.slice_bounds-page-end
slice_bounds-page-end c = inside _ _ c.list-count.ensures.answer

pub slice_bounds-write_all-end : goal.slice_bounds-write_all-end
slice_bounds-write_all-end c = sym (length-take-le _ _ (inside _ _ c.list-count.ensures.answer))
