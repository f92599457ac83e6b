-- `compare::Sides::search` meets its contract.
use Rattle.std.specs.Prelude.{Some}
use Rattle.std.specs.Option.{option_copied}
use mathlib.Core.Path.{◌≡◌, refl, sym, ap, ◌∙◌}
use Prim.Native.Nat.{ℕ, ◌+◌, ◌*◌, ◌-◌, ◌<◌}
use native.Mathlib.Omega.{arith}
use lib.Arith.{digits_lt}
use Rattle.scalar.specs.declared.Scalar.{Scalar}
use Rattle.compare.specs.declared.Difference.{Difference}
use Rattle.compare.specs.Compare.{scan}
use Rattle.compare.specs.Inner.Sides.{blocks_of}
use Rattle.compare.proofs.Scanning.{agrees, differs, done}
use Rattle.compare.proofs.Sides.search.Goals as goal

-- an entry that differs
abbrev found : ℕ → ℕ → ℕ → Scalar → Scalar → Difference
found s r c x y = record { place = record { store = s; row = r; col = c }; left = x; right = y }

pub returns-then-not-same_entry : goal.returns-then-not-same_entry
returns-then-not-same_entry c =
    let s = c.args.self.now in
    let w = s.side in
    let row = c.loop-row.row in
    let col = c.loop-col.col in
    let inside : row * w + col < w * w = digits_lt c.loop-col.invariant.0 c.loop-col-test.true in
    (λ i. Some (found s.store row col (c.entry_or_zero.ensures i) (c.entry_or_zero-then-not-same_entry.ensures i)))
    ∙ sym (c.loop-col.invariant.1 ∙ differs (blocks_of s.store (option_copied s.left) (option_copied s.right)) w (w * w) (row * w + col) inside row col refl c.loop-col-test.true (sym c.same_entry.ensures ∙ c.if-not-same_entry.true))

pub loop-col-preserved : goal.loop-col-preserved
loop-col-preserved c =
    let s = c.args.self.now in
    let w = s.side in
    let row = c.loop-row.row in
    let col = c.loop-col.col in
    let b = blocks_of s.store (option_copied s.left) (option_copied s.right) in
    let inside : row * w + col < w * w = digits_lt c.loop-col.invariant.0 c.loop-col-test.true in
    let next : row * w + col + 1 ≡ row * w + (col + 1) = omega arith in (
      c.loop-col.invariant.0,
      c.loop-col.invariant.1 ∙ agrees b w (w * w) (row * w + col) inside (sym c.same_entry.ensures ∙ c.if-not-same_entry.false)
          ∙ ap (λ (k : ℕ). scan b w (w * w - k) k) next,
    )

pub returns : goal.returns
returns c =
    let s = c.args.self.now in
    let w = s.side in
    let all : c.loop-row.row ≡ w = omega arith in
    sym (c.loop-row.invariant ∙ done (blocks_of s.store (option_copied s.left) (option_copied s.right)) w (w * w) (c.loop-row.row * w) (ap (λ (x : ℕ). x * w) all))
