-- What the questions read of a gate list is the same for every schedule of it.
use mathlib.Core.Path.{◌≡◌}
use mathlib.Core.List.{List}
use mathlib.Core.Bool.{Bool}
use Prim.Native.Nat.{ℕ}
use lib.ListN.{length}
use Rattle.algebra.specs.Lists.{every, total, marks}
use Rattle.algebra.specs.Schedule.{Schedule}
use Rattle.algebra.proofs.Trace.{Trace, every_of, total_of, marks-of, length-of}
use Rattle.algebra.proofs.Schedule.{schedule_trace}
use Rattle.gate.specs.Gate.{Gate, elem, bits, share, splits, weight}
use Rattle.gate.specs.Inner.Entries.{valid}

-- a gate writes the classical bit
abbrev pub writes : Gate → ℕ → Bool
writes g i = elem i (bits g)

pub record Counts (n m : ℕ) (xs ys : List Gate) : Type 0 where
  pub gates : length ys ≡ length xs
  pub accepted : every (valid n m) ys ≡ every (valid n m) xs
  pub splitting : total splits ys ≡ total splits xs
  pub measured : marks m writes ys ≡ marks m writes xs
  pub heavy : total weight ys ≡ total weight xs

pub schedule_counts : (n m : ℕ) {d : Gate} {xs ys : List Gate} {table : List ℕ} → Schedule share d xs ys table → Counts n m xs ys
schedule_counts n m {d} {xs} {ys} sch =
    let t : Trace share ys xs = schedule_trace share d sch in
    record { gates = length-of t; accepted = every_of (valid n m) t; splitting = total_of splits t; measured = marks-of m writes t; heavy = total_of weight t }
