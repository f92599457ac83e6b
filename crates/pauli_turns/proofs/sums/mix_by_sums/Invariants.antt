-- `mix_by_sums` meets its contract: c numbers of each row are written.
use Prim.Native.Nat.{ℕ}
use Rattle.algebra.proofs.Blocks.{Writing}
use Rattle.exact.specs.Exact.{Number, numbers, number_of, list_of}
use Rattle.share.specs.Share.{with_numerators}
use Rattle.rows.specs.Inner.Rows.{combined_row}
use Rattle.pauli_nodes.specs.Nodes.{turned}
use Rattle.pauli_turns.specs.Inner.Turns.{more, less}
use Rattle.pauli_turns.proofs.sums.mix_by_sums.Given as goal

abbrev pub invariant-loop-c : goal.invariant-loop-c
invariant-loop-c l =
    let x : Number = more (number_of l.x) in
    let y : Number = less (number_of l.x) in
    Writing 4 (with_numerators l.initial.work l.p l.c (combined_row l.initial.work x l.p (numbers.◌⊗◌ y (turned l.t).num) l.q)) l.q l.d
    (λ (k : ℕ). list_of (combined_row l.initial.work x l.q (numbers.◌⊗◌ y (turned l.u).num) l.p k)) l.work l.c
