-- The invariant: what is counted so far and the count of the rest make the whole.
use mathlib.Core.Path.{◌≡◌, ◌∙◌, sym, ap}
use Prim.Native.Nat.{ℕ, ◌+◌}
use native.Mathlib.Omega.{arith}
use Rattle.gate.specs.Gate.{Gate, splits}
use Rattle.gate.specs.Inner.Words.{gate_of}
use Rattle.circuit.specs.Inner.Footprint.{gates_behind, newly}
use Rattle.circuit.proofs.Counts.{heavy-whole, whole-unwritten, splits-one, weight-one, counted-more, counted-all}
use Rattle.circuit.proofs.footprint.Footprint.of.Goals.{then-weight-ne0, else-weight-ne0+then-splits-ne0, else-weight-ne0+else-splits-ne0}
use Rattle.circuit.proofs.footprint.Footprint.of.Goals as goal

pub loop-i-preserved : goal.loop-i-preserved
loop-i-preserved c =
    let g = gate_of c.read_gate-g.result in
    let behind = gates_behind c.args.words.now (c.loop-i.i + 1) in
    let j = c.if-weight-ne0 in
    let more = counted-more c.args.words.now c.loop-i.invariant c.loop-i-test.true g c.read_gate-g.ensures j.splits j.written j.weight in
    elim j.branch [
      | then-weight-ne0 w ↦
          let whole = heavy-whole g (λ e. w.if-weight-ne0.true (c.weight.ensures ∙ e)) in
          let unwritten = whole-unwritten c.args.bits g behind whole in
          let o = weight-one g in
          more (omega arith) (omega arith) (omega (arith, w.if-weight-ne0.true, c.weight.ensures))
      | else-weight-ne0+then-splits-ne0 w ↦
          let o = splits-one g in
          let of_gate = w.newly_written-written.ensures ∙ ap (λ (h : Gate). newly c.args.bits h behind) (sym c.read_gate-g.ensures) in
          more (omega (arith, w.if-splits-ne0.true, w.splits.ensures)) (w.written-is ∙ ap (λ (x : ℕ). c.loop-i.written + x) of_gate)
          (omega (arith, w.if-weight-ne0.false, c.weight.ensures))
      | else-weight-ne0+else-splits-ne0 w ↦
          let whole : splits g ≡ 0 = sym w.splits.ensures ∙ w.if-splits-ne0.false in
          let unwritten = whole-unwritten c.args.bits g behind whole in
          more (omega arith) (omega arith) (omega (arith, w.if-weight-ne0.false, c.weight.ensures))
    ]

pub returns : goal.returns
returns c = counted-all c.args.words.now c.loop-i.invariant c.loop-i-test.false
