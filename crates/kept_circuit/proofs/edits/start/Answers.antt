-- The words of no gate.
use Rattle.std.specs.Prelude.{Ok}
use Rattle.std.proofs.Common.{◌≡◌, refl, arith, length, [], ◌-◌, ◌∙◌}
use Rattle.std.proofs.lemmas.Bool.Decides.{nat_tests}
use lib.ListN.{set}
use mir.Syntax.{w64}
use mir.Facts.{to_z_pos}
use Rattle.kept_circuit.specs.Kept.{head_size, kept_words}
use Rattle.kept_circuit.specs.Edits.{start_verdict}
use Rattle.kept_circuit.proofs.Asked.{done_words}
use Rattle.kept_circuit.proofs.Started.{started-words}
use Rattle.kept_circuit.proofs.edits.start.Goals as goal

pub returns-clause-words_after : goal.returns-clause-words_after
returns-clause-words_after c =
    let a = c.args in
    let l = a.words.now in
    let done : Ok tt ≡ start_verdict a.qubits a.bits l = grind (arith, nat_tests) in
    let zeros = c.fill.ensures.after (λ y e. e) in
    done_words (kept_words a.qubits a.bits [] (length l - head_size)) l done refl
    ((λ i. set (set (zeros i) 0 (to_z_pos w64 {n = a.qubits} (omega arith) i)) 1 (to_z_pos w64 {n = a.bits} (omega arith) i)) ∙ started-words a.qubits a.bits l c.if-words-lt-HEAD.false)
