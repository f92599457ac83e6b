-- The places of the gates that the counts count are there.
use Rattle.std.proofs.Common.{◌≡◌, ◌+◌, ◌-◌, ◌*◌, ◌≤◌, ℕ, arith, sym, ap, ◌∙◌, length}
use mathlib.Core.Path.{subst}
use mathlib.Core.List.{map}
use mathlib.Core.Bool.{true}
use lib.ListN.{take, drop}
use lib.Seq.{sets}
use lib.IntN.{nat_abs}
use Rattle.store.specs.Store.{max_word}
use Rattle.kept_circuit.specs.Kept.{head_size, gates_of, all_up_to}
use Rattle.kept_circuit.proofs.Sound.{sound_is, gates-few}
use Rattle.kept_verdict.proofs.Copied.{part_up, part_long, copied_done}
use Rattle.kept_verdict.proofs.copy_gates.Goals as goal

pub overflow_mul-n : goal.overflow_mul-n
overflow_mul-n c =
    let s = sound_is c.args.words.now c.in_ok-kept.ensures.1 in
    omega (arith, c.gates-n.ensures, ap gates_of c.in_ok-kept.ensures.0, gates-few s, s.long)

pub are_up_to-requires : goal.are_up_to-requires
are_up_to-requires c =
    let s = sound_is c.args.words.now c.in_ok-kept.ensures.1 in
    omega (arith, c.gates-n.ensures, ap gates_of c.in_ok-kept.ensures.0, gates-few s, s.long)

pub slice_bounds-copy_words-end : goal.slice_bounds-copy_words-end
slice_bounds-copy_words-end c =
    let s = sound_is c.args.words.now c.in_ok-kept.ensures.1 in
    omega (arith, c.gates-n.ensures, ap gates_of c.in_ok-kept.ensures.0, gates-few s, s.long)

pub copy_words-requires : goal.copy_words-requires
copy_words-requires c =
    let s = sound_is c.args.words.now c.in_ok-kept.ensures.1 in
    let l = c.args.words.now in
    let n : head_size + c.gates-n.result * 5 - head_size ≡ c.gates-n.result * 5 = omega arith in
    let there : head_size + c.gates-n.result * 5 ≤ length l = omega (arith, c.gates-n.ensures, ap gates_of c.in_ok-kept.ensures.0, gates-few s, s.long) in
    subst (λ (n : ℕ). (length (take n (drop head_size l)) ≤ length c.args.out.now) × (all_up_to (take n (drop head_size l)) 0 (length (take n (drop head_size l))) max_word ≡ true)) (sym n)
    (omega (arith, part_long l head_size (c.gates-n.result * 5) there), part_up l head_size (c.gates-n.result * 5) max_word there (sym c.if-not-are_up_to.ensures))

pub returns-clause-out_after : goal.returns-clause-out_after
returns-clause-out_after c =
    let l = c.args.words.now in
    let n : head_size + c.gates-n.result * 5 - head_size ≡ c.gates-n.result * 5 = omega arith in
    c.copy_words.ensures ∙ ap (λ (n : ℕ). sets c.args.out.now 0 (map nat_abs (take n (drop head_size l)))) n
    ∙ copied_done l c.args.out.now c.in_ok-kept.ensures.1 (omega (arith, c.gates-n.ensures, ap gates_of c.in_ok-kept.ensures.0)) (sym c.if-not-are_up_to.ensures) (omega arith)
