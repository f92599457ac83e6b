-- `mix_numbers` meets its contract.
use Rattle.pauli_turns.proofs.Mixed.{to_add, to_negate, to_subtract, to_multiply, to_double, to_change, to_second, to_first, to_turn, inverse, first_is, second_is}
use Rattle.pauli_turns.proofs.sums.mix_numbers.Goals as goal

pub sum4-sum-requires : goal.sum4-sum-requires
sum4-sum-requires c =
    let h = c.requires.sizes in
    to_add c.args.x c.args.s c.args.v c.args.t h.0 h.1.0 h.1.1 c.turned4-b.ensures

pub neg4-requires : goal.neg4-requires
neg4-requires c =
    let h = c.requires.sizes in
    to_negate c.args.x c.args.s c.args.v c.args.t h.0 h.1.0 h.1.1 c.turned4-b.ensures

pub sum4-requires : goal.sum4-requires
sum4-requires c =
    let h = c.requires.sizes in
    to_subtract c.args.x c.args.s c.args.v c.args.t h.0 h.1.0 h.1.1 c.turned4-b.ensures c.neg4.ensures

pub times_root-w-requires : goal.times_root-w-requires
times_root-w-requires c =
    let h = c.requires.sizes in
    to_multiply c.args.x c.args.s c.args.v c.args.t h.0 h.1.0 h.1.1 c.turned4-b.ensures c.neg4.ensures c.sum4.ensures

pub sum4-twice-requires : goal.sum4-twice-requires
sum4-twice-requires c =
    let h = c.requires.sizes in
    to_double c.args.x c.args.s c.args.v c.args.t h.0 h.1.0 h.1.1 c.turned4-b.ensures c.sum4-sum.ensures

pub neg4-requires-2 : goal.neg4-requires-2
neg4-requires-2 c =
    let h = c.requires.sizes in
    to_change c.args.x c.args.s c.args.v c.args.t h.0 h.1.0 h.1.1 c.turned4-b.ensures c.neg4.ensures c.sum4.ensures c.times_root-w.ensures

pub sum4-second-requires : goal.sum4-second-requires
sum4-second-requires c =
    let h = c.requires.sizes in
    to_second c.args.x c.args.s c.args.v c.args.t h.0 h.1.0 h.1.1 c.turned4-b.ensures c.neg4.ensures c.sum4.ensures c.times_root-w.ensures c.sum4-sum.ensures c.sum4-twice.ensures c.neg4-2.ensures

pub sum4-requires-2 : goal.sum4-requires-2
sum4-requires-2 c =
    let h = c.requires.sizes in
    to_first c.args.x c.args.s c.args.v c.args.t h.0 h.1.0 h.1.1 c.turned4-b.ensures c.neg4.ensures c.sum4.ensures c.times_root-w.ensures c.sum4-sum.ensures c.sum4-twice.ensures

pub turned4-requires : goal.turned4-requires
turned4-requires c =
    let h = c.requires.sizes in
    (c.requires.turns.1.0, to_turn c.args.x c.args.s c.args.v c.args.t h.0 h.1.0 h.1.1 c.turned4-b.ensures c.neg4.ensures c.sum4.ensures c.times_root-w.ensures c.sum4-sum.ensures c.sum4-twice.ensures c.neg4-2.ensures c.sum4-second.ensures)

pub returns-clause-first : goal.returns-clause-first
returns-clause-first c =
    let h = c.requires.sizes in
    first_is c.args.x c.args.s c.args.v c.args.t h.0 h.1.0 h.1.1 c.turned4-b.ensures c.neg4.ensures c.sum4.ensures c.times_root-w.ensures c.sum4-sum.ensures c.sum4-twice.ensures c.sum4-2.ensures

pub returns-clause-second : goal.returns-clause-second
returns-clause-second c =
    let a = c.args in
    let h = c.requires.sizes in
    let t = c.requires.turns in
    second_is c.args.x c.args.s c.args.v c.args.t h.0 h.1.0 h.1.1 c.turned4-b.ensures c.neg4.ensures c.sum4.ensures c.times_root-w.ensures c.sum4-sum.ensures c.sum4-twice.ensures c.neg4-2.ensures c.sum4-second.ensures
    a.u (inverse a.t a.u t.0 t.1.0 t.1.1) c.turned4.ensures
