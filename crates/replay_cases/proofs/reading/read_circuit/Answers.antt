-- `reading::read_circuit` meets its contract.
use Rattle.std.proofs.Common.{◌∙◌, length}
use Rattle.replay.specs.Numerals.{word_at, low_byte, low_word}
use Rattle.replay.specs.Words.{numbers_at}
use Rattle.replay_cases.proofs.reading.read_circuit.Goals as goal

pub returns-clause-circuit : goal.returns-clause-circuit
returns-clause-circuit c =
    let s = c.args in
    let t = s.text.now in
    let bytes = length s.store.now in
    let room = length s.words.now in
    let bounds = c.read_limits-bounds.ensures in
    let n = c.read-n.ensures ∙ (λ i. word_at t (bounds i).next) in
    let m = c.read-bits.ensures ∙ (λ i. word_at t (n i).next) in
    let qubits = c.low.ensures ∙ (λ i. low_word (n i).size) in
    let bits = c.low-2.ensures ∙ (λ i. low_word (m i).size) in
    let store = c.read_numbers-bytes.ensures.words ∙ (λ i. (numbers_at low_byte t (m i).next bytes).words) in
    let p = c.read_numbers-bytes.ensures.next ∙ (λ i. (numbers_at low_byte t (m i).next bytes).next) in
    let gates = c.read_numbers-part.ensures.words ∙ (λ i. (numbers_at low_word t (p i) room).words) in
    let next = c.read_numbers-part.ensures.next ∙ (λ i. (numbers_at low_word t (p i) room).next) in
    λ i. record { limits = (bounds i).limits; n = qubits i; bits = bits i; store = store i; gates = gates i; next = next i }

pub returns-clause-store : goal.returns-clause-store
returns-clause-store c = c.read_numbers-bytes.ensures.rest

pub returns-clause-store_room : goal.returns-clause-store_room
returns-clause-store_room c = c.read_numbers-bytes.ensures.room

pub returns-clause-gates : goal.returns-clause-gates
returns-clause-gates c = c.read_numbers-part.ensures.rest

pub returns-clause-gates_room : goal.returns-clause-gates_room
returns-clause-gates_room c = c.read_numbers-part.ensures.room
