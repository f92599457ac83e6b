-- Why a text has no channel, for people.
use Rattle.std.specs.Prelude.{cond, ◌||◌, List, [], ℕ, ◌*◌, ◌/◌, eqb, ltb, length, take, drop, Option, Some, None}
use Rattle.verdict.specs.declared.Refusal.{Refusal}
use Rattle.verdict.specs.Verdict.{refusal_number, refusal_index}
use Rattle.gate.specs.Gate.{gate_size}
use Rattle.answers.specs.declared.places.Place.{Place}
use Rattle.answers.specs.Places.{place_of}
use Rattle.statements.specs.Statements.{gate_count, gate_position}
use Rattle.answer_lines.specs.declared.Fault.{Fault}
use Rattle.answer_lines.specs.declared.Which.{Which}
use Rattle.answer_lines.specs.Lines.{refused_text}
use Rattle.text_sides.specs.declared.NoChannel.{NoChannel}
use Rattle.text_sides.specs.declared.NoChannel.TheVariants.{Faulty, Refused}

-- 2, 3 and 5 name a gate
abbrev pub gate_of : Refusal → Option ℕ
gate_of r = let k = refusal_number r in cond ((eqb k 2 || eqb k 3) || eqb k 5) (Some (refusal_index r)) None

abbrev pub fault : Refusal → ℕ → Place → ℕ → Fault
fault r at p gates = record { refusal = r; position = at; line = p.line; column = p.column; gates = gates }

abbrev pub no_place : Place
no_place = record { line = 0; column = 0 }

-- at a byte of the text t
abbrev pub fault_at : List ℕ → Refusal → ℕ → Fault
fault_at t r at = fault r at (place_of t at) 0

-- a circuit that was read is refused at a gate, or as a whole
abbrev pub fault_by : List ℕ → Refusal → Option ℕ → Fault
fault_by t r (Some i) = fault_at t r (gate_position t i)
fault_by t r None = fault r 0 no_place 0

-- and a text at a byte, or for its many gates
abbrev pub fault_of : List ℕ → NoChannel → Fault
fault_of t (Refused reading r) = fault_by t r (gate_of r)
fault_of t (Faulty f) = cond (eqb (refusal_number f.refusal) 8) (fault f.refusal 0 no_place (gate_count t)) (fault_at t f.refusal f.position)

-- the words of the gate that is named, among the n words that were read of it
abbrev pub gate_among : List ℕ → ℕ → Option ℕ → List ℕ
gate_among g n (Some i) = cond (ltb i (n / gate_size)) (take gate_size (drop (i * gate_size) g)) []
gate_among g n None = []

abbrev pub faulty_gate : List ℕ → NoChannel → List ℕ
faulty_gate g (Refused reading r) = gate_among g reading.words (gate_of r)
faulty_gate g (Faulty f) = []

-- the answer's bytes for the text t that has no channel, of which the gates' words g were read
abbrev pub refusal_text : Which → List ℕ → List ℕ → NoChannel → List ℕ
refusal_text which t g why = refused_text which (fault_of t why) (faulty_gate g why) (length g / gate_size)
