-- the next token.
use Rattle.std.specs.Prelude.{Option, Some}
use Rattle.std.proofs.Common.{◌≡◌, sym, ap, ◌∙◌, length}
use native.Mathlib.Omega.{arith}
use Rattle.qasm.specs.declared.tokens.Part.{Part}
use Rattle.qasm.proofs.Scanning.{gap_next, token_next, none_next}
use Rattle.qasm.proofs.tokens.TokensIterator.next.Goals as goal

-- the part that was found is what stands at the front
found : {r s : Option Part} {p q : Part} → p ≡ q → r ≡ Some p → r ≡ s → Some q ≡ s
found e f g = sym (ap Some e) ∙ sym f ∙ g

pub overflow_add-self : goal.overflow_add-self
overflow_add-self c = let s = c.loop-part.self in let q = gap_next s.text.now s.at s.inside (found c.in-Gap.is c.in-Some.is c.first_part.ensures) in omega (arith, q.0.inside)

pub invariant_of-self : goal.invariant_of-self
invariant_of-self c = let s = c.loop-part.self in let q = gap_next s.text.now s.at s.inside (found c.in-Gap.is c.in-Some.is c.first_part.ensures) in record { inside = q.0.inside }

pub loop-part-preserved : goal.loop-part-preserved
loop-part-preserved c = let s = c.loop-part.self in c.loop-part.invariant ∙ (gap_next s.text.now s.at s.inside (found c.in-Gap.is c.in-Some.is c.first_part.ensures)).1

pub overflow_add-self-in-Bytes : goal.overflow_add-self-in-Bytes
overflow_add-self-in-Bytes c = let s = c.loop-part.self in let q = token_next s.text.now s.at s.inside (found c.in-Bytes.is c.in-Some.is c.first_part.ensures) in omega (arith, q.0.inside)

pub invariant_of-self-in-Bytes : goal.invariant_of-self-in-Bytes
invariant_of-self-in-Bytes c = let s = c.loop-part.self in let q = token_next s.text.now s.at s.inside (found c.in-Bytes.is c.in-Some.is c.first_part.ensures) in record { inside = q.0.inside }

pub returns-in-Bytes-clause-steps : goal.returns-in-Bytes-clause-steps
returns-in-Bytes-clause-steps c = let s = c.loop-part.self in c.loop-part.invariant ∙ (token_next s.text.now s.at s.inside (found c.in-Bytes.is c.in-Some.is c.first_part.ensures)).1

pub returns-in-Bytes-clause-goes : goal.returns-in-Bytes-clause-goes
returns-in-Bytes-clause-goes c =
    let s = c.loop-part.self in
    let q = c.loop-part.invariant ∙ (token_next s.text.now s.at s.inside (found c.in-Bytes.is c.in-Some.is c.first_part.ensures)).1 in
    record { on = λ _. (tt, tt, omega (arith, ap length q)); keeps = tt; rests = λ _. tt }

pub returns-clause-steps : goal.returns-clause-steps
returns-clause-steps c = let s = c.loop-part.self in let none = none_next s.text.now s.at s.inside (sym c.in_default.is ∙ c.first_part.ensures) in (c.loop-part.invariant ∙ none, none)
