-- Which part is at the front, by the tests in their order.
use Rattle.std.specs.Prelude.{Some}
use Rattle.std.proofs.Common.{◌≡◌, refl, arith, ap, ◌∙◌, ℕ, suc, ◌+◌, rules}
use Rattle.text.specs.Decimal.{is_digit}
use Rattle.qasm.specs.declared.tokens.Part.TheVariants.{Gap, Bytes}
use Rattle.qasm.specs.Tokens.{in_line, in_word}
use Rattle.qasm.proofs.Scanning.{first_is, sign_is}
use Rattle.qasm.proofs.tokens.first_part.Goals as goal

one-more : {n m : ℕ} → n ≡ m → 1 + n ≡ suc m
one-more e = omega arith

pub returns-then-is_blank : goal.returns-then-is_blank
returns-then-is_blank c = first_is c.in_ok-b.ensures.cases.0 c.if-is_blank.ensures refl refl refl

pub returns-then-starts_with : goal.returns-then-starts_with
returns-then-starts_with c =
    ap (λ (n : ℕ). Some (Gap n)) (one-more (c.run.ensures.value in_line (λ b r l e. search rules)))
    ∙ first_is c.in_ok-b.ensures.cases.0 c.if-is_blank.ensures c.if-starts_with.ensures.value refl refl

pub returns-then-is_digit : goal.returns-then-is_digit
returns-then-is_digit c =
    ap (λ (n : ℕ). Some (Bytes n)) (one-more (c.run-then-is_digit.ensures.value is_digit (λ b r l e. e)))
    ∙ first_is c.in_ok-b.ensures.cases.0 c.if-is_blank.ensures c.if-starts_with.ensures.value c.if-is_digit.ensures refl

pub returns-then-opens_word : goal.returns-then-opens_word
returns-then-opens_word c =
    ap (λ (n : ℕ). Some (Bytes n)) (one-more (c.run-then-opens_word.ensures.value in_word (λ b r l e. e)))
    ∙ first_is c.in_ok-b.ensures.cases.0 c.if-is_blank.ensures c.if-starts_with.ensures.value c.if-is_digit.ensures c.if-opens_word.ensures

pub returns-then-starts_with-2 : goal.returns-then-starts_with-2
returns-then-starts_with-2 c =
    let e = c.in_ok-b.ensures.cases.0 in
    ap (λ (n : ℕ). Some (Bytes (suc n))) (sign_is e c.if-starts_with-2.ensures.value refl)
    ∙ first_is e c.if-is_blank.ensures c.if-starts_with.ensures.value c.if-is_digit.ensures c.if-opens_word.ensures

pub returns-then-starts_with-3 : goal.returns-then-starts_with-3
returns-then-starts_with-3 c =
    let e = c.in_ok-b.ensures.cases.0 in
    ap (λ (n : ℕ). Some (Bytes (suc n))) (sign_is e c.if-starts_with-2.ensures.value c.if-starts_with-3.ensures.value)
    ∙ first_is e c.if-is_blank.ensures c.if-starts_with.ensures.value c.if-is_digit.ensures c.if-opens_word.ensures

pub returns : goal.returns
returns c =
    let e = c.in_ok-b.ensures.cases.0 in
    ap (λ (n : ℕ). Some (Bytes (suc n))) (sign_is e c.if-starts_with-2.ensures.value c.if-starts_with-3.ensures.value)
    ∙ first_is e c.if-is_blank.ensures c.if-starts_with.ensures.value c.if-is_digit.ensures c.if-opens_word.ensures
