-- How long the answers are.
use Rattle.std.specs.Prelude.{Ok, Err}
use mathlib.Core.Path.{◌≡◌}
use mathlib.Core.Bool.{Bool, true, false, not, ◌&&◌}
use mathlib.Core.List.{List, [], ◌∷◌, ◌++◌}
use Prim.Native.Nat.{ℕ, zero, suc, ◌+◌, ◌*◌, ◌/◌, ◌%◌, ◌^◌, ◌≤◌}
use Prim.Native.String.{String}
use native.Mathlib.Omega.{arith}
use lib.Dec.{eqb, leb, ltb}
use lib.ListN.{length}
use lib.IntN.{ℤ, pos, negsuc, nat_abs}
use Rattle.algebra.specs.Lists.{All, filter_by, concat_map}
use Rattle.algebra.proofs.Lists.{filter_all, filter_length}
use Rattle.exact.specs.Exact.{Number, Exact, max_exponent}
use Rattle.verdict.specs.Questions.{Verdict}
use Rattle.verdict.specs.declared.Refusal.TheVariants.{OverLimit, UnsupportedAt, OperandAt, BadStore, MalformedAt, OverCeiling, TooHeavy, ShortBuffer, TooLarge, Malformed}
use Rattle.verdict.specs.declared.Refusal.TheVariants.{BadLayers, ClashAt, BadText, UnknownNameAt, NotScheduleAt, ZeroBlock, BadNodeAt, BadAxisAt, NoOutcomeAt, NoPlace, NoGate, NotHermitianAt, NotPlainAt, TooManyPairs, BadCounts}
use Rattle.verdict.specs.Verdict.{verdict_number, verdict_index}
use Rattle.scalar.specs.declared.Scalar.{Scalar}
use Rattle.scalar.specs.Calls.{value}
use Rattle.gate.specs.Gate.{gate_at, gates_from, gates_of}
use Rattle.qasm.specs.Writing.{words, gate_text}
use Rattle.qasm.specs.Claims.{small, max_line}
use Rattle.qasm.proofs.Sound.{size_small}
use Rattle.qasm.proofs.Length.{gate-most}
use Rattle.answers.specs.Utf8.{utf8}
use Rattle.answers.specs.Numbers.{Term, term, is_zero, terms, sign, sized, term_text, sum_text, is_sum, numerator, denominator, number_text}
use Rattle.answers.specs.States.{binary, outer, entry_text}
use Rattle.answers.specs.Reasons.{reason}
use Rattle.answers.proofs.Most.{AtMost, plus, more, known, either, decimal-most, bits_most}
use Rattle.answer_lines.specs.declared.Which.{Which}
use Rattle.answer_lines.specs.declared.Which.TheVariants.{Left, Right, Only}
use Rattle.answer_lines.specs.Lines.{max_answer, labelled, after_storing, valued, opening, first_line, gate_end, place_text, room_text}
use Rattle.answer_lines.specs.Claims.{Fits}

-- ---- numbers
sign-most : (first : Bool) (z : ℤ) → AtMost (sign first z) 5
sign-most true (pos n) = record { le = omega arith }
sign-most true (negsuc n) = record { le = omega arith }
sign-most false (pos n) = record { le = omega arith }
sign-most false (negsuc n) = record { le = omega arith }

abbrev Short : Term → Type 0
Short t = AtMost t.unit 5

term-most : (first : Bool) (t : Term) → Short t → AtMost (term_text first t) 30
unfolding sized
term-most first t u = plus (sign-most first t.coefficient) (either (eqb (nat_abs t.coefficient) 1 && ltb 0 (length t.unit)) (more (omega arith) u) (plus (decimal-most (nat_abs t.coefficient)) u))

later-most : (ts : List Term) → All Short ts → AtMost (concat_map (term_text false) ts) (30 * length ts)
later-most [] h = record { le = omega arith }
later-most (t ∷ ts) h = more (omega arith) (plus (term-most false t h.0) (later-most ts h.1))

sum-most : (ts : List Term) → All Short ts → length ts ≤ 4 → AtMost (sum_text ts) 120
unfolding sum_text
sum-most [] h n = record { le = omega arith }
sum-most (t ∷ ts) h n = more (omega (arith, n)) (plus (term-most true t h.0) (later-most ts h.1))

abbrev four : Number → List Term
four z = term z.re.re "" ∷ term z.re.im "√2" ∷ term z.im.re "i" ∷ term z.im.im "i√2" ∷ []

abbrev there : Term → Bool
there t = not (is_zero t.coefficient)

terms-most : (z : Number) → AtMost (sum_text (terms z)) 120
unfolding terms
terms-most z =
    sum-most (filter_by there (four z))
    (filter_all Short there (four z) (record { le = omega arith }, (record { le = omega arith }, (record { le = omega arith }, (record { le = omega arith }, tt)))))
    (filter_length there (four z))

number-most : (x : Exact) → AtMost (number_text x) 145
unfolding number_text numerator denominator
number-most x =
    let sum = terms-most x.num in
    either (eqb x.exp 0) (more (omega arith) sum)
    (plus {a = 122} {b = 23}
    (either (is_sum (terms x.num)) (plus (plus (known (utf8 "(")) sum) (known (utf8 ")"))) (more (omega arith) sum))
    (either (leb x.exp max_exponent) (more (omega arith) (plus (known (utf8 "/")) (decimal-most (2 ^ x.exp)))) (plus (known (utf8 "/2^")) (decimal-most x.exp))))

-- ---- states
binary-most : (n x : ℕ) → AtMost (binary n x) n
unfolding binary
binary-most zero x = known []
binary-most (suc n) x = record { le = omega (arith, (binary-most n x).le) }

outer-most : (n x y : ℕ) → n ≤ 64 → AtMost (outer n x y) 136
outer-most n x y h =
    more (omega arith) (plus (plus (plus (plus (known (utf8 "|")) (binary-most n x)) (known (utf8 "⟩⟨"))) (binary-most n y)) (known (utf8 "|")))

entry-most : (n r c : ℕ) → n ≤ 64 → AtMost (entry_text n r c) 294
entry-most n r c h =
    plus (plus (plus (known (utf8 "from input ")) (outer-most n (r % 2 ^ n) (c % 2 ^ n) h)) (known (utf8 " to output "))) (outer-most n (r / 2 ^ n) (c / 2 ^ n) h)

storing_most : (m s : ℕ) → m ≤ 64 → AtMost (after_storing m s) 80
storing_most m s h = either (eqb m 0) (record { le = omega arith }) (plus (plus (known (utf8 "after storing ")) (bits_most m s h)) (known (utf8 ", ")))

-- ---- refusals
opening-most : (which : Which) → AtMost (opening which) 14
opening-most Left = record { le = omega arith }
opening-most Right = record { le = omega arith }
opening-most Only = record { le = omega arith }

reason-most : (v : Verdict) → AtMost (reason v) 160
reason-most (Ok tt) = record { le = omega arith }
reason-most (Err OverLimit) = record { le = omega arith }
reason-most (Err (UnsupportedAt i)) = record { le = omega arith }
reason-most (Err (OperandAt i)) = record { le = omega arith }
reason-most (Err BadStore) = record { le = omega arith }
reason-most (Err (MalformedAt i)) = record { le = omega arith }
reason-most (Err OverCeiling) = record { le = omega arith }
reason-most (Err TooHeavy) = record { le = omega arith }
reason-most (Err ShortBuffer) = record { le = omega arith }
reason-most (Err TooLarge) = record { le = omega arith }
reason-most (Err Malformed) = record { le = omega arith }
reason-most (Err BadLayers) = record { le = omega arith }
reason-most (Err (ClashAt i)) = record { le = omega arith }
reason-most (Err BadText) = record { le = omega arith }
reason-most (Err (UnknownNameAt i)) = record { le = omega arith }
reason-most (Err (NotScheduleAt i)) = record { le = omega arith }
reason-most (Err ZeroBlock) = record { le = omega arith }
reason-most (Err (BadNodeAt i)) = record { le = omega arith }
reason-most (Err (BadAxisAt i)) = record { le = omega arith }
reason-most (Err (NoOutcomeAt i)) = record { le = omega arith }
reason-most (Err NoPlace) = record { le = omega arith }
reason-most (Err NoGate) = record { le = omega arith }
reason-most (Err (NotHermitianAt i)) = record { le = omega arith }
reason-most (Err (NotPlainAt i)) = record { le = omega arith }
reason-most (Err TooManyPairs) = record { le = omega arith }
reason-most (Err BadCounts) = record { le = omega arith }

single : (xs : List ℕ) → AtMost xs max_line → AtMost (xs ++ []) max_line
single xs p = plus p (known [])

gates-most : (ws : List ℕ) → length ws ≤ 5 → small ws ≡ true → AtMost (concat_map gate_text (gates_of ws)) max_line
gates-most ws h s = by (length ws / 5) (omega arith)
  where
    few : small (words (gate_at ws 0)) ≡ true
    few = λ i. size_small ws 0 s i && (size_small ws 1 s i && (size_small ws 2 s i && (size_small ws 3 s i && (size_small ws 4 s i && true))))

    by : (n : ℕ) → n ≤ 1 → AtMost (concat_map gate_text (gates_from ws 0 n)) max_line
    by zero k = record { le = omega arith }
    by (suc zero) k = single (gate_text (gate_at ws 0)) (record { le = gate-most (gate_at ws 0) few })
    by (suc (suc n)) k = absurd (omega arith)

end-most : (ws : List ℕ) → length ws ≤ 5 → small ws ≡ true → AtMost (gate_end ws) 51
end-most ws h s = either (eqb (length ws) 0) (record { le = omega arith }) (plus (known (utf8 ": ")) (gates-most ws h s))

labelled-most : (label : String) (n : ℕ) → AtMost (labelled label n) (length (utf8 label) + 20)
labelled-most label n = plus (known (utf8 label)) (decimal-most n)

valued-most : (label : String) (x : Scalar) → AtMost (valued label x) (length (utf8 label) + 145)
valued-most label x = plus (known (utf8 label)) (number-most (value x))

place-most : (line column : ℕ) (ws : List ℕ) → length ws ≤ 5 → small ws ≡ true → AtMost (place_text line column ws) 105
place-most line column ws h s =
    either (eqb line 0) (record { le = omega arith }) (plus (plus (labelled-most "line " line) (labelled-most ", column " column)) (end-most ws h s))

room_most : (gates room : ℕ) → AtMost (room_text gates room) 62
room_most gates room = either (eqb gates 0) (record { le = omega arith }) (plus (plus (decimal-most gates) (labelled-most " gates, and room for " room)) (known (utf8 "\n")))

first-most : (which : Which) (v : Verdict) (position : ℕ) → AtMost (first_line which v position) 77
first-most which v position =
    plus (plus (plus (plus (opening-most which) (decimal-most (verdict_number v))) (labelled-most " " (verdict_index v))) (labelled-most " " position)) (known (utf8 "\n"))

-- ---- answers
pub fits : Fits
fits = record {
  same = omega arith;
  dimensions = λ n m n' m'.
      (more {b = max_answer} (omega arith)
      (plus (plus (plus (plus (labelled-most "dimensions\nqubits: " n) (labelled-most " against " n')) (labelled-most "; classical bits: " m)) (labelled-most " against " m')) (known (utf8 "\n")))).le;
  different = λ n m p x y hn hm.
      (more {b = max_answer} (omega arith)
      (plus (plus (plus (plus (plus (known (utf8 "different\n")) (storing_most m p.store hm)) (entry-most n p.row p.col hn)) (valued-most ": " x)) (valued-most " against " y)) (known (utf8 "\n")))).le;
  refused = λ which r ws room h s.
      (more {b = max_answer} (omega arith)
      (plus (plus (plus (plus (first-most which (Err r.refusal) r.position) (place-most r.line r.column ws h s)) (room_most r.gates room)) (reason-most (Err r.refusal))) (known (utf8 "\n")))).le;
}
