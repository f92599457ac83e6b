-- A text has no more gates than bytes.
use mathlib.Core.Bool.{Bool, true, false, cond, not}
use mathlib.Core.List.{List, [], ◌∷◌}
use Prim.Native.Nat.{ℕ, suc, ◌+◌, ◌≤◌}
use native.Mathlib.Omega.{arith}
use lib.ListN.{length}
use Rattle.algebra.specs.Lists.{filter_by}
use Rattle.text.specs.Ascii.{ascii}
use Rattle.qasm.specs.Tokens.{same, is_blank, run, Token}
use Rattle.qasm.specs.Forms.{header}
use Rattle.qasm.proofs.Scanning.{from-few}
use Rattle.statements.specs.Statements.{body, opens, declares, gate_count}

opens-few : (now : Bool) (ts : List Token) → length (opens now ts) ≤ length ts
unfolding opens
opens-few now [] = omega arith
opens-few now (t ∷ ts) = by now (opens-few (same (ascii ";") t.bytes) ts)
  where
    rest : List Token
    rest = opens (same (ascii ";") t.bytes) ts

    by : (c : Bool) → length rest ≤ length ts → length (cond c (t ∷ rest) rest) ≤ suc (length ts)
    by true h = omega arith
    by false h = omega arith

filter_few : (p : Token → Bool) (ts : List Token) → length (filter_by p ts) ≤ length ts
filter_few p [] = omega arith
filter_few p (t ∷ ts) = by (p t) (filter_few p ts)
  where
    by : (c : Bool) → length (filter_by p ts) ≤ length ts → length (cond c (t ∷ filter_by p ts) (filter_by p ts)) ≤ suc (length ts)
    by true h = omega arith
    by false h = omega arith

pub gates-few : (t : List ℕ) → gate_count t ≤ length t
gates-few t =
    let after = run is_blank t + length header in
    let a : gate_count t ≤ length (opens true (body t)) = filter_few (λ (k : Token). not (declares k.bytes)) (opens true (body t)) in
    let b : length (opens true (body t)) ≤ length (body t) = opens-few true (body t) in
    let c : length (body t) ≤ length t = from-few t after in
    omega arith
