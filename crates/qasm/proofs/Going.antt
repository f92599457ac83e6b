-- One token after the other, up to the first fault or the end of the text.
use mathlib.Core.Path.{◌≡◌, refl, sym, ap, ◌∙◌, subst}
use mathlib.Core.List.{List, [], ◌∷◌, foldl}
use Prim.Native.Nat.{ℕ, ◌+◌, ◌≤◌, min}
use native.Mathlib.Omega.{arith}
use lib.ListN.{length}
use Rattle.std.specs.Prelude.{Result, Ok, Err, IsErrAnd}
use Rattle.verdict.specs.declared.Refusal.{Refusal}
use Rattle.qasm.specs.declared.steps.Progress.{Progress}
use Rattle.qasm.specs.declared.reader.Fault.{Fault}
use Rattle.qasm.specs.Tokens.{Token}
use Rattle.qasm.specs.Reading.{State, fault, step, start}
use Rattle.qasm.specs.Inner.Progress.{state_of, Counts, Sees, Stepped}
use Rattle.qasm.proofs.Words.{held_none}

-- a fault decides: nothing that follows changes it
fault-stays : (v : Refusal) (at : ℕ) (ts : List Token) → foldl step (fault v at) ts ≡ fault v at
fault-stays v at [] = refl
fault-stays v at (t ∷ ts) = fault-stays v at ts

-- all tokens but those that are left have been read, without a fault
pub record Going (all : List Token) (l g : List ℕ) (s : Progress) (left : List Token) : Type 0 where
  pub state : State
  pub sees : Sees l (Ok s) g state
  pub same : foldl step start all ≡ foldl step state left
  pub few : s.words + length left ≤ length all + min (length s.due.now) 4

-- the fault that a `?` returns is the one that it was given
pub returned : {B : Type 0} (v : Result B Fault) {f : Fault} → IsErrAnd v (λ (e : Fault). e ≡ f) → v ≡ Err f
returned (Ok x) h = absurd h
returned (Err e) h = ap (λ (f : Fault). Err f) h

module _ (all : List Token) (l : List ℕ) where
  pub going_top : {s : Progress} {left : List Token} → left ≡ all → start ≡ state_of (Ok s) [] → Counts s [] → Going all l l s left
  going_top a e c = record {
    state = start;
    sees = record { words = []; is = e; counts = c; held = held_none l };
    same = ap (foldl step start) (sym a);
    few = let n = c.words in omega (arith, ap length a);
  }

  module _ {g : List ℕ} {s : Progress} {t : Token} {now left : List Token} (o : Going all l g s now) (e : now ≡ t ∷ left) where
    pub going_fault : {r : Result Progress Fault} {f : Fault} {g' : List ℕ} → r ≡ Err f → Stepped s g t r g' → Sees l (Err f) g' (foldl step start all)
    going_fault {r} {f} {g'} was q =
        let after = subst (λ (r : Result Progress Fault). Sees l r g' (step o.state t)) was (q.keeps l o.state o.sees) in
        let all-read = o.same ∙ ap (foldl step o.state) e ∙ ap (λ (st : State). foldl step st left) after.is ∙ fault-stays f.refusal f.position left in
        subst (Sees l (Err f) g') (sym (all-read ∙ sym after.is)) after
