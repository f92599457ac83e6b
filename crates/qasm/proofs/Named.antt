-- The entry with a name, as the code finds it and as it is defined.
use Rattle.std.proofs.Common.{Bor}
use mathlib.Core.Path.{◌≡◌, refl, sym, ap, ◌∙◌}
use mathlib.Core.Bool.{Bool, true, false, cond}
use mathlib.Core.List.{List, [], ◌∷◌}
use Prim.Native.Nat.{ℕ, suc, ◌+◌, ◌<◌, ◌≤◌}
use lib.Dec.{eqb}
use Rattle.std.specs.Cmp.Lexicographic.{pointwise}
use Rattle.qasm.proofs.Same.{same_true, same_pointwise}
use native.Mathlib.Numerals.{add-one}
use lib.ListN.{length, get_or, drop, drop_of_length-le}
use lib.Seq.{drop-cons}
use Rattle.std.specs.Prelude.{Option, Some, None, map}
use Rattle.algebra.specs.Lists.{every, filter_by}
use Rattle.algebra.proofs.Tests.{and_split}
use Rattle.gate.specs.declared.kinds.Kind.{Kind}
use Rattle.qasm.specs.declared.pieces.Form.{Form}
use Rattle.qasm.specs.Tokens.{same, Token}
use Rattle.qasm.specs.Forms.{Entry}
use Rattle.qasm.specs.Reading.{Seen, State, opened}
use Rattle.qasm.specs.Inner.Pieces.{entry_of, entry_named}

-- an entry of the code's table
abbrev Row : Type 0
Row = Bor (List ℕ) × Kind × Form

abbrev pub entry_in : Row → Entry
entry_in r = entry_of r.0.now r.1 r.2

-- an entry with another name is passed over
pub named_later : (w : List ℕ) (es : List Row) {i : ℕ} (d : Row) → i < length es → {r : Bool} → r ≡ pointwise eqb (get_or es i d).0.now w → r ≡ false
    → entry_named w (map entry_in (drop i es)) ≡ entry_named w (map entry_in (drop (i + 1) es))
named_later w es {i} d h {r} e f =
    ap (λ (es : List Row). entry_named w (map entry_in es)) (drop-cons es i d h)
    ∙ ap (λ (c : Bool). cond c (Some (entry_in (get_or es i d))) (entry_named w (map entry_in (drop (suc i) es)))) (sym (same_pointwise (get_or es i d).0.now w) ∙ sym e ∙ f)
    ∙ ap (λ (k : ℕ). entry_named w (map entry_in (drop k es))) (sym (add-one i))

-- one with this name is found
pub named_here : (w : List ℕ) (es : List Row) {i : ℕ} (d : Row) → i < length es → {r : Bool} → r ≡ pointwise eqb (get_or es i d).0.now w → r ≡ true
    → Some (entry_of w (get_or es i d).1 (get_or es i d).2) ≡ entry_named w (map entry_in (drop i es))
named_here w es {i} d h {r} e f =
    let x = get_or es i d in
    let q = sym (same_pointwise x.0.now w) ∙ sym e ∙ f in
    ap (λ (n : List ℕ). Some (entry_of n x.1 x.2)) (sym (same_true x.0.now w q))
    ∙ ap (λ (c : Bool). cond c (Some (entry_in x)) (entry_named w (map entry_in (drop (suc i) es)))) (sym q)
    ∙ ap (λ (es : List Row). entry_named w (map entry_in es)) (sym (drop-cons es i d h))

-- behind the last entry there is none
pub named_end : (w : List ℕ) (es : List Row) {i : ℕ} → length es ≤ i → None ≡ entry_named w (map entry_in (drop i es))
named_end w es {i} h = ap (λ (es : List Row). entry_named w (map entry_in es)) (sym (drop_of_length-le es h))

-- what a test says of all entries it says of the one that is found
pub entry-passes : (p : Entry → Bool) (w : List ℕ) (es : List Entry) {e : Entry} → every p es ≡ true → Some e ≡ entry_named w es → p e ≡ true
entry-passes p w [] a f = absurd (cc)
entry-passes p w (x ∷ xs) {e} a f = let (b, bs) = and_split (p x) (every p xs) a in by b (entry-passes p w xs bs) (same x.name w) f
  where
    by : p x ≡ true → (Some e ≡ entry_named w xs → p e ≡ true) → (c : Bool) → Some e ≡ cond c (Some x) (entry_named w xs) → p e ≡ true
    by b later true g = let q : e ≡ x = (cc) in ap p q ∙ b
    by b later false g = later g

-- the state that a statement's first word leads to
abbrev pub opened_by : Option Entry → Seen → Token → State
opened_by None s t = opened [] s t
opened_by (Some e) s t = opened (e ∷ []) s t

module _ (s : Seen) (t : Token) where
  abbrev has : Entry → Bool
  has e = same e.name t.bytes

  pub opened-named : (es : List Entry) → opened (filter_by has es) s t ≡ opened_by (entry_named t.bytes es) s t
  opened-named [] = refl
  opened-named (e ∷ es) = by (opened-named es) (has e)
    where
      by : opened (filter_by has es) s t ≡ opened_by (entry_named t.bytes es) s t
          → (c : Bool) → opened (cond c (e ∷ filter_by has es) (filter_by has es)) s t ≡ opened_by (cond c (Some e) (entry_named t.bytes es)) s t
      by later true = refl
      by later false = later
