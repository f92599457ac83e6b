-- `steps::take` meets its contract: one arm for each piece.
use Rattle.std.specs.Prelude.{Option}
use Rattle.std.specs.Bool.{then_some}
use Rattle.std.proofs.Common.{◌≡◌, refl, sym, ap, ◌∙◌, subst, Bool, List, ℕ, Bor}
use Rattle.text.specs.Decimal.{value}
use Rattle.qasm.specs.declared.pieces.Register.{Register}
use Rattle.qasm.specs.declared.pieces.Register.TheVariants.{Quantum, Classical}
use Rattle.qasm.specs.declared.steps.Progress.{Progress}
use Rattle.qasm.specs.Tokens.{same, Token, token}
use Rattle.qasm.specs.Forms.{Piece, fresh, size}
use Rattle.qasm.specs.Reading.{fits}
use Rattle.qasm.specs.Inner.Left.{token_of}
use Rattle.qasm.specs.Inner.Pieces.{piece_of, place_of}
use Rattle.qasm.specs.Inner.Progress.{opened_for, names_of, with_name, with_size, Took}
use Rattle.qasm.proofs.Took.{took, kept}
use Rattle.qasm.proofs.steps.take.Goals as goal

-- a name and a size, of one register and of the other
module _ (s : Progress) (g : List ℕ) (at : ℕ) (b : Bor (List ℕ)) where
  abbrev t : Token
  t = token at b.now

  module _ {q : Piece} {r : Option Progress} (c : Bool) where
    took_name : (n : Register) → q ≡ fresh (place_of n) → r ≡ then_some c (with_name s n b) → c ≡ fits (fresh 0) (names_of s) t → Took s g q t r g
    took_name Quantum i e f = took (with_name s Quantum b) refl refl (λ ws. refl) c i e f (kept g c)
    took_name Classical i e f = took (with_name s Classical b) refl refl (λ ws. refl) c i e f (kept g c)

    took_size : (n : Register) → q ≡ size (place_of n) → r ≡ then_some c (with_size s n (value b.now)) → c ≡ fits (size 0) (names_of s) t → Took s g q t r g
    took_size Quantum i e f = took (with_size s Quantum (value b.now)) refl refl (λ ws. refl) c i e f (kept g c)
    took_size Classical i e f = took (with_size s Classical (value b.now)) refl refl (λ ws. refl) c i e f (kept g c)

pub returns-in-Fixed : goal.returns-in-Fixed
returns-in-Fixed c = took c.args.s refl refl (λ ws. refl) _ (ap piece_of c.in-Fixed.is) c.matching.ensures refl (kept c.args.gates.now _)

pub returns-in-Fresh : goal.returns-in-Fresh
returns-in-Fresh c = let a = c.args in took_name a.s a.gates.now a.token.at a.token.bytes _ c.in-Fresh.register (ap piece_of c.in-Fresh.is) c.named.ensures refl

pub returns-in-Size : goal.returns-in-Size
returns-in-Size c = let a = c.args in took_size a.s a.gates.now a.token.at a.token.bytes _ c.in-Size.register (ap piece_of c.in-Size.is) c.sized.ensures refl

pub returns-in-Used : goal.returns-in-Used
returns-in-Used c =
    took c.args.s refl refl (λ ws. refl) _ (ap piece_of c.in-Used.is) c.matching-in-Used.ensures (ap (λ (n : List ℕ). same n c.args.token.bytes.now) c.name.ensures) (kept c.args.gates.now _)

pub indexed-requires : goal.indexed-requires
indexed-requires c = ap (opened_for c.args.s.words) (sym (ap piece_of c.in-Index.is)) ∙ c.requires

pub returns-in-Index : goal.returns-in-Index
returns-in-Index c = subst (λ (p : Piece). Took c.args.s c.args.gates.now p (token_of c.args.token) c.indexed.result c.indexed.new.gates) (sym (ap piece_of c.in-Index.is)) c.indexed.ensures
