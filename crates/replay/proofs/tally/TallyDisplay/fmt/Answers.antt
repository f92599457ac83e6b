-- `Tally`'s text: the counts, and a second line where a case does not agree.
use Rattle.std.proofs.Common.{◌≡◌, refl, sym, ap, ◌∙◌, subst, Bool, true, ℕ, ◌≢◌, List, [], ◌++◌, append-nil, arith}
use Rattle.std.proofs.lemmas.Grind.{common_steps}
use Rattle.std.specs.Prelude.{nat_lt, if◌then◌else◌, Result, Ok, Err}
use Rattle.std.specs.Result.{IsOk, IsErr}
use Rattle.std.specs.declared.fmt.Formatter.{Formatter}
use Rattle.std.specs.Fmt.{HasWritten}
use Rattle.std.proofs.lemmas.Bool.Decides.{nat_tests}
use Rattle.replay.specs.declared.tally.Tally.{Tally}
use Rattle.replay.specs.Tally.{counts_text, first_text, tally_text}
use Rattle.replay.proofs.tally.TallyDisplay.fmt.Goals as goal

counts_alone : (t : Tally) → t.disagree ≡ 0 → counts_text t ≡ tally_text t
counts_alone t e = sym (append-nil (counts_text t)) ∙ ap (λ (n : ℕ). counts_text t ++ (if nat_lt 0 n then first_text t else [])) (sym e)

counts_and_first : (t : Tally) → t.disagree ≢ 0 → counts_text t ++ first_text t ≡ tally_text t
counts_and_first t h = let second : true ≡ nat_lt 0 t.disagree = grind (arith, nat_tests) in ap (λ (b : Bool). counts_text t ++ (if b then first_text t else [])) second

both : {W : Type 0} (took : W → List ℕ → W → Type 0) (f g h : Formatter W) (a b : List ℕ) → HasWritten took f a g → HasWritten took g b h → HasWritten took f (a ++ b) h
both took f g h a b p q = search common_steps

no_text : {A E : Type 0} (r : Result A E) → IsErr r → IsOk r → ⊥
no_text (Ok a) e o = (cc)
no_text (Err b) e o = (cc)

pub returns-in_err-write_counts-clause-writes : goal.returns-in_err-write_counts-clause-writes
returns-in_err-write_counts-clause-writes g c plain ok = absurd (no_text c.from_residual.result c.from_residual.ensures.0 ok)

pub returns-then-self-eq0-clause-writes : goal.returns-then-self-eq0-clause-writes
returns-then-self-eq0-clause-writes g c plain ok =
    subst (λ l. HasWritten g.W.Write.write_str_gives c.args.f.now l c.write_counts.new.f) (counts_alone c.args.self.now c.if-self-eq0.true) (c.in_ok-write_counts.ensures plain refl)

pub returns-clause-writes : goal.returns-clause-writes
returns-clause-writes g c plain ok =
    let t = c.args.self.now in
    let took = g.W.Write.write_str_gives in
    let counts = c.in_ok-write_counts.ensures plain refl in
    subst (λ l. HasWritten took c.args.f.now l c.write_first.new.f) (counts_and_first t c.if-self-eq0.false)
    (both took c.args.f.now c.write_counts.new.f c.write_first.new.f (counts_text t) (first_text t) counts (c.write_first.ensures counts.plain ok))
