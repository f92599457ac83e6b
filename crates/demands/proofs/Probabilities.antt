-- Effects of a channel that was delivered: no sum is out of range, each effect is Hermitian, and they add up to the identity.
use Rattle.std.specs.Prelude.{is_ok, Ok, Err}
use mathlib.Core.Path.{◌≡◌, refl, sym, ap, ◌∙◌, subst, fun_ext}
use mathlib.Core.Bool.{Bool, true, false, cond, ◌&&◌}
use mathlib.Core.List.{List, [], ◌++◌}
use Prim.Native.Nat.{ℕ, zero, suc, ◌+◌, ◌*◌, ◌/◌, ◌%◌, ◌^◌, ◌≤◌, ◌<◌}
use native.Mathlib.Nat.{div-lt_iff_lt-mul, mod-lt}
use native.Mathlib.Omega.{arith}
use lib.Arith.{digits_lt, digits_div, digits_mod}
use lib.Pow.{pow_pos}
use lib.ListN.{length, get_or, drop}
use lib.IntN.{ℤ}
use borrow.Author.Tests.{le-leb}
use Rattle.algebra.specs.Sum.{sum, δ}
use Rattle.algebra.proofs.Tests.{and_split, all-by}
use Rattle.algebra.proofs.Sum.{sum_same}
use Rattle.algebra.proofs.Totals.{Sub, sub_whole, sub_filter}
use Rattle.algebra.proofs.Perm.{gather}
use Rattle.algebra.proofs.Adjoint.{δ-turn}
use Rattle.verdict.specs.Questions.{Verdict}
use Rattle.verdict.specs.declared.Refusal.TheVariants.{ShortBuffer, TooLarge}
use Rattle.exact.specs.Exact.{Exact, exact, conj, in_range, is_lowest}
use Rattle.exact.proofs.Exact.{exacts, conj-plus}
use Rattle.gate.specs.Gate.{gates_of}
use Rattle.gate.proofs.Bits.{Word}
use Rattle.kraus.specs.Branch.{Store, Branch}
use Rattle.kraus.specs.Blocks.{alive, survivors, having, stores, block, povm}
use Rattle.kraus.proofs.Hermitian.{hermitian}
use Rattle.kraus.proofs.Effect.{effect, effect-povm}
use Rattle.kraus.proofs.Limits.{Enough, Fitting, kraus_exponent}
use Rattle.channel.specs.WellFormed.{verdict_by, form_verdict, has_zero_block}
use Rattle.channel.specs.Layout.{Block, channels, effects, record_at, entry_at, effect_place, read_back_in}
use Rattle.channel.proofs.Written.{written_entry}
use Rattle.effects.specs.Effects.{effect_at, povm_at, term, partials_fit, record_fits, sums_fit, effects_size, effects_words, effects_verdict, result_of, povm_of}
use Rattle.collect.specs.Delivered.{block_no, branches_words}
use Rattle.judge.specs.Delivered.{circuit_words}
use Rattle.judge.proofs.Accepted.{sound}
use Rattle.judge.proofs.Writable.{block-fits-shared}
use Rattle.demands.specs.Probabilities.{AddUp, Probabilities, OfCircuits}
use Rattle.demands.proofs.Reading.{formed_back}
use Rattle.demands.proofs.Agreeing.{agrees_all, agrees_fold}
use Rattle.demands.proofs.Along.{Deliverable, along, along-words}
use Rattle.demands.proofs.Effects.{Gives, Lowest, sum-lowest, povm_form, effect_form, povm_gives, effect_gives, effect_block, effect-blocks, effect-entry}
use Rattle.demands.proofs.Channels.{Source, circuit_source, source_enough, deliverable, source_total, none-zero}
use Rattle.demands.proofs.Demands.{result_is}

-- ---- an effect is Hermitian
conj-sum : (n : ℕ) (f : ℕ → Exact) → conj (sum exact n f) ≡ sum exact n (λ (k : ℕ). conj (f k))
conj-sum zero f = refl
conj-sum (suc n) f = conj-plus (sum exact n f) (f n) ∙ ap (λ (x : Exact). exact.◌⊕◌ x (conj (f n))) (conj-sum n f)

povm-hermitian : (d : ℕ) (bs : List Branch) (τ : Store) (r c : ℕ) → povm d bs τ r c ≡ conj (povm d bs τ c r)
povm-hermitian d bs τ r c =
    sym (effect-povm d bs τ c r) ∙ sum_same exacts d _ _ (λ o h. hermitian bs τ (o * d + c) (o * d + r))
    ∙ sym (conj-sum d (λ (o : ℕ). block bs τ (o * d + r) (o * d + c))) ∙ ap conj (effect-povm d bs τ r c)

module _ {n m : ℕ} {bs : List Branch} (dl : Deliverable n m bs) (rest : List ℤ) where
  abbrev d : ℕ
  d = 2 ^ n

  abbrev l : List ℤ
  l = branches_words (2 ^ n) m bs ++ rest

  abbrev store_no : ℕ → Store
  store_no j = get_or (stores bs) j []

  -- ---- no partial sum is out of range, and no effect at the exponent that its entries share
  module _ {all : List Branch} (e : Enough kraus_exponent n all) (s : Sub bs all) where
    abbrev at : ℕ → ℕ
    at = record_at (channels d)

    term_is : (j i o : ℕ) → j < length (stores bs) → i < d * d → o < d → term l (at j) d i o ≡ block bs (store_no j) (o * d + i / d) (o * d + i % d)
    term_is j i o h k p =
        let q : i / d < d = (div-lt_iff_lt-mul (pow_pos n)).1 k in
        let t : i % d < d = mod-lt i (pow_pos n) in
        written_entry (channels d) d m (length (stores bs)) (block_no d bs) rest j h (dl.writable.suits j h) (dl.writable.lowest j h) (effect_place d (i / d) (i % d) o) (digits_lt (digits_lt p q) (digits_lt p t))
        ∙ (λ x. block bs (store_no j) (digits_div (o * d + i / d) (digits_lt p t) x) (digits_mod (o * d + i / d) (digits_lt p t) x))

    part-fits : (j i k : ℕ) → j < length (stores bs) → i < d * d → k ≤ d → Fitting (kraus_exponent + kraus_exponent) (sum exact k (term l (at j) d i))
    part-fits j i k h p q =
        subst (Fitting (kraus_exponent + kraus_exponent)) (sym (sum_same exacts k _ _ (λ o t. term_is j i o h p (omega arith))))
        (e.effects _ (sub_filter (having (store_no j)) s) (i / d) (i % d) k ((div-lt_iff_lt-mul (pow_pos n)).1 p) (mod-lt i (pow_pos n)) q)

    in_range_lem : {x : Exact} → Fitting (kraus_exponent + kraus_exponent) x → in_range x ≡ true
    in_range_lem {x} f = (and_split (in_range x) (is_lowest x) f.well_formed_lem).0

    record_fits_lem : (j : ℕ) → j < length (stores bs) → record_fits l (at j) d ≡ true
    record_fits_lem j h =
        λ x. all-by (d * d) (λ (i : ℕ). partials_fit d (term l (at j) d i)) (λ i p. all-by d (λ (k : ℕ). in_range (sum exact (suc k) (term l (at j) d i))) (λ k q. in_range_lem (part-fits j i (suc k) h p q))) x
        && block-fits-shared (d * d) (effect_at l (at j) d) (λ i p. (part-fits j i d h p (omega arith)).room) x

    pub sums_fit_lem : sums_fit (branches_words (2 ^ n) m bs ++ rest) (2 ^ n) (length (stores bs)) ≡ true
    sums_fit_lem = all-by _ _ record_fits_lem

  -- ---- what is left adds up
  module _ (total : (r c : ℕ) → r < 2 ^ n → c < 2 ^ n → gather exact.◌⊕◌ (λ (τ : Store). effect (2 ^ n) bs τ r c) exact.𝟘 (along dl rest) ≡ δ exact r c)
      (fits : sums_fit (branches_words (2 ^ n) m bs ++ rest) (2 ^ n) (length (stores bs)) ≡ true) (full : has_zero_block (branches_words (2 ^ n) m bs ++ rest) ≡ false) where
    povm-total : (r c : ℕ) → r < d → c < d → gather exact.◌⊕◌ (λ (τ : Store). povm d bs τ r c) exact.𝟘 (along dl rest) ≡ δ exact r c
    povm-total r c p q =
        ap (λ (φ : Store → Exact). gather exact.◌⊕◌ φ exact.𝟘 (along dl rest)) (fun_ext (λ τ. sym (effect-povm d bs τ c r))) ∙ total c r q p ∙ δ-turn exact c r

    -- the verdict, by the answers to its three questions
    abbrev by : Bool → Bool → Bool → Verdict
    by p q s = cond p (cond q (cond s (Ok tt) (Err TooLarge)) (Err ShortBuffer)) (form_verdict (branches_words (2 ^ n) m bs ++ rest))

    accepting : (res : List ℤ) → effects_size l ≤ length res → effects_verdict l res ≡ Ok tt
    accepting res h = λ i. by (is_ok (verdict_by (formed_back dl.writable rest i) (full i))) (le-leb (effects_size l) (length res) h i) (fits i)

    module _ (res : List ℤ) (h : effects_size l ≤ length res) where
      ok : is_ok (effects_verdict l res) ≡ true
      ok = ap is_ok (accepting res h)

      add-up : (form : ℕ → (ℕ → Exact) → ℕ → Exact) → Lowest form → (x : Store → ℕ → ℕ → Exact) → Gives n bs form x → ((τ : Store) (r c : ℕ) → x τ r c ≡ conj (x τ c r))
          → ((r c : ℕ) → r < d → c < d → gather exact.◌⊕◌ (λ (τ : Store). x τ r c) exact.𝟘 (along dl rest) ≡ δ exact r c)
          → AddUp (2 ^ n) (effects_words (λ (l : List ℤ) (at d k : ℕ). form d (entry_at (channels d) l at) k) l res)
      add-up form low x is self whole =
          let e : List ℤ = effects_words (λ (l : List ℤ) (at d k : ℕ). form d (entry_at (channels d) l at) k) l res in
          record {
            hermitian = agrees_all d (effect_block n x) _ (Word m) (λ a τ w g r c p q.
                effect-entry dl rest res ok form low x is a τ g r c p q ∙ self τ r c ∙ ap conj (sym (effect-entry dl rest res ok form low x is a τ g c r q p)))
                (read_back_in (effects d) e) (along dl rest) (along-words dl rest) (effect-blocks dl rest res ok form low x is);
            identity = λ r c p q. agrees_fold d (effect_block n x) (λ (a : Block). a.entry (r * d + c)) (λ (τ : Store). x τ r c) (λ a τ g. effect-entry dl rest res ok form low x is a τ g r c p q)
                (read_back_in (effects d) e) (along dl rest) exact.𝟘 (effect-blocks dl rest res ok form low x is) ∙ whole r c p q;
          }

      povm_adds : AddUp (2 ^ n) (povm_of l res)
      povm_adds = subst (λ (t : Bool). AddUp d (cond t (effects_words povm_at l res) res)) (sym ok)
          (add-up povm_form (λ d y k. sum-lowest d _) (λ (τ : Store) (r c : ℕ). povm d bs τ r c) (povm_gives n bs) (λ τ r c. povm-hermitian d bs τ r c) povm-total)

      transposed_adds : AddUp (2 ^ n) (result_of l res)
      transposed_adds = subst (λ (t : Bool). AddUp d (cond t (effects_words effect_at l res) res)) (sym ok)
          (add-up effect_form (λ d y k. sum-lowest d _) (λ (τ : Store) (r c : ℕ). povm d bs τ c r) (effect_gives n bs) (λ τ r c. povm-hermitian d bs τ c r) (λ r c p q. povm-total c r q p ∙ δ-turn exact c r))

    pub delivered_probabilities : Probabilities (2 ^ n) (branches_words (2 ^ n) m bs ++ rest)
    delivered_probabilities = record { verdict = accepting; textbook = povm_adds; transposed = transposed_adds }

-- ---- the branches of an accepted circuit or program
pub source_probabilities : {n m : ℕ} {all : List Branch} → Source n m all → (rest : List ℤ) → Probabilities (2 ^ n) (branches_words (2 ^ n) m (survivors all) ++ rest)
source_probabilities {all = all} s rest =
    delivered_probabilities (deliverable s) rest (source_total s rest) (sums_fit_lem (deliverable s) rest (source_enough s) (sub_filter alive (sub_whole all))) (none-zero s rest)

pub of_circuits : OfCircuits
of_circuits n m σ l ws r w e =
    let words : List ℤ = circuit_words n m σ (gates_of ws) in
    subst (Probabilities (2 ^ n)) (sym (result_is n m σ l ws r w e)) (source_probabilities (circuit_source (sound n m σ l ws r w e)) (drop (length words) r))
