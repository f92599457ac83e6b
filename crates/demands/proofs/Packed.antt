-- What was delivered can be packed, and of the profile be written without √2 parts: its blocks, record by record, are those of the branches.
use mathlib.Core.Path.{◌≡◌, sym, ap, ◌∙◌, subst}
use mathlib.Core.Bool.{false}
use mathlib.Core.List.{List, [], ◌++◌}
use Prim.Native.Nat.{ℕ, ◌+◌, ◌*◌, ◌/◌, ◌%◌, ◌^◌, ◌<◌}
use lib.Arith.{digits_lt, digits_div, digits_mod}
use lib.ListN.{length, get_or, drop}
use lib.IntN.{ℤ}
use Rattle.exact.specs.Exact.{Exact, conj}
use Rattle.gate.specs.Gate.{gates_of}
use Rattle.kraus.specs.Branch.{Store, Branch}
use Rattle.kraus.specs.Blocks.{survivors, stores, block}
use Rattle.kraus.proofs.Hermitian.{hermitian}
use Rattle.channel.specs.Layout.{channels, side}
use Rattle.channel.specs.Forms.{block_of}
use Rattle.channel.specs.WellFormed.{has_zero_block}
use Rattle.channel.proofs.Written.{written_entry}
use Rattle.packed.proofs.Claims.{packs}
use Rattle.plain_words.proofs.Claims.{keeps}
use Rattle.plain.specs.Profile.{Plain}
use Rattle.plain.proofs.Claims.{plain_calls}
use Rattle.collect.specs.Delivered.{block_no, branches_words}
use Rattle.judge.specs.Delivered.{circuit_words}
use Rattle.pauli_words.specs.Words.{nodes_of, operations_of}
use Rattle.pauli.specs.Delivered.{program_words}
use Rattle.judge.proofs.Accepted.{sound}
use Rattle.demands.specs.Packed.{Packable, Rational, CircuitsPack, ProgramsPack, PlainWrites}
use Rattle.demands.proofs.Reading.{formed_back}
use Rattle.demands.proofs.Along.{Deliverable}
use Rattle.demands.proofs.Channels.{Source, circuit_source, deliverable, none-zero}
use Rattle.demands.proofs.Demands.{result_is}
use Rattle.demands.proofs.Plain.{plain-channels}
use Rattle.demands.proofs.Programs as programs

module _ {n m : ℕ} {bs : List Branch} (dl : Deliverable n m bs) (rest : List ℤ) where
  abbrev w : ℕ
  w = side (2 ^ n)

  abbrev l : List ℤ
  l = branches_words (2 ^ n) m bs ++ rest

  -- the entries of record j
  entry : ℕ → ℕ → Exact
  entry j = (block_of (channels (2 ^ n)) l j).entry

  entry_at : (j k : ℕ) → j < length (stores bs) → k < w * w → entry j k ≡ block bs (get_or (stores bs) j []) (k / w) (k % w)
  unfolding entry
  entry_at j k h p = written_entry (channels (2 ^ n)) (2 ^ n) m (length (stores bs)) (block_no (2 ^ n) bs) rest j h (dl.writable.suits j h) (dl.writable.lowest j h) k p

  entry_is : (j i c : ℕ) → j < length (stores bs) → i < w → c < w → entry j (i * w + c) ≡ block bs (get_or (stores bs) j []) i c
  entry_is j i c h p q = entry_at j (i * w + c) h (digits_lt p q) ∙ (λ x. block bs (get_or (stores bs) j []) (digits_div i q x) (digits_mod i q x))

  pub packable : has_zero_block (branches_words (2 ^ n) m bs ++ rest) ≡ false → Packable (branches_words (2 ^ n) m bs ++ rest)
  unfolding entry
  packable z res = packs.never_unfit l res (record {
    right = formed_back dl.writable rest;
    suits = λ j h. (packs.hermitian (2 ^ n) (entry j)).1
        (λ r c p q. entry_is j r c h p q ∙ hermitian bs (get_or (stores bs) j []) r c ∙ ap conj (sym (entry_is j c r h q p)));
  }) z

  pub rational : ((τ : Store) (i j : ℕ) → Plain (block bs τ i j)) → has_zero_block (branches_words (2 ^ n) m bs ++ rest) ≡ false → Rational (branches_words (2 ^ n) m bs ++ rest)
  unfolding entry
  rational h z res = keeps.never_unfit l res (record {
    right = formed_back dl.writable rest;
    suits = λ j k. (keeps.rational (2 ^ n) (entry j)).1 (λ i p. let f = subst Plain (sym (entry_at j i k p)) (h (get_or (stores bs) j []) (i / w) (i % w)) in (f.n1, f.n3));
  }) z

source_packable : {n m : ℕ} {all : List Branch} → Source n m all → (rest : List ℤ) → Packable (branches_words (2 ^ n) m (survivors all) ++ rest)
source_packable s rest = packable (deliverable s) rest (none-zero s rest)

pub circuits_pack : CircuitsPack
circuits_pack n m σ l ws r w e =
    subst Packable (sym (result_is n m σ l ws r w e)) (source_packable (circuit_source (sound n m σ l ws r w e)) (drop (length (circuit_words n m σ (gates_of ws))) r))

pub programs_pack : ProgramsPack
programs_pack n m σ l ns os r w e =
    subst Packable (sym (programs.result_is n m σ l ns os r w e))
    (source_packable (programs.source n m σ l ns os r w e) (drop (length (program_words n m σ (nodes_of ns) (operations_of os))) r))

pub plain-writes : PlainWrites
plain-writes n m σ l ws r w e =
    let c = plain-channels n m σ l ws r w e in
    let s = circuit_source (sound n m σ l ws r w c.full) in
    let rest : List ℤ = drop (length (circuit_words n m σ (gates_of ws))) r in
    subst Rational (sym (c.result ∙ result_is n m σ l ws r w c.full)) (rational (deliverable s) rest ((plain_calls n m σ l ws r w).blocks e) (none-zero s rest))
