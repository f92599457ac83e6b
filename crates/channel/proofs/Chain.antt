-- Walking along the chain of a well-formed channel: each record lies inside the words and is well formed.
use mathlib.Core.Path.{◌≡◌, refl, sym, ◌∙◌, subst}
use mathlib.Core.Bool.{Bool, true, false, ◌&&◌, true≢false}
use mathlib.Core.List.{List}
use Prim.Native.Nat.{ℕ, zero, suc, ◌+◌, ◌*◌, ◌-◌, ◌<◌, ◌≤◌}
use native.Mathlib.Nat.{le_trans}
use native.Mathlib.Omega.{arith}
use lib.Dec.{T}
use lib.ListN.{length}
use lib.IntN.{ℤ, pos, negsuc, nat_abs}
use lib.Signed.{non_neg}
use borrow.Author.Tests.{eqb-true}
use Rattle.algebra.specs.Words.{eqℤ, up_to}
use Rattle.algebra.proofs.Tests.{and_split}
use Rattle.store.specs.Store.{max_word}
use Rattle.channel.specs.Layout.{Form, channels, header_size, record_size, word, store_at, dim_at, bits_at, count_at}
use Rattle.channel.specs.WellFormed.{store_ok, rises, block_ok, record_ok, chain_ok, well_formed_in, well_formed}
use Rattle.channel.specs.Inner.Shapes.{OnwardIn, Onward}
use Rattle.channel.proofs.Words.{Starts, starts, starts-inside}
use Rattle.channel.proofs.Judging.{in_channel, formed_in, chain-start, chain_record, chain-rest, chain-end}

-- an index on a chain that is right is not negative
pub natural_of : (z : ℤ) → T (non_neg z) → z ≡ pos (nat_abs z)
natural_of (pos a) t = refl
natural_of (negsuc a) t = absurd t

zero-index : (z : ℤ) → eqℤ z (pos 0) ≡ true → z ≡ pos (nat_abs z)
zero-index (pos a) e = refl
zero-index (negsuc a) e = absurd (true≢false (sym e))

pub chain-index : (F : Form) (l : List ℤ) (m count n : ℕ) (z : ℤ) (first : Bool) (prev : ℕ) → chain_ok F l m count n z first prev ≡ true → z ≡ pos (nat_abs z)
chain-index F l m count zero z first prev e = zero-index z (sym (chain-end F l m count 0 z first prev (omega arith)) ∙ e)
chain-index F l m count (suc n) z first prev e = natural_of z (starts F count z (chain-start F l m count (suc n) z first prev (omega arith) e)).0

module _ (F : Form) (l : List ℤ) (e : well_formed_in F l ≡ true) where
  onward : (n : ℕ) (z : ℤ) (first : Bool) (prev : ℕ) → chain_ok F l (bits_at l) (count_at l) n z first prev ≡ true → OnwardIn F l n (nat_abs z)
  onward n z first prev c = record {
    right = e;
    first = first;
    prev = prev;
    ahead = subst (λ (y : ℤ). chain_ok F l (bits_at l) (count_at l) n y first prev ≡ true) (chain-index F l (bits_at l) (count_at l) n z first prev c) c;
  }

  pub begin_in : OnwardIn F l (count_at l) (nat_abs (word l 3))
  begin_in = onward (count_at l) (word l 3) true 0 (formed_in F l e).1

  pub first_in : word l 3 ≡ pos (nat_abs (word l 3))
  first_in = chain-index F l (bits_at l) (count_at l) (count_at l) (word l 3) true 0 (formed_in F l e).1

  pub long_in : header_size ≤ length l
  long_in = let r = (formed_in F l e).0.inside in omega arith

module _ (l : List ℤ) (e : well_formed l ≡ true) where
  pub onward_begin : Onward l (count_at l) (nat_abs (word l 3))
  onward_begin = begin_in (channels (dim_at l)) l (sym (in_channel l) ∙ e)

  pub first-index : word l 3 ≡ pos (nat_abs (word l 3))
  first-index = first_in (channels (dim_at l)) l (sym (in_channel l) ∙ e)

  pub header_long : header_size ≤ length l
  header_long = long_in (channels (dim_at l)) l (sym (in_channel l) ∙ e)

module _ {F : Form} {l : List ℤ} {n at : ℕ} (o : OnwardIn F l n at) (h : 0 < n) where
  pub on-start : Starts F (count_at l) at
  on-start = (starts F (count_at l) (pos at) (chain-start F l (bits_at l) (count_at l) n (pos at) o.first o.prev h o.ahead)).1

  pub on-inside : at + record_size F ≤ length l
  on-inside = le_trans (starts-inside on-start) (formed_in F l o.right).0.inside

  pub on_record : record_ok F l (bits_at l) at o.first o.prev ≡ true
  on_record = chain_record F l (bits_at l) (count_at l) n (pos at) o.first o.prev h o.ahead

  pub on_store : store_ok l at (bits_at l) ≡ true
  on_store = (and_split (store_ok l at (bits_at l)) _ on_record).0

  pub on-words : (up_to max_word (word l (at + 1)) ≡ true) × (up_to max_word (word l (at + 2)) ≡ true)
  on-words = and_split (up_to max_word (word l (at + 1))) _ (and_split (up_to max_word (word l (at + 1)) && up_to max_word (word l (at + 2))) _ on_store).0

  pub on-block : block_ok F l at ≡ true
  on-block = (and_split (rises o.first o.prev (store_at l at)) _ (and_split (store_ok l at (bits_at l)) _ on_record).1).1

  on-rest : chain_ok F l (bits_at l) (count_at l) (n - 1) (word l at) false (store_at l at) ≡ true
  on-rest = chain-rest F l (bits_at l) (count_at l) n (pos at) o.first o.prev h o.ahead

  pub on-next : OnwardIn F l (n - 1) (nat_abs (word l at))
  on-next = onward F l o.right (n - 1) (word l at) false (store_at l at) on-rest

  pub on-index : word l at ≡ pos (nat_abs (word l at))
  on-index = chain-index F l (bits_at l) (count_at l) (n - 1) (word l at) false (store_at l at) on-rest

-- an index on the chain is 0, or that of a record
pub chain-from : {F : Form} {l : List ℤ} (n at : ℕ) → OnwardIn F l n at → (at ≡ 0 → ⊥) → header_size ≤ at
chain-from {F} {l} zero at o h = absurd (h (zero_is at (sym (chain-end F l (bits_at l) (count_at l) 0 (pos at) o.first o.prev (omega arith)) ∙ o.ahead)))
  where
    zero_is : (a : ℕ) → eqℤ (pos a) (pos 0) ≡ true → a ≡ 0
    zero_is a e = eqb-true a 0 e
chain-from {F} {l} (suc n) at o h = let s = on-start o (omega arith) in by s.place (record_size F) s.is
  where
    by : (p r : ℕ) → at ≡ header_size + p * r → header_size ≤ at
    by p r e = omega arith
