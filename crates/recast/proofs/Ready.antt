-- What well-formed words say of their records, and of their indices in another form.
use mathlib.Core.Path.{◌≡◌, sym, ap, ◌∙◌, subst}
use mathlib.Core.Bool.{true}
use mathlib.Core.List.{List}
use Prim.Native.Nat.{ℕ, zero, suc, ◌+◌, ◌*◌, ◌-◌, ◌/◌, ◌^◌, ◌<◌, ◌≤◌}
use native.Mathlib.Nat.{mul-le-mul, le_refl, zero-mul, div-eq_of_lt}
use native.Mathlib.Omega.{arith}
use lib.Arith.{digits_div}
use lib.ListN.{length}
use lib.IntN.{ℤ, pos, nat_abs}
use borrow.Author.Tests.{eqb-true}
use Rattle.channel.specs.Layout.{Form, header_size, record_head, block_size, record_size, record_at, word, bits_at, count_at}
use Rattle.channel.specs.WellFormed.{block_ok}
use Rattle.channel.specs.Inner.Shapes.{OnwardIn}
use Rattle.channel.proofs.Judging.{formed_in, chain-end}
use Rattle.channel.proofs.Chain.{begin_in, first_in, on-start, on-block, on-next, on-index, chain-from}
use Rattle.channel.proofs.Visits.{each_record}
use Rattle.recast.specs.Inner.Records.{Linked, Records, Ready}

pub place_of : (F : Form) (j : ℕ) → (record_at F j - header_size) / record_size F ≡ j
place_of F j = by (block_size F)
  where
    by : (r : ℕ) → (header_size + j * (record_head + r) - header_size) / (record_head + r) ≡ j
    by r = let z : header_size + j * (record_head + r) - header_size ≡ j * (record_head + r) + 0 = omega arith in ap (λ (k : ℕ). k / (record_head + r)) z ∙ digits_div j (omega arith)

module _ (F G : Form) (l : List ℤ) (n : ℕ) (res : List ℤ) (g : Ready F G l n res) (big : length res < 2 ^ 63) where
  small : (k at : ℕ) → OnwardIn F l k at → record_at G ((at - header_size) / record_size F) < 2 ^ 63
  small zero at o =
      subst (λ (p : ℕ). record_at G p < 2 ^ 63) (sym (ap (λ (a : ℕ). (a - header_size) / record_size F) none ∙ div-eq_of_lt (omega arith))) (omega (arith, zero-mul (record_size G)))
    where
      none : at ≡ 0
      none = eqb-true at 0 (sym (chain-end F l (bits_at l) (count_at l) 0 (pos at) o.first o.prev (omega arith)) ∙ o.ahead)
  small (suc k) at o =
      let s = on-start o (omega arith) in
      subst (λ (p : ℕ). record_at G p < 2 ^ 63) (sym (ap (λ (a : ℕ). (a - header_size) / record_size F) s.is ∙ place_of F s.place)) (by s.place (record_size G) s.below g.room)
    where
      by : (p r : ℕ) → p < count_at l → header_size + count_at l * r ≤ length res → header_size + p * r < 2 ^ 63
      by p r h u = let q : p ≤ count_at l = omega arith in let m = mul-le-mul q (le_refl r) in omega arith

  linked : (k at : ℕ) → OnwardIn F l k at → (z : ℤ) → z ≡ pos at → Linked F G z
  linked k at o z f = record {
    index = f ∙ ap (λ (y : ℤ). pos (nat_abs y)) (sym f);
    start = λ q. subst (λ (y : ℤ). header_size ≤ nat_abs y) (sym f) (chain-from k at o (λ e. q (f ∙ ap pos e)));
    small = subst (λ (y : ℤ). record_at G ((nat_abs y - header_size) / record_size F) < 2 ^ 63) (sym f) (small k at o);
  }

  pub first-linked : Linked F G (word l 3)
  first-linked = linked (count_at l) (nat_abs (word l 3)) (begin_in F l g.right) (word l 3) (first_in F l g.right)

  pub records-of : Records F G l n
  records-of = record {
    inside = subst (λ (k : ℕ). record_at F k ≤ length l) (sym g.count) (formed_in F l g.right).0.inside;
    block = λ j h. each_record F l g.right (λ (at : ℕ). block_ok F l at ≡ true) (λ k at o p. on-block o p) j (subst (λ (k : ℕ). j < k) g.count h);
    next = λ j h. each_record F l g.right (λ (at : ℕ). Linked F G (word l at)) (λ k at o p. linked (k - 1) (nat_abs (word l at)) (on-next o p) (word l at) (on-index o p)) j (subst (λ (k : ℕ). j < k) g.count h);
  }
