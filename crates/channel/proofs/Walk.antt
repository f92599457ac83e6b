-- One record along the chain: its store where it is in its place, and what is found where it is right, and where it is not. It is read from its first word on.
use Rattle.std.specs.Prelude.{Option, Some, None}
use mathlib.Core.Path.{◌≡◌, refl, sym, ap, ◌∙◌}
use mathlib.Core.Bool.{Bool, true, false, ◌&&◌, ◌||◌}
use mathlib.Core.List.{List}
use Prim.Native.Nat.{ℕ, ◌+◌, ◌-◌, ◌<◌, ◌≤◌}
use native.Mathlib.Nat.{le_trans}
use lib.Dec.{T}
use lib.ListN.{length, drop}
use lib.IntN.{ℤ, nat_abs}
use lib.Signed.{non_neg}
use Rattle.algebra.proofs.Tests.{and_split}
use Rattle.channel.specs.Layout.{Form, record_size, word, store_at}
use Rattle.channel.specs.WellFormed.{store_ok, rises, is_start, block_ok}
use Rattle.channel.specs.Inner.Shapes.{when, blank, enters, Room}
use Rattle.channel.proofs.Words.{starts, starts-inside}
use Rattle.channel.proofs.Judging.{there, lacking, rest, step, no_record, chain_found, refused, further}
use Rattle.channel.proofs.Suffix.{first-from, store-from, stored-from, block-from, blank-from}

module _ (F : Form) (l : List ℤ) (m count : ℕ) (z : ℤ) (first : Bool) (prev : ℕ) where
  abbrev at : ℕ
  at = nat_abs z

  abbrev pub found_store : Option ℕ
  found_store = when (enters F l m count z first prev) (store_at l at)

  -- ---- its store
  pub no_start : is_start F count z ≡ false → None ≡ found_store
  no_start s = sym (ap (λ (b : Bool). when (b && (store_ok l at m && rises first prev (store_at l at))) (store_at l at)) s)

  module _ (s : is_start F count z ≡ true) {w : List ℤ} (e : w ≡ drop at l) where
    stored : store_ok w 0 m ≡ store_ok l at m
    stored = ap (λ (v : List ℤ). store_ok v 0 m) e ∙ stored-from l at m

    pub no_store : None ≡ when (store_ok w 0 m) (store_at w 0) → None ≡ found_store
    no_store p = sym (λ i. when (s i && ((sym stored ∙ lacking (store_ok w 0 m) (store_at w 0) p refl) i && rises first prev (store_at l at))) (store_at l at))

    module _ {x : ℕ} (p : Some x ≡ when (store_ok w 0 m) (store_at w 0)) where
      its : (store_ok l at m ≡ true) × (x ≡ store_at l at)
      its = let q = there (store_ok w 0 m) (store_at w 0) p refl in (sym stored ∙ q.0, q.1 ∙ ap (λ (v : List ℤ). store_at v 0) e ∙ store-from l at)

      by_rise : {b : Bool} → rises first prev x ≡ b → enters F l m count z first prev ≡ b
      by_rise r = λ i. s i && (its.0 i && (ap (rises first prev) (sym its.1) ∙ r) i)

      pub no_rise : rises first prev x ≡ false → None ≡ found_store
      no_rise r = sym (ap (λ (b : Bool). when b (store_at l at)) (by_rise r))

      pub in_place : rises first prev x ≡ true → Some x ≡ found_store
      in_place r = ap Some its.1 ∙ sym (ap (λ (b : Bool). when b (store_at l at)) (by_rise r))

  module _ {x : ℕ} (p : Some x ≡ found_store) where
    known : (enters F l m count z first prev ≡ true) × (x ≡ store_at l at)
    known = there (enters F l m count z first prev) (store_at l at) p refl

    start : is_start F count z ≡ true
    start = (and_split (is_start F count z) _ known.0).0

    order : (store_ok l at m ≡ true) × (rises first prev (store_at l at) ≡ true)
    order = and_split (store_ok l at m) _ (and_split (is_start F count z) _ known.0).1

    -- its words are there
    pub in_room : Room F l m count → T (non_neg z) × (at + record_size F ≤ length l)
    in_room r = let t = starts F count z start in (t.0, le_trans (starts-inside t.1) r.inside)

  -- ---- what is found along the chain, `left` records from there on, where `b` tells whether one before them is blank
  module _ (left : ℕ) (b : Bool) (h : 0 < left) where
    abbrev found : Option Bool
    found = chain_found F l m count left z first prev b

    pub no_place : None ≡ found_store → found ≡ None
    no_place p =
        refused F l m count left z first prev b
        (step F l m count left z first prev h
        ∙ outside (is_start F count z) (store_ok l at m) (rises first prev (store_at l at)) (block_ok F l at) (rest F l m count left z first prev h)
        (lacking (enters F l m count z first prev) (store_at l at) p refl))
      where
        outside : (a b c d e : Bool) → (a && (b && c)) ≡ false → (a && ((b && (c && d)) && e)) ≡ false
        outside true true true d e t = absurd (cc)
        outside true true false d e t = refl
        outside true false c d e t = refl
        outside false b c d e t = refl

    module _ {x : ℕ} (p : Some x ≡ found_store) {w : List ℤ} (e : w ≡ drop at l) where
      block : block_ok F w 0 ≡ block_ok F l at
      block = ap (λ (v : List ℤ). block_ok F v 0) e ∙ block-from F l at

      pub no_block : {A : Type 0} (a : A) → None ≡ when (block_ok F w 0) a → found ≡ None
      no_block a q = refused F l m count left z first prev b (no_record F l m count left z first prev h (start p) (λ i. (order p).0 i && ((order p).1 i && (sym block ∙ lacking (block_ok F w 0) a q refl) i)))

      pub onward : {A : Type 0} (a : A) {y : A} → Some y ≡ when (block_ok F w 0) a → {d : Bool} → d ≡ blank F w 0 → {v : ℤ} → v ≡ word w 0 → found ≡ chain_found F l m count (left - 1) v false x (b || d)
      onward a q {d} f n =
          let t = there (block_ok F w 0) a q refl in
          let next = n ∙ ap (λ (u : List ℤ). word u 0) e ∙ first-from l at in
          let dull = f ∙ ap (λ (u : List ℤ). blank F u 0) e ∙ blank-from F l at in
          further F l m count left z first prev b h (start p) (λ i. (order p).0 i && ((order p).1 i && (sym block ∙ t.0) i)) ∙ (λ i. chain_found F l m count (left - 1) (sym next i) false (sym (known p).1 i) (b || sym dull i))
