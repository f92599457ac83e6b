-- The merge of blocks in rising order of their stores is one too; what is found on either side of it.
use mathlib.Core.Path.{◌≡◌, refl, sym, ap, ◌∙◌, subst}
use mathlib.Core.Bool.{Bool, true, false, not, cond}
use mathlib.Core.List.{List, [], ◌∷◌, map}
use Prim.Native.Nat.{ℕ, ◌^◌, ◌<◌}
use lib.Dec.{eqb}
use borrow.Author.Tests.{eq-eqb, ne_eqb, eqb-true, eqb-false}
use Rattle.exact.specs.Exact.{Exact, exact}
use Rattle.store.specs.Store.{before}
use Rattle.store.proofs.Order.{before-total, before_apart}
use Rattle.channel.specs.Layout.{Block}
use Rattle.channel.specs.Claims.{look}
use Rattle.channel.proofs.Sorted.{Above, Sorted, above_trans, keys, look_above, other}
use Rattle.compare.specs.Compare.{Both, left_only, right_only, paired, merge}

abbrev pub stores : List Both → List ℕ
stores bs = map (λ (b : Both). b.store) bs

-- ---- the merge, and the merge the other way round
abbrev pub swap : Both → Both
swap b = record { store = b.store; left = b.right; right = b.left }

merge-left-only : (bs : List Block) → merge bs [] ≡ map left_only bs
merge-left-only [] = refl
merge-left-only (b ∷ bs) = ap (λ (t : List Both). left_only b ∷ t) (merge-left-only bs)

not-other : (x y : ℕ) → x < 2 ^ 64 → y < 2 ^ 64 → eqb x y ≡ false → before x y ≡ true → before y x ≡ false
not-other x y h k e f = before-total y x k h (ne_eqb y x (λ q. eqb-false x y e (sym q))) ∙ ap not f

pub merge-swap : (xs bs : List Block) → Sorted (keys xs) → Sorted (keys bs) → merge bs xs ≡ map swap (merge xs bs)
merge-swap [] bs p q = merge-left-only bs ∙ by bs
  where
    by : (bs : List Block) → map left_only bs ≡ map swap (map right_only bs)
    by [] = refl
    by (b ∷ bs) = ap (λ (t : List Both). left_only b ∷ t) (by bs)
merge-swap (a ∷ xs) bs p q = inner bs q (λ cs r. merge-swap xs cs p.1.1 r)
  where
    inner : (bs : List Block) → Sorted (keys bs) → ((cs : List Block) → Sorted (keys cs) → merge cs xs ≡ map swap (merge xs cs)) → merge bs (a ∷ xs) ≡ map swap (merge (a ∷ xs) bs)
    inner [] q ih = ap (λ (t : List Both). right_only a ∷ t) (ih [] tt)
    inner (b ∷ bs) q ih = go (eqb a.store b.store) refl (before a.store b.store) refl (ih bs q.1.1) (ih (b ∷ bs) q) (inner bs q.1.1 ih)
      where
        there : Bool → Bool → List Both
        there x y = cond x (paired b a ∷ merge bs xs) (cond y (left_only b ∷ merge bs (a ∷ xs)) (right_only a ∷ merge (b ∷ bs) xs))

        here : Bool → Bool → List Both
        here x y = cond x (paired a b ∷ merge xs bs) (cond y (left_only a ∷ merge xs (b ∷ bs)) (right_only b ∷ merge (a ∷ xs) bs))

        go : (x : Bool) → eqb a.store b.store ≡ x → (y : Bool) → before a.store b.store ≡ y
            → merge bs xs ≡ map swap (merge xs bs) → merge (b ∷ bs) xs ≡ map swap (merge xs (b ∷ bs)) → merge bs (a ∷ xs) ≡ map swap (merge (a ∷ xs) bs)
            → merge (b ∷ bs) (a ∷ xs) ≡ map swap (merge (a ∷ xs) (b ∷ bs))
        go true x y f e1 e2 e3 =
            let q = eqb-true a.store b.store x in
            (λ i. there (eq-eqb b.store a.store (sym q) i) (before b.store a.store))
            ∙ (λ i. record { store = sym q i; left = b.entry; right = a.entry } ∷ e1 i)
            ∙ sym (ap (map swap) (λ i. here (x i) (before a.store b.store)))
        go false x true y e1 e2 e3 =
            (λ i. there (ne_eqb b.store a.store (λ e. eqb-false a.store b.store x (sym e)) i) (not-other a.store b.store p.0 q.0 x y i))
            ∙ (λ i. right_only a ∷ e2 i)
            ∙ sym (ap (map swap) (λ i. here (x i) (y i)))
        go false x false y e1 e2 e3 =
            (λ i. there (ne_eqb b.store a.store (λ e. eqb-false a.store b.store x (sym e)) i) (other a.store b.store p.0 q.0 x y i))
            ∙ (λ i. left_only b ∷ e3 i)
            ∙ sym (ap (map swap) (λ i. here (x i) (y i)))

-- ---- what is found on either side
abbrev pub look_left : List Both → ℕ → ℕ → Exact
look_left [] s k = exact.𝟘
look_left (b ∷ bs) s k = cond (eqb s b.store) (b.left k) (look_left bs s k)

abbrev pub look_right : List Both → ℕ → ℕ → Exact
look_right [] s k = exact.𝟘
look_right (b ∷ bs) s k = cond (eqb s b.store) (b.right k) (look_right bs s k)

pub look-swap : (bs : List Both) (s k : ℕ) → look_left (map swap bs) s k ≡ look_right bs s k
look-swap [] s k = refl
look-swap (b ∷ bs) s k = ap (cond (eqb s b.store) (b.right k)) (look-swap bs s k)

pub none_left : (bs : List Both) (s k : ℕ) → Above s (stores bs) → look_left bs s k ≡ exact.𝟘
none_left [] s k a = refl
none_left (b ∷ bs) s k a = ap (λ (t : Bool). cond t (b.left k) (look_left bs s k)) (before_apart s b.store a.0) ∙ none_left bs s k a.1

pub none_right : (bs : List Both) (s k : ℕ) → Above s (stores bs) → look_right bs s k ≡ exact.𝟘
none_right [] s k a = refl
none_right (b ∷ bs) s k a = ap (λ (t : Bool). cond t (b.right k) (look_right bs s k)) (before_apart s b.store a.0) ∙ none_right bs s k a.1

same-zero : (t : Bool) → cond t exact.𝟘 exact.𝟘 ≡ exact.𝟘
same-zero true = refl
same-zero false = refl

pub merge-left : (xs bs : List Block) → Sorted (keys xs) → Sorted (keys bs) → (s k : ℕ) → look_left (merge xs bs) s k ≡ look xs s k
merge-left [] [] p q s k = refl
merge-left [] (b ∷ bs) p q s k = ap (cond (eqb s b.store) exact.𝟘) (merge-left [] bs p q.1.1 s k) ∙ same-zero (eqb s b.store)
merge-left (a ∷ xs) bs p q s k = inner bs q (λ cs r. merge-left xs cs p.1.1 r s k)
  where
    inner : (bs : List Block) → Sorted (keys bs) → ((cs : List Block) → Sorted (keys cs) → look_left (merge xs cs) s k ≡ look xs s k) → look_left (merge (a ∷ xs) bs) s k ≡ look (a ∷ xs) s k
    inner [] q ih = ap (cond (eqb s a.store) (a.entry k)) (ih [] tt)
    inner (b ∷ bs) q ih = go (eqb a.store b.store) refl (before a.store b.store) refl (ih bs q.1.1) (ih (b ∷ bs) q) (inner bs q.1.1 ih)
      where
        here : Bool → Bool → List Both
        here x y = cond x (paired a b ∷ merge xs bs) (cond y (left_only a ∷ merge xs (b ∷ bs)) (right_only b ∷ merge (a ∷ xs) bs))

        -- a store of the right side alone
        missing : (t : Bool) → eqb s b.store ≡ t → Above b.store (keys (a ∷ xs)) → cond t exact.𝟘 (look (a ∷ xs) s k) ≡ look (a ∷ xs) s k
        missing true e r = sym (look_above (a ∷ xs) s k (subst (λ (x : ℕ). Above x (keys (a ∷ xs))) (sym (eqb-true s b.store e)) r))
        missing false e r = refl

        go : (x : Bool) → eqb a.store b.store ≡ x → (y : Bool) → before a.store b.store ≡ y
            → look_left (merge xs bs) s k ≡ look xs s k → look_left (merge xs (b ∷ bs)) s k ≡ look xs s k → look_left (merge (a ∷ xs) bs) s k ≡ look (a ∷ xs) s k
            → look_left (merge (a ∷ xs) (b ∷ bs)) s k ≡ look (a ∷ xs) s k
        go true x y f e1 e2 e3 = (λ i. look_left (here (x i) (before a.store b.store)) s k) ∙ ap (cond (eqb s a.store) (a.entry k)) e1
        go false x true y e1 e2 e3 = (λ i. look_left (here (x i) (y i)) s k) ∙ ap (cond (eqb s a.store) (a.entry k)) e2
        go false x false y e1 e2 e3 =
            let o = other a.store b.store p.0 q.0 x y in
            (λ i. look_left (here (x i) (y i)) s k) ∙ ap (cond (eqb s b.store) exact.𝟘) e3 ∙ missing (eqb s b.store) refl (o, above_trans b.store a.store (keys xs) o p.1.0)

pub merge-right : (xs bs : List Block) → Sorted (keys xs) → Sorted (keys bs) → (s k : ℕ) → look_right (merge xs bs) s k ≡ look bs s k
merge-right xs bs p q s k =
    sym (look-swap (merge xs bs) s k) ∙ ap (λ (t : List Both). look_left t s k) (sym (merge-swap xs bs p q)) ∙ merge-left bs xs q p s k

-- ---- the merge is sorted
merge_above : (xs bs : List Block) (s : ℕ) → Above s (keys xs) → Above s (keys bs) → Above s (stores (merge xs bs))
merge_above [] [] s p q = tt
merge_above [] (b ∷ bs) s p q = (q.0, merge_above [] bs s p q.1)
merge_above (a ∷ xs) bs s p q = inner bs q (λ cs r. merge_above xs cs s p.1 r)
  where
    inner : (bs : List Block) → Above s (keys bs) → ((cs : List Block) → Above s (keys cs) → Above s (stores (merge xs cs))) → Above s (stores (merge (a ∷ xs) bs))
    inner [] q ih = (p.0, ih [] tt)
    inner (b ∷ bs) q ih = go (eqb a.store b.store) (before a.store b.store) (ih bs q.1) (ih (b ∷ bs) q) (inner bs q.1 ih)
      where
        go : (x y : Bool) → Above s (stores (merge xs bs)) → Above s (stores (merge xs (b ∷ bs))) → Above s (stores (merge (a ∷ xs) bs))
            → Above s (stores (cond x (paired a b ∷ merge xs bs) (cond y (left_only a ∷ merge xs (b ∷ bs)) (right_only b ∷ merge (a ∷ xs) bs))))
        go true y r1 r2 r3 = (p.0, r1)
        go false true r1 r2 r3 = (p.0, r2)
        go false false r1 r2 r3 = (q.0, r3)

pub merge_sorted : (xs bs : List Block) → Sorted (keys xs) → Sorted (keys bs) → Sorted (stores (merge xs bs))
merge_sorted [] [] p q = tt
merge_sorted [] (b ∷ bs) p q = (q.0, (merge_above [] bs b.store tt q.1.0, merge_sorted [] bs p q.1.1))
merge_sorted (a ∷ xs) bs p q = inner bs q (λ cs r. merge_sorted xs cs p.1.1 r)
  where
    inner : (bs : List Block) → Sorted (keys bs) → ((cs : List Block) → Sorted (keys cs) → Sorted (stores (merge xs cs))) → Sorted (stores (merge (a ∷ xs) bs))
    inner [] q ih = (p.0, (merge_above xs [] a.store p.1.0 tt, ih [] tt))
    inner (b ∷ bs) q ih = go (eqb a.store b.store) refl (before a.store b.store) refl (ih bs q.1.1) (ih (b ∷ bs) q) (inner bs q.1.1 ih)
      where
        here : Bool → Bool → List Both
        here x y = cond x (paired a b ∷ merge xs bs) (cond y (left_only a ∷ merge xs (b ∷ bs)) (right_only b ∷ merge (a ∷ xs) bs))

        go : (x : Bool) → eqb a.store b.store ≡ x → (y : Bool) → before a.store b.store ≡ y
            → Sorted (stores (merge xs bs)) → Sorted (stores (merge xs (b ∷ bs))) → Sorted (stores (merge (a ∷ xs) bs)) → Sorted (stores (merge (a ∷ xs) (b ∷ bs)))
        go true x y f r1 r2 r3 =
            let e = eqb-true a.store b.store x in
            subst (λ (t : List Both). Sorted (stores t)) (sym (λ i. here (x i) (before a.store b.store)))
            (p.0, (merge_above xs bs a.store p.1.0 (subst (λ (t : ℕ). Above t (keys bs)) (sym e) q.1.0), r1))
        go false x true y r1 r2 r3 =
            subst (λ (t : List Both). Sorted (stores t)) (sym (λ i. here (x i) (y i)))
            (p.0, (merge_above xs (b ∷ bs) a.store p.1.0 (y, above_trans a.store b.store (keys bs) y q.1.0), r2))
        go false x false y r1 r2 r3 =
            let o = other a.store b.store p.0 q.0 x y in
            subst (λ (t : List Both). Sorted (stores t)) (sym (λ i. here (x i) (y i)))
            (q.0, (merge_above (a ∷ xs) bs b.store (o, above_trans b.store a.store (keys xs) o p.1.0) q.1.0, r3))
