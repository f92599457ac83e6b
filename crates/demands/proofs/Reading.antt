-- What is read back of a channel's words: the blocks that were written, each once, in the one rising order of their stores.
-- So two channels with the same blocks read back alike, and compare finds them the same.
use Rattle.std.specs.Prelude.{Ok}
use mathlib.Core.Path.{◌≡◌, refl, sym, ap, ap₂, ◌∙◌, subst}
use mathlib.Core.Logic.{◌⊎◌, inl, inr}
use mathlib.Core.Bool.{Bool, true, false, cond, not, true≢false}
use mathlib.Core.List.{List, [], ◌∷◌, ◌++◌, map}
use Prim.Native.Nat.{ℕ, zero, suc, ◌+◌, ◌*◌, ◌<◌, ◌≤◌}
use native.Mathlib.Omega.{arith}
use lib.Dec.{eqb}
use lib.ListN.{length, get_or, drop}
use lib.IntN.{ℤ, nat_abs}
use borrow.Author.Tests.{eq-eqb, ne_eqb, eqb-true, eqb-false}
use Rattle.algebra.specs.Lists.{All, filter_by}
use Rattle.algebra.proofs.Lists.{all_imp, filter_keep}
use Rattle.algebra.proofs.Trace.{nil, keep, swap, join, all_of, all_back, length-of, total_of}
use Rattle.algebra.proofs.Perm.{Perm, perm_path, perm_sym, map_of, filter_of}
use Rattle.compare.specs.declared.Comparison.TheVariants.{Same}
use Rattle.store.specs.Store.{before}
use Rattle.channel.specs.Layout.{Block, Form, channels, side, word, dim_at, words, channel_words, read_back_in, read_back}
use Rattle.channel.specs.WellFormed.{well_formed}
use Rattle.compare.specs.Compare.{compare_of}
use Rattle.channel.specs.Claims.{look, places, visits, Writable, ReadsBack}
use Rattle.compare.specs.Claims.{Comparable}
use Rattle.store.proofs.Order.{before_irrefl, before_trans, before_apart}
use Rattle.channel.proofs.Sorted.{Above, Sorted, keys, sorted_in}
use Rattle.channel.proofs.Judging.{in_channel}
use Rattle.channel.proofs.Visits.{length-places}
use Rattle.compare.proofs.Claims.{same_exactly}
use Rattle.channel.proofs.RoundTrip.{round_trip}

-- ---- blocks that agree: the same store, and the same entries in w rows and columns
pub record SameBlock (w : ℕ) (a b : Block) : Type 0 where
  pub store : a.store ≡ b.store
  pub entries : (k : ℕ) → k < w * w → a.entry k ≡ b.entry k

abbrev pub SameBlocks : ℕ → List Block → List Block → Type 0
SameBlocks w [] [] = Unit {0}
SameBlocks w [] (y ∷ ys) = ⊥
SameBlocks w (x ∷ xs) [] = ⊥
SameBlocks w (x ∷ xs) (y ∷ ys) = SameBlock w x y × SameBlocks w xs ys

pub blocks_sym : (w : ℕ) (xs ys : List Block) → SameBlocks w xs ys → SameBlocks w ys xs
blocks_sym w [] [] h = h
blocks_sym w [] (y ∷ ys) h = h
blocks_sym w (x ∷ xs) [] h = h
blocks_sym w (x ∷ xs) (y ∷ ys) h = (record { store = sym h.0.store; entries = λ k l. sym (h.0.entries k l) }, blocks_sym w xs ys h.1)

blocks_trans : (w : ℕ) (xs ys zs : List Block) → SameBlocks w xs ys → SameBlocks w ys zs → SameBlocks w xs zs
blocks_trans w [] [] zs h k = k
blocks_trans w [] (y ∷ ys) zs h k = absurd h
blocks_trans w (x ∷ xs) [] zs h k = absurd h
blocks_trans w (x ∷ xs) (y ∷ ys) [] h k = k
blocks_trans w (x ∷ xs) (y ∷ ys) (z ∷ zs) h k =
    (record { store = h.0.store ∙ k.0.store; entries = λ i l. h.0.entries i l ∙ k.0.entries i l }, blocks_trans w xs ys zs h.1 k.1)

pub blocks-stores : (w : ℕ) (xs ys : List Block) → SameBlocks w xs ys → keys xs ≡ keys ys
blocks-stores w [] [] h = refl
blocks-stores w [] (y ∷ ys) h = absurd h
blocks-stores w (x ∷ xs) [] h = absurd h
blocks-stores w (x ∷ xs) (y ∷ ys) h = λ i. h.0.store i ∷ blocks-stores w xs ys h.1 i

pub blocks_at : (w : ℕ) (xs ys : List Block) (z : Block) → SameBlocks w xs ys → (j k : ℕ) → k < w * w → (get_or xs j z).entry k ≡ (get_or ys j z).entry k
blocks_at w [] [] z h j k l = refl
blocks_at w [] (y ∷ ys) z h j k l = absurd h
blocks_at w (x ∷ xs) [] z h j k l = absurd h
blocks_at w (x ∷ xs) (y ∷ ys) z h zero k l = h.0.entries k l
blocks_at w (x ∷ xs) (y ∷ ys) z h (suc j) k l = blocks_at w xs ys z h.1 j k l

blocks-look : (w : ℕ) (xs ys : List Block) → SameBlocks w xs ys → (s k : ℕ) → k < w * w → look xs s k ≡ look ys s k
blocks-look w [] [] h s k l = refl
blocks-look w [] (y ∷ ys) h s k l = absurd h
blocks-look w (x ∷ xs) [] h s k l = absurd h
blocks-look w (x ∷ xs) (y ∷ ys) h s k l = λ i. cond (eqb s (h.0.store i)) (h.0.entries k l i) (blocks-look w xs ys h.1 s k l i)

pub compare_same : (l r : List ℤ) → Comparable l r → SameBlocks (side (dim_at l)) (read_back l) (read_back r) → compare_of l r ≡ Ok Same
compare_same l r c h = (same_exactly l r c).1 (blocks-look (side (dim_at l)) (read_back l) (read_back r) h)

-- ---- numbers that each stand once in a list
abbrev pub range : ℕ → ℕ → List ℕ
range i zero = []
range i (suc n) = i ∷ range (suc i) n

range_all : (P : ℕ → Type 0) (i n : ℕ) → ((j : ℕ) → i ≤ j → j < i + n → P j) → All P (range i n)
range_all P i zero h = tt
range_all P i (suc n) h = (h i (omega arith) (omega arith), range_all P (suc i) n (λ j k l. h j (omega arith) (omega arith)))

-- the elements of a list, by their places
pub range_map : {A : Type 0} (z : A) (xs : List A) (i : ℕ) (f : ℕ → A) → ((k : ℕ) → k < length xs → f (i + k) ≡ get_or xs k z) → map f (range i (length xs)) ≡ xs
range_map z [] i f h = refl
range_map z (x ∷ xs) i f h =
    let here : i + 0 ≡ i = omega arith in
    ap₂ ◌∷◌ (sym (ap f here) ∙ h 0 (omega arith)) (range_map z xs (suc i) f (λ k l. let next : suc i + k ≡ i + suc k = omega arith in ap f next ∙ h (suc k) (omega arith)))

record Out (j : ℕ) (ps : List ℕ) : Type 0 where
  others : List ℕ
  perm : Perm ps (j ∷ others)

take_out : (j : ℕ) (ps : List ℕ) → visits j ps ≡ 1 → Out j ps
take_out j [] e = absurd (omega arith)
take_out j (p ∷ ps) e = go (eqb p j) refl e (take_out j ps)
  where
    go : (b : Bool) → eqb p j ≡ b → cond b 1 0 + visits j ps ≡ 1 → (visits j ps ≡ 1 → Out j ps) → Out j (p ∷ ps)
    go true f e r = record { others = ps; perm = perm_path (ap (λ (x : ℕ). x ∷ ps) (eqb-true p j f)) }
    go false f e r = let o = r (omega arith) in record { others = p ∷ o.others; perm = join (keep p o.perm) (swap p j refl) }

once_perm : (i n : ℕ) (ps : List ℕ) → length ps ≡ n → ((j : ℕ) → i ≤ j → j < i + n → visits j ps ≡ 1) → Perm ps (range i n)
once_perm i zero [] e h = nil
once_perm i zero (p ∷ ps) e h = absurd (omega arith)
once_perm i (suc n) ps e h = go (take_out i ps (h i (omega arith) (omega arith))) (λ qs. once_perm (suc i) n qs)
  where
    less : (j v : ℕ) → i < j → j < suc i + n → visits j ps ≡ cond (eqb i j) 1 0 + v → v ≡ 1
    less j v k l t =
        let z : ◌≡◌ {A = ℕ} (cond (eqb i j) 1 0) 0 = ap (λ (b : Bool). cond b 1 0) (ne_eqb i j (λ x. omega arith)) in
        let one : visits j ps ≡ 1 = h j (omega arith) (omega arith) in
        omega arith

    go : Out i ps → ((qs : List ℕ) → length qs ≡ n → ((j : ℕ) → suc i ≤ j → j < suc i + n → visits j qs ≡ 1) → Perm qs (range (suc i) n)) → Perm ps (i ∷ range (suc i) n)
    go o r =
        let long : length ps ≡ suc (length o.others) = length-of o.perm in
        join o.perm (keep i (r o.others (omega arith) (λ j k l. less j (visits j o.others) k l (total_of (λ (p : ℕ). cond (eqb p j) 1 0) o.perm))))

-- ---- there is one rising order
follow : (x : ℕ) (xs : List ℕ) → Above x xs → All (λ (z : ℕ). before x z ≡ true) xs
follow x [] a = tt
follow x (y ∷ xs) a = (a.0, follow x xs a.1)

rest_of : (x : ℕ) (xs : List ℕ) → Above x xs → filter_by (λ (z : ℕ). not (eqb x z)) (x ∷ xs) ≡ xs
rest_of x xs a =
    ap (λ (b : Bool). cond (not b) (x ∷ others) others) (eq-eqb x x refl)
    ∙ filter_keep (λ (z : ℕ). not (eqb x z)) xs (all_imp (λ (z : ℕ). before x z ≡ true) (λ (z : ℕ). not (eqb x z) ≡ true) xs (λ z e. ap not (before_apart x z e)) (follow x xs a))
  where
    others : List ℕ
    others = filter_by (λ (z : ℕ). not (eqb x z)) xs

pub one_order : (xs ys : List ℕ) → Sorted xs → Sorted ys → Perm xs ys → xs ≡ ys
one_order [] [] s t p = refl
one_order [] (y ∷ ys) s t p = absurd (omega (arith, length-of p))
one_order (x ∷ xs) [] s t p = absurd (omega (arith, length-of p))
one_order (x ∷ xs) (y ∷ ys) s t p =
    let e : x ≡ y = first (all_of From p (inl refl, all_imp _ From xs (λ z h. inr h) (follow x xs s.1.0))).0 (all_back Back p (inl refl, all_imp _ Back ys (λ z h. inr h) (follow y ys t.1.0))).0 in
    let q : Perm xs ys = join (perm_path (sym (rest_of x xs s.1.0))) (join (filter_of (λ (z : ℕ). not (eqb x z)) p)
    (perm_path (ap (λ (v : ℕ). filter_by (λ (z : ℕ). not (eqb v z)) (y ∷ ys)) e ∙ rest_of y ys t.1.0))) in
    ap₂ ◌∷◌ e (one_order xs ys s.1.1 t.1.1 q)
  where
    From : ℕ → Type 0
    From z = (x ≡ z) ⊎ (before x z ≡ true)

    Back : ℕ → Type 0
    Back z = (y ≡ z) ⊎ (before y z ≡ true)

    first : From y → Back x → x ≡ y
    first (inl e) k = e
    first (inr h) (inl e) = sym e
    first (inr h) (inr k) = absurd (true≢false (sym (before_trans x y x h k) ∙ before_irrefl x))

-- ---- a block of a rising list is what is looked up by its store
look_self : (xs : List Block) → Sorted (keys xs) → All (λ (a : Block). (k : ℕ) → look xs a.store k ≡ a.entry k) xs
look_self [] s = tt
look_self (x ∷ xs) s = ((λ k. ap (λ (t : Bool). cond t (x.entry k) (look xs x.store k)) (eq-eqb x.store x.store refl)), later xs s.1.0 (look_self xs s.1.1))
  where
    later : (ys : List Block) → Above x.store (keys ys) → All (λ (a : Block). (k : ℕ) → look xs a.store k ≡ a.entry k) ys → All (λ (a : Block). (k : ℕ) → look (x ∷ xs) a.store k ≡ a.entry k) ys
    later [] a h = tt
    later (y ∷ ys) a h = (
      (λ k. ap (λ (t : Bool). cond t (x.entry k) (look xs y.store k)) (ne_eqb y.store x.store (λ e. eqb-false x.store y.store (before_apart x.store y.store a.0) (sym e))) ∙ h.0 k),
      later ys a.1 h.1,
    )

-- ---- the words of a form, and any after them
module _ {F : Form} {d m n : ℕ} {block : ℕ → Block} (wr : Writable F d m n block) (rest : List ℤ) where
  abbrev l : List ℤ
  l = words F d m n block ++ rest

  pub back : ReadsBack F d m n block (words F d m n block ++ rest)
  back = round_trip F d m n block wr rest

  -- the places of the blocks, in the order of the chain
  abbrev pub chained : List ℕ
  chained = places F (words F d m n block ++ rest) n (nat_abs (word (words F d m n block ++ rest) 3))

  pub chained_perm : Perm chained (range 0 n)
  chained_perm = once_perm 0 n chained (length-places F l n (nat_abs (word l 3))) (λ j k h. back.once j (omega arith))

  pub chained_below : All (λ (j : ℕ). j < n) chained
  chained_below = all_back (λ (j : ℕ). j < n) chained_perm (range_all _ 0 n (λ j k h. omega arith))

  pub read-blocks : SameBlocks F.side (read_back_in F l) (map block chained)
  read-blocks = go (read_back_in F l) chained back.order (look_self (read_back_in F l) (sorted_in F l back.right)) chained_below
    where
      go : (xs : List Block) (ps : List ℕ) → keys xs ≡ map (λ (j : ℕ). (block j).store) ps → All (λ (a : Block). (k : ℕ) → look (read_back_in F l) a.store k ≡ a.entry k) xs → All (λ (j : ℕ). j < n) ps
          → SameBlocks F.side xs (map block ps)
      go [] [] e h b = tt
      go [] (p ∷ ps) e h b = absurd (omega (arith, ap length e))
      go (x ∷ xs) [] e h b = absurd (omega (arith, ap length e))
      go (x ∷ xs) (p ∷ ps) e h b =
          let s : x.store ≡ (block p).store = ap (λ (ys : List ℕ). get_or ys 0 0) e in (
            record { store = s; entries = λ k q. sym (h.0 k) ∙ ap (λ (y : ℕ). look (read_back_in F l) y k) s ∙ back.entries p k b.0 q },
            go xs ps (ap (drop 1) e) h.1 b.1,
          )

pub formed_back : {d m n : ℕ} {block : ℕ → Block} → Writable (channels d) d m n block → (rest : List ℤ) → well_formed (channel_words d m n block ++ rest) ≡ true
formed_back {d} {m} {n} {block} wr rest = in_channel (channel_words d m n block ++ rest) ∙ (back wr rest).right

-- ---- every block of one channel is one of the other
pub record Found (w n : ℕ) (block : ℕ → Block) (a : Block) : Type 0 where
  pub place : ℕ
  pub below : place < n
  pub agree : SameBlock w a (block place)

abbrev pub Covers : ℕ → ℕ → (ℕ → Block) → ℕ → (ℕ → Block) → Type 0
Covers w n a k b = (j : ℕ) → j < n → Found w k b (a j)

module _ {F : Form} {d m n k : ℕ} {a b : ℕ → Block} (u : Writable F d m n a) (v : Writable F d m k b) (after behind : List ℤ)
    (to : Covers F.side n a k b) (stores : Perm (map (λ (j : ℕ). (a j).store) (range 0 n)) (map (λ (j : ℕ). (b j).store) (range 0 k))) where
  abbrev left : List ℤ
  left = words F d m n a ++ after

  abbrev right : List ℤ
  right = words F d m k b ++ behind

  same_order : map (λ (j : ℕ). (a j).store) (chained u after) ≡ map (λ (j : ℕ). (b j).store) (chained v behind)
  same_order =
      one_order _ _ (subst Sorted (back u after).order (sorted_in F left (back u after).right)) (subst Sorted (back v behind).order (sorted_in F right (back v behind).right))
      (join (map_of (λ (j : ℕ). (a j).store) (chained_perm u after)) (join stores (perm_sym (map_of (λ (j : ℕ). (b j).store) (chained_perm v behind)))))

  in_step : (ps qs : List ℕ) → map (λ (j : ℕ). (a j).store) ps ≡ map (λ (j : ℕ). (b j).store) qs → All (λ (j : ℕ). j < n) ps → All (λ (j : ℕ). j < k) qs → SameBlocks F.side (map a ps) (map b qs)
  in_step [] [] e p q = tt
  in_step [] (j ∷ qs) e p q = absurd (omega (arith, ap length e))
  in_step (i ∷ ps) [] e p q = absurd (omega (arith, ap length e))
  in_step (i ∷ ps) (j ∷ qs) e p q =
      let f : Found F.side k b (a i) = to i p.0 in
      let is : f.place ≡ j = v.different f.place j f.below q.0 (sym f.agree.store ∙ ap (λ (ys : List ℕ). get_or ys 0 0) e) in
      (subst (λ (x : ℕ). SameBlock F.side (a i) (b x)) is f.agree, in_step ps qs (ap (drop 1) e) p.1 q.1)

  pub read_alike : SameBlocks F.side (read_back_in F (words F d m n a ++ after)) (read_back_in F (words F d m k b ++ behind))
  read_alike =
      blocks_trans F.side (read_back_in F left) (map a (chained u after)) (read_back_in F right) (read-blocks u after)
      (blocks_trans F.side (map a (chained u after)) (map b (chained v behind)) (read_back_in F right)
      (in_step (chained u after) (chained v behind) same_order (chained_below u after) (chained_below v behind))
      (blocks_sym F.side (read_back_in F right) (map b (chained v behind)) (read-blocks v behind)))
