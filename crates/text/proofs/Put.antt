-- Laws of writing: a byte with and without room, and texts one after the other.
use mathlib.Core.Path.{◌≡◌, refl, sym, ap, ◌∙◌, subst}
use mathlib.Core.Bool.{Bool, true, false, cond}
use mathlib.Core.List.{List, [], ◌∷◌, ◌++◌, foldl-append}
use Prim.Native.Nat.{ℕ, suc, ◌+◌, ◌<◌, ◌≤◌}
use native.Mathlib.Numerals.{add-one}
use native.Mathlib.Omega.{arith}
use lib.Dec.{ltb}
use lib.ListN.{length, set, length-set}
use lib.Seq.{sets}
use borrow.Author.Tests.{lt-ltb, le-ltb, ltb-true}
use Rattle.text.specs.declared.page.Writer.{Writer}
use Rattle.text.specs.Page.{Page, page, put, write}
use Rattle.text.specs.Inner.Puts.{Puts}

-- the room of a writer, and where its next byte goes
abbrev page_of : Writer → Page
page_of w = page w.room.now w.at

-- ---- one byte
module _ (l : List ℕ) (at b : ℕ) where
  pub put_in : at < length l → page (set l at b) (at + 1) ≡ write (page l at) (b ∷ [])
  unfolding put write
  put_in h = ap (λ (t : Bool). cond t (page (set l at b) (at + 1)) (page l at)) (sym (lt-ltb at (length l) h))

  pub put_out : length l ≤ at → page l at ≡ write (page l at) (b ∷ [])
  unfolding put write
  put_out h = ap (λ (t : Bool). cond t (page (set l at b) (at + 1)) (page l at)) (sym (le-ltb at (length l) h))

-- ---- one text after another
pub none : (w : Writer) → Puts w [] w
unfolding write
none w = record { same = refl; is = refl }

pub then : {u v w : Writer} {xs ys : List ℕ} → Puts u xs v → Puts v ys w → Puts u (xs ++ ys) w
unfolding write
then {u} {xs = xs} {ys} e f = record { same = f.same ∙ e.same; is = f.is ∙ ap (λ (q : Page). write q ys) e.is ∙ sym (foldl-append put (page_of u) xs ys) }

-- the same text
pub text : {u v : Writer} {xs ys : List ℕ} → xs ≡ ys → Puts u xs v → Puts u ys v
text {u} {v} e w = subst (λ (bs : List ℕ). Puts u bs v) e w

-- a writer by another name, as after the branches of an `if`
pub onto : {u v w : Writer} {xs : List ℕ} → w ≡ v → Puts u xs v → Puts u xs w
onto {u} {xs = xs} e p = subst (λ (w : Writer). Puts u xs w) (sym e) p

-- a page on which nothing is put
pub nothing : (p : Page) {bs : List ℕ} → [] ≡ bs → p ≡ write p bs
unfolding write
nothing p e = ap (write p) e

-- what a room that was lent to a writer holds, once the writer is gone
pub lent : {o bs after : List ℕ} {u v : Writer} → u.room.now ≡ o → u.at ≡ 0 → Puts u bs v → after ≡ v.room.now → page after v.at ≡ write (page o 0) bs
lent {bs = bs} {v = v} e f w a = ap (λ (l : List ℕ). page l v.at) a ∙ w.is ∙ (λ i. write (page (e i) (f i)) bs)

-- what it holds by another name
pub lent_is : {after l m : List ℕ} → l ≡ m → after ≡ l → after ≡ m
lent_is e a = a ∙ e

-- the room stays as long as it was
pub put_long : (p : Page) (b : ℕ) → length (put p b).room ≡ length p.room
unfolding put
put_long p b = by (ltb p.at (length p.room))
  where
    by : (t : Bool) → length (cond t (page (set p.room p.at b) (p.at + 1)) p).room ≡ length p.room
    by true = length-set p.room p.at b
    by false = refl

pub write_long : (p : Page) (bs : List ℕ) → length (write p bs).room ≡ length p.room
unfolding write
write_long p [] = refl
write_long p (b ∷ bs) = write_long (put p b) bs ∙ put_long p b

-- the next byte's place is inside the room, or its end
put-inside : (p : Page) (b : ℕ) → p.at ≤ length p.room → (put p b).at ≤ length (put p b).room
unfolding put
put-inside p b h = by (ltb p.at (length p.room)) refl
  where
    by : (t : Bool) → ltb p.at (length p.room) ≡ t → (cond t (page (set p.room p.at b) (p.at + 1)) p).at ≤ length (cond t (page (set p.room p.at b) (p.at + 1)) p).room
    by true e = omega (arith, ltb-true p.at (length p.room) e, length-set p.room p.at b)
    by false e = h

write-inside : (p : Page) (bs : List ℕ) → p.at ≤ length p.room → (write p bs).at ≤ length (write p bs).room
unfolding write
write-inside p [] h = h
write-inside p (b ∷ bs) h = write-inside (put p b) bs (put-inside p b h)

pub inside : (o bs : List ℕ) {q : List ℕ} {n : ℕ} → page q n ≡ write (page o 0) bs → n ≤ length q
inside o bs e = subst (λ (p : Page). p.at ≤ length p.room) (sym e) (write-inside (page o 0) bs (omega arith))

-- a text for which there is room is written whole
pub write-from : (bs l : List ℕ) (at : ℕ) → at + length bs ≤ length l → write (page l at) bs ≡ page (sets l at bs) (at + length bs)
unfolding write
write-from [] l at h = let e : at ≡ at + 0 = omega arith in ap (page l) e
write-from (b ∷ bs) l at h =
    let e : at + 1 + length bs ≡ at + suc (length bs) = omega arith in
    ap (λ p. write p bs) (sym (put_in l at b (omega arith)))
    ∙ write-from bs (set l at b) (at + 1) (omega (arith, length-set l at b))
    ∙ (λ i. page (sets (set l at b) (add-one at i) bs) (e i))

-- v is u after a part of zs, of which ys is left
pub record Left (u : Writer) (zs : List ℕ) (v : Writer) (ys : List ℕ) : Type 0 where
  pub same : v.room.ghost_name ≡ u.room.ghost_name
  pub is : write (page_of u) zs ≡ write (page_of v) ys

pub left-all : (w : Writer) (zs : List ℕ) → Left w zs w zs
left-all w zs = record { same = refl; is = refl }

pub left_less : {u v w : Writer} {xs ys zs : List ℕ} → Left u zs v (xs ++ ys) → Puts v xs w → Left u zs w ys
unfolding write
left_less {v = v} {xs = xs} {ys} l w = record {
  same = w.same ∙ l.same;
  is = l.is ∙ foldl-append put (page_of v) xs ys ∙ ap (λ (r : Page). write r ys) (sym w.is);
}

pub left-none : {u v : Writer} {zs : List ℕ} → Left u zs v [] → Puts u zs v
unfolding write
left-none l = record { same = l.same; is = sym l.is }

pub left_is : {u v : Writer} {zs xs ys : List ℕ} → xs ≡ ys → Left u zs v xs → Left u zs v ys
left_is {u} {v} {zs} e l = subst (Left u zs v) e l
