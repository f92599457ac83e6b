-- What a read puts behind the front of the text is what the input loses.
use Rattle.std.proofs.Common.{◌≡◌, ℕ, ◌+◌, ◌≤◌, List, ◌++◌, rules, length, take, subst, sym, ap, ◌∙◌, length-take-le}
use Rattle.std.specs.Prelude.{Option, Some, None, IfSome}
use Rattle.std.proofs.KnownBytes.{Consumes-trans}
use Rattle.std.proofs.Math.Seq.{take-append-add, take-append-le}
use lib.Seq.{take_all, take_at}
use Rattle.std.specs.Io.KnownBytes.{Consumes}
use borrow.Rule.Slice.PartMut.{put_mid, post_of}
use Rattle.replay.proofs.input.read_full.Goals as goal

taken : (a k n : ℕ) (xs ys : List ℕ) → a ≤ length xs → n ≤ length ys → take a xs ++ take n ys ≡ take (a + n) (put_mid a k xs ys)
taken a k n xs ys inside fits =
    let after = post_of a k xs in
    sym
    (ap (λ m. take (m + n) (take a xs ++ (ys ++ after))) (sym (length-take-le a xs inside)) ∙ take-append-add (take a xs) (ys ++ after) n
    ∙ ap (λ l. take a xs ++ l) (take-append-le n ys after fits))

pub loop-n-preserved : goal.loop-n-preserved
loop-n-preserved g c = record {
  fits = search rules;
  read = subst (Consumes _ _) (taken _ _ _ _ _ c.loop-n.invariant.fits (search rules)) (Consumes-trans _ _ _ _ _ c.loop-n.invariant.read c.in_ok-more.ensures.bytes.0);
}

-- what fills the text is the front of the input
filled : (before after : Option (List ℕ)) (n m : ℕ) (l : List ℕ) → length l ≤ n → length l ≡ m → Consumes before after (take n l) → IfSome before (λ xs. take n l ≡ take m xs)
filled None after n m l h e read = tt
filled (Some xs) None n m l h e read = absurd read
filled (Some xs) (Some ys) n m l h e read = sym (ap (take m) read ∙ take_at (take n l) ys m (ap length (take_all n l h) ∙ e))

pub returns-after-loop-n-clause-fits : goal.returns-after-loop-n-clause-fits
returns-after-loop-n-clause-fits g c = c.loop-n.invariant.fits

pub returns-after-loop-n-clause-bytes : goal.returns-after-loop-n-clause-bytes
returns-after-loop-n-clause-bytes g c =
    let left = g.R.Read.remaining in
    filled (left c.args.input.now) (left c.loop-n.input) c.loop-n.n (length c.args.text.now) c.loop-n.text c.loop-n-test.false c.loop-n.auto.text c.loop-n.invariant.read

pub slice_bounds-read-count : goal.slice_bounds-read-count
slice_bounds-read-count g c = c.loop-n.invariant.fits
