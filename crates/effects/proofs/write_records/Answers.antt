-- `write_records` meets its contract.
use mathlib.Core.Path.{◌≡◌, sym, ap, ◌∙◌, subst}
use mathlib.Core.Bool.{true}
use mathlib.Core.List.{List}
use Prim.Native.Nat.{ℕ, ◌+◌, ◌*◌, ◌≤◌, ◌<◌}
use native.Mathlib.Nat.{le_of_eq}
use native.Mathlib.Omega.{arith}
use lib.IntN.{ℤ}
use lib.Seq.{sets}
use Rattle.algebra.proofs.Tests.{all-at}
use Rattle.algebra.proofs.Blocks.{begin, again, long, block_in_lem}
use Rattle.channel.specs.Layout.{channels, header_size, record_size, record_at}
use Rattle.effects.specs.Effects.{record_fits, sums_fit, effect_record}
use Rattle.effects.specs.Inner.Readable.{Readable, Records}
use Rattle.effects.specs.Inner.Strides.{strided_at}
use Rattle.std.proofs.lemmas.Grind.{merely}
use Rattle.effects.proofs.Entries.{terms_fit_lem}
use Rattle.effects.proofs.Records.{record_length}
use Rattle.effects.proofs.write_records.Goals as goal

-- where record j lies, whose size is handed over
at : (j : ℕ) {k size : ℕ} → size ≡ k → header_size + j * size ≡ header_size + j * k
at j e = ap (λ (r : ℕ). header_size + j * r) e

-- the block lies in the words
readable : {l : List ℤ} {d n j size : ℕ} → Records l d n → j < n → size ≡ record_size (channels d) → Readable l (header_size + j * size) d
readable {l} {d} {j = j} r h e = subst (λ (a : ℕ). Readable l a d) (sym (at j e)) (r.each j h)

-- its effect fits
fits : (l : List ℤ) (d : ℕ) {n j size : ℕ} → sums_fit l d n ≡ true → j < n → size ≡ record_size (channels d) → record_fits l (header_size + j * size) d ≡ true
fits l d {n} {j} f h e = ap (λ (k : ℕ). record_fits l k d) (at j e) ∙ all-at n (λ (k : ℕ). record_fits l (record_at (channels d) k) d) f j h

-- and lies in the result
room_for : {n j k size m m' : ℕ} → header_size + n * k ≤ m → j < n → size ≡ k → m' ≡ m → header_size + j * size + k ≤ m'
room_for {n} {j} {k} p h e q = let b = block_in_lem h k in omega (arith, at j e)

pub loop-j-init : goal.loop-j-init
loop-j-init c = let s = c.args in begin (λ k. le_of_eq (record_length (strided_at s.strides.rows s.strides.cols) s.s.now s.h.dim (record_at (channels s.h.dim) k)))

pub invariant_of-sums : goal.invariant_of-sums
invariant_of-sums c =
    record { fit = terms_fit_lem c.args.s.now _ c.args.h.dim (fits c.args.s.now c.args.h.dim c.requires.1.1.0 c.loop-j-test.true c.record_size-from.ensures) }

pub invariant_of-effect : goal.invariant_of-effect
invariant_of-effect c = record {
  fits = merely (record {
    block = readable c.requires.0 c.loop-j-test.true c.record_size-from.ensures;
    strides = c.requires.1.0;
    fit = fits c.args.s.now c.args.h.dim c.requires.1.1.0 c.loop-j-test.true c.record_size-from.ensures;
  });
}

pub write_record-requires : goal.write_record-requires
write_record-requires c = room_for c.requires.1.1.1 c.loop-j-test.true c.record_size-to.ensures (long c.loop-j.invariant)

pub loop-j-preserved : goal.loop-j-preserved
loop-j-preserved c =
    let s = c.args in
    let j = c.loop-j.j in
    let recorded = effect_record (strided_at s.strides.rows s.strides.cols) s.s.now s.h.dim in
    let from = header_size + j * c.record_size-from.result in
    again c.loop-j.invariant c.loop-j-test.true (c.write_record.ensures ∙ ap (λ (a : ℕ). sets c.loop-j.res a (recorded from)) (at j c.record_size-to.ensures)) (ap recorded (at j c.record_size-from.ensures))
