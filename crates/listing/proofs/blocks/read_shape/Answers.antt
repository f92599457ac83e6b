-- The words of a well-formed channel's header fit, as they are read.
use native.Mathlib.Omega.{arith}
use lib.Dec.{lit<}
use mir.Syntax.{w32, w64}
use mir.Val.{SFits}
use Rattle.algebra.proofs.Signed.{cast_ok}
use Rattle.store.proofs.Words.{Casts, read, casts_up}
use Rattle.channel.specs.Layout.{word}
use Rattle.listing.proofs.Listing.{header}
use Rattle.listing.proofs.blocks.read_shape.Goals as goal

pub bounds-s-0 : goal.bounds-s-0
bounds-s-0 c = let h = (header c.args.s.now c.requires).long in omega arith

pub overflow_cast-dim : goal.overflow_cast-dim
overflow_cast-dim c =
    let l = c.args.s.now in
    read (record { sfits = omega arith }) (Casts w64) (cast_ok 16 (word l 0) (header l c.requires).dim (record { fits = lit< tt }))

pub bounds-s-1 : goal.bounds-s-1
bounds-s-1 c = let h = (header c.args.s.now c.requires).long in omega arith

pub overflow_cast-bits : goal.overflow_cast-bits
overflow_cast-bits c =
    let l = c.args.s.now in
    read (record { sfits = omega arith }) (Casts w32) (cast_ok 64 (word l 1) (header l c.requires).bits (record { fits = lit< tt }))

pub bounds-s-2 : goal.bounds-s-2
bounds-s-2 c = let h = (header c.args.s.now c.requires).long in omega arith

pub overflow_cast-count : goal.overflow_cast-count
overflow_cast-count c =
    let l = c.args.s.now in
    let fits : SFits w64 (word l 2) = record { sfits = omega arith } in
    read fits (Casts w64) (casts_up _ (word l 2) fits (header l c.requires).count)
