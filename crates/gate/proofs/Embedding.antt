-- The laws of embedded matrices hold.
use Rattle.exact.proofs.Exact.{exacts}
use Rattle.gate.specs.Embedding.{RespectsProducts, RespectsAdjoints, RespectsIdentity, Commute}
use Rattle.gate.proofs.Gate.{meet_no}
use Rattle.gate.proofs.Embed.{embeds_commute}
use Rattle.gate.proofs.Isometry.{embed-product, embed-adjoint, embed-identity}
use Rattle.gate.proofs.Complete.{conjugation}

pub respects_products : RespectsProducts
respects_products n qs on u v r c l m = embed-product exacts n qs on.below on.different u v r c

pub respects_adjoints : RespectsAdjoints
respects_adjoints n qs u r c l m = embed-adjoint exacts conjugation n qs u r c

pub respects_identity : RespectsIdentity
respects_identity n qs = embed-identity exacts n qs

pub commute : Commute
commute n qs ps on off apart u v r c l m = embeds_commute exacts n qs ps u v on.below off.below (meet_no qs ps apart) r c
