-- `fits_bits` meets its contract.
use Rattle.store.proofs.Words.{no_high}
use Rattle.store.proofs.fits_bits.Goals as goal

pub returns-else-m-ge64 : goal.returns-else-m-ge64
returns-else-m-ge64 c = no_high c.args.store c.args.m
