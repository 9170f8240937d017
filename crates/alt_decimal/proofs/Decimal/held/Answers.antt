-- The fields of a number say that it fits.
use Rattle.alt_decimal.proofs.Magnitudes.{Fits-units_of}
use Rattle.alt_decimal.proofs.Decimal.held.Goals as goal

pub returns : goal.returns
returns c = record { fits = rw (← c.self.view_is) (Fits-units_of c.self.inside c.self.invariant) }
