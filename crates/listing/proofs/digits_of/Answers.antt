use Rattle.std.proofs.Common.{◌∙◌}
use Rattle.listing.specs.Decimal.{fewest}
use Rattle.listing.proofs.digits_of.Goals as goal

pub returns-clause-digits : goal.returns-clause-digits
returns-clause-digits c = c.decimal-count.ensures.digits ∙ fewest _ _ c.decimal-count.ensures.len
