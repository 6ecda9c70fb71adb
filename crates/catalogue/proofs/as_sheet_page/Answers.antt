use mathlib.Core.Path.{ap}
use Rattle.raster.specs.declared.Cell.{Cell}
use Rattle.catalogue.specs.ToSheet.{sheet_at, as_sheet_page}
use Rattle.catalogue.proofs.as_sheet_page.Goals as goal

pub returns : goal.returns
unfolding as_sheet_page
returns c = ap (λ (x : Cell). sheet_at c.args.p x.address) c.entry-first.ensures
