use Rattle.std.proofs.Common.{sym}
use Rattle.catalogue.specs.Marks.{own-passed}
use Rattle.catalogue.proofs.as_sheet_check.Goals as goal

pub as_sheet_order-requires : goal.as_sheet_order-requires
as_sheet_order-requires c = own-passed _ _ (sym c.in_ok-own_check.ensures)
