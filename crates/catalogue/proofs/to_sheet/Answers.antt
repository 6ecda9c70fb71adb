use Rattle.std.proofs.Common.{sym}
use Rattle.catalogue.specs.Marks.{as-sheet-passed}
use Rattle.catalogue.proofs.to_sheet.Goals as goal

pub as_sheet_page-requires : goal.as_sheet_page-requires
as_sheet_page-requires c = (as-sheet-passed _ _ (sym c.in_ok-as_sheet_check.ensures)).whole
