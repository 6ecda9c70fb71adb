use Rattle.std.proofs.Common.{sym}
use Rattle.catalogue.specs.Marks.{own-passed}
use Rattle.catalogue.proofs.as_table_check.Goals as goal

pub as_table_order-requires : goal.as_table_order-requires
as_table_order-requires c = (own-passed _ _ (sym c.in_ok-own_check.ensures)).0
