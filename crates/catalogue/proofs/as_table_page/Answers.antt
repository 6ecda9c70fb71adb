use Rattle.catalogue.specs.ToTable.{as_table_page}
use Rattle.catalogue.proofs.as_table_page.Goals as goal

pub returns : goal.returns
unfolding as_table_page
returns c = cc
