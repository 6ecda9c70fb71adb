use Rattle.timing.specs.Fields.{counts_of}
use Rattle.timing.proofs.counts_of.Goals as goal

pub returns : goal.returns
unfolding counts_of
returns c = λ i. record {
  ht = c.ht_of.ensures i;
  hact = c.hact_of.ensures i;
  vt = c.vt_of.ensures i;
  lines = c.lines_of.ensures i;
  rows = c.rows_of.ensures i;
}
