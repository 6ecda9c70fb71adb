use Rattle.timing.specs.Fields.{timing_of}
use Rattle.timing.proofs.timing_of.Goals as goal

pub returns : goal.returns
unfolding timing_of
returns c = λ i. record {
  hsync = c.hsync_of.ensures i;
  hfp = c.hfp_of.ensures i;
  vfp = c.vfp_of.ensures i;
  vsync = c.vsync_of.ensures i;
  counts = c.counts_of.ensures i;
}
