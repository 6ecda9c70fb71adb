-- What callers read off the decoded counts. Assumes nothing.
use Rattle.std.specs.Prelude.{◌<◌, ◌≡◌}
use Rattle.board.specs.declared.Page.{Page}
use Rattle.std.proofs.Common.{arith}
use Rattle.timing.specs.declared.Timing.{Timing}
use Rattle.timing.specs.Fields.{hact_of, ht_of, vt_of, counts_of, timing_of}

module _ (t : Timing) (p : Page) (e : t ≡ timing_of p) where
  pub hact-is : t.counts.hact.0 ≡ hact_of p
  unfolding timing_of counts_of
  hact-is = rw e

  pub ht-is : t.counts.ht.0 ≡ ht_of p
  unfolding timing_of counts_of
  ht-is = rw e

  pub vt_is : t.counts.vt.0 ≡ vt_of p
  unfolding timing_of counts_of
  vt_is = rw e

  pub ht-pos : 0 < t.counts.ht.0
  ht-pos = rw ht-is (omega arith)

  pub vt-pos : 0 < t.counts.vt.0
  vt-pos = rw vt_is (omega arith)
