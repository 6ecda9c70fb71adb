use mathlib.Core.Path.{◌∙◌}
use native.Mathlib.Nat.{mod-lt}
use native.Mathlib.Omega.{arith}
use Rattle.timing.specs.Fields.{timing_of, counts_of}
use Rattle.timing.specs.Laws.{lines-some, lines-le}
use Rattle.video.proofs.scan_at.Goals as goal

pub scan_of-requires : goal.scan_of-requires
unfolding timing_of counts_of
scan_of-requires c =
    let few = lines-le c.args.p in
    let l = mod-lt c.args.line.0 (lines-some c.args.p) in
    rw (c.timing_of-t.ensures, c.line_of_row.ensures) (omega (arith, few), omega (arith, few, l))

pub returns : goal.returns
unfolding timing_of counts_of
returns c = c.scan_of.ensures ∙ rw (c.line_of_row.ensures, c.timing_of-t.ensures)
