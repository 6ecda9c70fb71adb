use Rattle.std.proofs.Common.{ap, ◌∙◌, arith}
use Rattle.raster.specs.Moves.{cell}
use Rattle.fetch.specs.Rows.{entry_of}
use Rattle.fetch.proofs.entry.Goals as goal

pub returns : goal.returns
unfolding entry_of
returns c = ap cell (c.from_le_bytes.ensures ∙ rw (c.byte_at-high.ensures, c.byte_at-low.ensures) (omega arith))
