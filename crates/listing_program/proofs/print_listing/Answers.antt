-- Rests on head-within and line-within: the buffer has room for the head and for every line.
use Rattle.listing.specs.Head.{head-within}
use Rattle.listing.specs.Line.{line-within}
use Rattle.listing_program.proofs.print_listing.Goals as goal

pub print-requires : goal.print-requires
print-requires c = rw (c.listing_head-head.ensures.0, c.listing_head-head.auto.out) (head-within _ _)

pub print-requires-in-loop-line : goal.print-requires-in-loop-line
print-requires-in-loop-line c =
    rw (c.listing_line-listed.ensures.0, c.listing_line-listed.auto.out) (line-within _ _ _ _ _ _ _ _)
