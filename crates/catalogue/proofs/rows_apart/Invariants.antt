-- Rests on the invariant: whether a row so far does not begin where the one before it ended.
use mathlib.Core.Path.{◌≡◌}
use Rattle.lists.specs.Search.{any_below}
use Rattle.catalogue.specs.Marks.{apart_by}
use Rattle.catalogue.proofs.rows_apart.Given as goal

abbrev pub invariant-loop-r : goal.invariant-loop-r
invariant-loop-r l = l.apart ≡ any_below (apart_by l.p l.chars) l.r
