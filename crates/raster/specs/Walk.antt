-- A walk along a row, one move a turn of a loop: after c turns it stands at the cell that is c moves from its start. Assumes nothing.
--     not-moved    before the first turn
--     moved_on     a turn more
--     at_lt        where it stands is an address
use Rattle.std.specs.Prelude.{ℕ, ◌+◌, ◌<◌, ◌≡◌}
use Rattle.std.proofs.Common.{sym, ap, ◌∙◌, add-one}
use Rattle.raster.specs.declared.Buffer.{Buffer}
use Rattle.raster.specs.declared.Cell.{Cell}
use Rattle.raster.specs.Moves.{cell, Bounded, advance, advance_by, advance_by-lt, advance_by-zero, advance_by-suc}

pub not-moved : (b : Buffer) (x : Cell) → x.address < 16384 → x ≡ cell (advance_by b 0 x.address)
not-moved b x h = ap cell (sym (advance_by-zero b x.address h))

module _ (b : Buffer) (start c : ℕ) (x : Cell) (e : x ≡ cell (advance_by b c start)) where
  pub moved_on : Bounded b → start < 16384 → (y : Cell) → y ≡ cell (advance b x.address) → y ≡ cell (advance_by b (c + 1) start)
  moved_on o h y q = q ∙ rw (e, add-one c) (ap cell (sym (advance_by-suc b o c start h)))

  pub at_lt : x.address < 16384
  at_lt = rw e (advance_by-lt b c start)
