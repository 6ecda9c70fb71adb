-- The board at power, and at clock 0 (01, "The board that is built").
use Rattle.std.specs.Prelude.{replicate}
use Rattle.units.specs.Units.{clocks, lines, dots}
use Rattle.raster.specs.Beams.{beam, row}
use Rattle.board.specs.declared.Page.{Page}
use Rattle.board.specs.declared.Place.{Place}
use Rattle.board.specs.declared.Board.{Board}

-- [clock zero] at clock 0 field, address and row start are 0; the state for clock n counts from there
-- the field counter is 0, as are line, clock, address, row start and row code; nothing is latched
abbrev pub clock_zero : Place
clock_zero = record { field = 0; line = lines 0; clock = clocks 0; beam = beam 0 0; row = row 0 0 0 }

-- [register power] power gives zeros throughout (and version 1, by 02)
-- power gives zeros throughout, and version 1
abbrev pub power_of : Board
power_of = record {
  page = record {
    version = 1;
    irs = replicate 15 0;
    starts = record { start1 = 0; cursor = 0; start2 = 0 };
    switches = 0;
    video = record { dots = dots 0; strike = 0; chip = 0 };
  };
  place = clock_zero;
  pointer = 0;
  resets = 0;
}

-- a page on an active board at clock 0, pointer at IR0
abbrev pub board_of : Page → Board
board_of p = record { page = p; place = clock_zero; pointer = 0; resets = 2 }
