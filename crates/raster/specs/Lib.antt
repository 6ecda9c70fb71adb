-- The beam over a frame, for any data that it carries along.
--
-- Eleven words, in the order in which one meets them:
--     Carrier    what a single clock does to what is carried: what it is at clock 0, what a row begins with, how a clock of a row moves it on
--     Pair       what is carried: the beam's, and what its row began with
--     Scan       where the beam is (field, line, clock), and the pair it carries
--     Rows       the same at once: what each row begins with, and what is carried at each of its columns
--     Laws       the four equations by which Rows fits a Carrier; with them n single steps and `at_once` n agree
--     Feed       a Carrier of cells comes from this: the buffer, screen start 1, the row table, at which clocks the address moves on
--     Tally      Rows of cells need this beside it: how often the address has moved on by a column of a row
--     Fed        what is asked of a Feed: its addresses have 14 bits
--     Tallied    what is asked of a Tally: it counts the Feed's moves, one by one
--     last_set    of some cells the attribute byte of the last with AFLG: what is valid after them in field mode
--     Row        what the board's beam carries: a cell's address, such a byte, and its row's code. Its Carrier and Rows are those of cells with these added
--
-- One row followed through them: row 1 of A1's page (80 columns, rows of 10 lines, no table, screen start 1 at 0).
--     Feed       at row 1 the address carries on: `begins` gives 80, which is where row 0 left it
--     Carrier    on line 10, clock 0 `begin` 1 loads cell 80; clock 3 `move`s cell 83 on to cell 84; from clock 80 on it moves nothing
--     Pair       at clock 3: beam 83, row 80; on line 11, clock 0 the row's 80 is loaded again
--     Scan       field 0, line 10, clock 3, and that pair
--     Tally      `moved` 1 3 is 3, and a row moves 80 times
--     Rows       `start` 1 is 1 x 80 moves from 0, which is 80; `walk` 1 3 is 3 moves from there, which is 83
--     Laws       `walk` 1 4 is `move` 1 3 of `walk` 1 3; `start` 2 is `begin` 2 of what row 1 leaves, 160
--     Fed, Tallied     0 and every address are below 16,384, and clock 3 moves on because 3 is below 80: so the Laws hold
--     last_set    in field mode, with AFLG in cell 70 alone and 83 moves done, it is that cell's byte
--     Row        at clock 3: address 83, that byte and the row's code; the row keeps address 80 and that byte, which row 0 left, and the code
pub mod Tick
pub mod Moves
pub mod Walk
pub mod Raster
pub mod Agree
pub mod Frame
pub mod Wide
pub mod Cells
pub mod Latch
pub mod Beams
