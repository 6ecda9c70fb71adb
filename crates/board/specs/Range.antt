-- Refusals 3, 12 and 7 of 01's table, as far as they need no timing.
use Rattle.std.specs.Prelude.{ℕ, Bool, ◌&&◌, ◌||◌, not, eqb, ltb}
use Rattle.board.specs.declared.Starts.{Starts}
use Rattle.board.specs.declared.Video.{Video}
use Rattle.board.specs.declared.Page.{Page}
use Rattle.board.specs.declared.Place.{Place}
use Rattle.board.specs.Layout.{last_ir}
use Rattle.board.specs.Modes.{has_modes}

-- 3: a lent memory of wrong size
abbrev pub memory_refused : ℕ → Bool
memory_refused n = not (eqb n 16384)

-- [board memory] character and attribute memory are lent, 16,384 bytes each
abbrev pub memories_refused : (chars attrs : ℕ) → Bool
memories_refused chars attrs = memory_refused chars || memory_refused attrs

-- a start or cursor address above 16383
abbrev pub starts_refused : Starts → Bool
starts_refused s = ltb 16383 s.start1 || ltb 16383 s.cursor || ltb 16383 s.start2

-- [R-1 refusals] 1 means neither 1 nor 2; in a version 2 file 12 covers switches 6 and 7 only
-- switches 6 and 7, and 4 and 5 too unless they are the version's modes; a version that is not known counts as 1
abbrev pub switches_refused : (version switches : ℕ) → Bool
switches_refused version switches = ltb 63 switches || (not (has_modes version) && ltb 15 switches)

-- [R-7 refusals] 12 also covers a chip byte above 1 and a group above 4
-- a strike line above 15, and in version 3 a chip above 1
abbrev pub video_refused : (version : ℕ) → Video → Bool
video_refused version v = ltb 15 v.strike || (eqb version 3 && ltb 1 v.chip)

-- [refusal numbers]
-- 12: a start or cursor address above 16383, a switch that the version does not know, a strike line above 15, or a chip above 1
unfoldable pub address_refused : Page → Bool
address_refused p = starts_refused p.starts || switches_refused p.version p.switches || video_refused p.version p.video

-- 7: a state's address or row start out of range
abbrev pub cells_refused : Place → Bool
cells_refused p = ltb 16383 p.beam.address || ltb 16383 p.row.address

-- [refusal numbers]
-- 7: a state's IR pointer out of range, above the last IR of its page
abbrev pub pointer_refused : Page → ℕ → Bool
pointer_refused p n = ltb (last_ir p.version) n
