-- The promises on frames and rows read off the worked pages (specs Worked). Assumes nothing.
use Rattle.std.specs.Prelude.{◌*◌, ◌≡◌, refl}
use Rattle.std.proofs.Common.{arith}
use Rattle.raster.specs.Moves.{Inside, advance_by, to_last}
use Rattle.fetch.specs.Rows.{code_at, entry_of}
use Rattle.timing.specs.Fields.{buffer_of, counts_of, coded_of, lines_of, table_of, vsync_of}
use Rattle.step.specs.After.{after}
use Rattle.agreement.specs.Cases.{page}
use Rattle.agreement.specs.Lines.{address_at}
use Rattle.agreement.specs.Frames.{frame_clocks}
use Rattle.agreement.specs.Worked.{sheet, memory, font, sheet-taken, low, low-taken, coded, entries, reversed, coded-taken}
use Rattle.agreement.proofs.Frames.{every-frame}
use Rattle.agreement.proofs.Rows.{row-from-table, row-from-start}

-- a frame's clocks on, by single steps of the board, frame 1 begins
pub after-a-frame : ((after sheet memory memory font (frame_clocks sheet)).place.line.0 ≡ 0)
    × ((after sheet memory memory font (frame_clocks sheet)).place.clock.0 ≡ 0)
    × ((after sheet memory memory font (frame_clocks sheet)).place.field ≡ 1)
unfolding sheet page lines_of vsync_of counts_of
after-a-frame =
    let framed = every-frame sheet memory memory font sheet-taken (frame_clocks sheet) in
    ((framed.ends refl).0, (framed.ends refl).1, framed.counted)

-- 256 frames on the field counter is back at 0
pub after-256-frames : (after sheet memory memory font (256 * frame_clocks sheet)).place.field ≡ 0
unfolding sheet page lines_of vsync_of counts_of
after-256-frames = (every-frame sheet memory memory font sheet-taken (256 * frame_clocks sheet)).counted

-- A7: with screen start 1 below the buffer a cell outside it is fetched, so `stays-inside` has to ask
pub outside : Inside (buffer_of low.page) (address_at low memory memory font 0 0 0) → ⊥
unfolding low page coded_of lines_of table_of code_at buffer_of advance_by to_last
outside i =
    let shown = row-from-start low memory memory font low-taken 0 0 (omega arith) (omega arith) refl in
    let a : address_at low memory memory font 0 0 0 ≡ 0 = shown.stepped 0 0 (omega arith) in
    absurd (omega (arith, a, i.above))

-- so the promise on rows speaks of cell 64 and of double width in row 5, and attributes run on
pub coded-row : (address_at coded entries reversed font 0 50 0 ≡ 64) × (code_at coded.page entries 5 ≡ 1)
unfolding coded entries coded_of lines_of table_of code_at entry_of advance_by to_last buffer_of
coded-row =
    let shown = row-from-table coded entries reversed font coded-taken 5 0 (omega arith) (omega arith) refl in
    (shown.stepped 0 0 (omega arith), refl)
