-- No second answer meets the contract of a public function of `fetch`, `catalogue`, `records`, `phrases`, `columns`, `shape`, `video`, `dots`, `tables`, `line`, `picture`, `place` or `step`: it names its answer,
-- so each of these is `only`.
use Rattle.std.specs.Prelude.{ℕ, ◌≡◌, Bool, List, length, get_or, Result}
use Rattle.std.proofs.Common.{arith, length-drop, length-take-le}
use Rattle.lists.specs.Answer.{OneAnswer, only, only-both, only-four}
use Rattle.units.specs.Units.{lines}
use Rattle.refusal.specs.declared.Refusal.{Refusal}
use Rattle.refusal.specs.Number.{Checked}
use Rattle.raster.specs.declared.Buffer.{Buffer}
use Rattle.raster.specs.declared.Cell.{Cell}
use Rattle.raster.specs.declared.Code.{Code}
use Rattle.raster.specs.Moves.{cell}
use Rattle.board.specs.declared.Page.{Page}
use Rattle.board.specs.declared.Place.{Place}
use Rattle.board.specs.declared.Board.{Board}
use Rattle.fetch.specs.Run.{run_of, one_run, GivesSpan, GivesRun, span_in}
use Rattle.fetch.specs.RowCells.{GivesCells}
use Rattle.fetch.specs.Laws.{span_fits}
use Rattle.fetch.specs.Rows.{entry_of, code_at, row_start, cell_at, fetched_of, fetched_before}
use Rattle.catalogue.specs.ToTable.{MovesToTable}
use Rattle.catalogue.specs.ToSheet.{as_sheet}
use Rattle.records.specs.declared.Phrase.{Phrase}
use Rattle.records.specs.declared.PhraseAnswer.{PhraseAnswer}
use Rattle.records.specs.declared.PairAnswer.{PairAnswer}
use Rattle.records.specs.declared.Ends.{Ends}
use Rattle.records.specs.declared.Asked.{Asked}
use Rattle.records.specs.declared.Mate.{Mate}
use Rattle.records.specs.Records.{none, phrase_of_row, phrases_differ}
use Rattle.records.specs.Ends.{asked_by, asked_of}
use Rattle.records.specs.Folds.{start_of, visit_of, search_of, mate_start, mate_visit, mate_four, fours_from, pair_start, pair_visit}
use Rattle.columns.specs.Columns.{records_of}
use Rattle.latch.specs.Held.{held_at}
use Rattle.shape.specs.declared.FontLine.{FontLine}
use Rattle.shape.specs.declared.FontLines.{FontLines}
use Rattle.shape.specs.Font.{Font, font_refused, font_line_of, font_lines_of, font_line_at, word_by, graphics_word, groups_check}
use Rattle.video.specs.declared.Scene.{Scene}
use Rattle.video.specs.declared.Look.{Look}
use Rattle.video.specs.declared.Reading.{Reading}
use Rattle.video.specs.Scene.{scene_of, cursor_at}
use Rattle.video.specs.Look.{look_of}
use Rattle.dots.specs.Stores.{spread_of, wide_of, under_of, ink_table}
use Rattle.dots.specs.Width.{cell_put, cell_written, cell_drawn}
use Rattle.tables.specs.Tables.{Gathers, looks_put, looks_filled, words_filled}
use Rattle.line.specs.Line.{scan_for, DrawsLine}
use Rattle.line.specs.Walk.{shaped_over}
use Rattle.picture.specs.Picture.{DrawsPicture}
use Rattle.dots.specs.Half.{halved}
use Rattle.video.specs.At.{lent_refused, lent_by, lent_check, scan_of, scan_at, reading_of, counted_byte, shown_code, graphics_by}
use Rattle.step.specs.Step.{step_of}
use Rattle.place.specs.declared.Carried.{Carried}
use Rattle.place.specs.Place.{active_at, loaded_in, moved_in, turned_in}
use Rattle.board.specs.Parts.{with_place}
use Rattle.place.specs.State.{state_of}
use Rattle.fetch.specs.declared.Span.{Span}

-- ---- `fetch`

-- the part's cells, the block and the offset where it stands, and the number; the memory was lent at an offset of a block
pub row-run-one : {Block : Type 0} (b : Board) (chars : List ℕ) (row : ℕ) (lent : Block) (from : ℕ)
    → OneAnswer (λ (r : List ℕ × Block × ℕ × ℕ). GivesRun b chars row lent from r.0 r.1 r.2 r.3)
row-run-one b chars row lent from = only-four _ _ _ _

-- so it has one length
pub run_length : (b : Board) (chars : List ℕ) (row : ℕ) → length (run_of b chars row) ≡ (span_in b chars row).count
unfolding run_of
run_length b chars row = length-take-le _ _ (rw length-drop (omega (arith, span_fits b chars row)))

pub span-of-one : (b : Board) (chars : List ℕ) (row : ℕ) → OneAnswer (λ (r : Result Span Refusal). GivesSpan b chars row r)
span-of-one b chars row r s p q = only _ r s p.0 q.0

-- the refusal and the count, and the buffer
pub row-cells-one : (b : Board) (chars : List ℕ) (row : ℕ) (cells : List ℕ) → OneAnswer (λ (r : Result ℕ Refusal × List ℕ). GivesCells b chars row cells r.0 r.1)
row-cells-one b chars row cells = only-both _ _

pub entry-one : (p : Page) (chars : List ℕ) (row : ℕ) → OneAnswer (λ r. r ≡ cell (entry_of p chars row))
entry-one p chars row = only _

pub code_at_one : (p : Page) (chars : List ℕ) (row : ℕ) → OneAnswer (λ r. r ≡ code_at p chars row)
code_at_one p chars row = only _

pub fetched-of-one : (p : Page) (chars : List ℕ) (row : ℕ) → OneAnswer (λ r. r ≡ fetched_of p chars row)
fetched-of-one p chars row = only _

pub fetched-before-one : (p : Page) (chars : List ℕ) (row column : ℕ) → OneAnswer (λ r. r ≡ fetched_before p chars row column)
fetched-before-one p chars row column = only _

pub one-run-one : (b : Buffer) (start : Cell) (n : ℕ) → OneAnswer (λ r. r ≡ one_run b start.address n)
one-run-one b start n = only _

pub row-start-one : (p : Page) (chars : List ℕ) (row : ℕ) → OneAnswer (λ r. r ≡ cell (row_start p chars row))
row-start-one p chars row = only _

pub cell-at-one : (p : Page) (chars : List ℕ) (row column : ℕ) → OneAnswer (λ r. r ≡ cell (cell_at p chars row column))
cell-at-one p chars row column = only _

-- ---- `catalogue`

-- the answer and character memory
pub to-table-one : (b : Board) (chars : List ℕ) → OneAnswer (λ (r : Result Board Refusal × List ℕ). MovesToTable b chars r.0 r.1)
to-table-one b chars = only-both _ _

pub to-sheet-one : (b : Board) (chars : List ℕ) → OneAnswer (λ r. r ≡ as_sheet b chars)
to-sheet-one b chars = only _

-- ---- `records`

pub row-asked-one : (b : Board) (chars : List ℕ) (row : ℕ) → OneAnswer (λ r. r ≡ asked_of b chars row)
row-asked-one b chars row = only _

pub asked-from-one : (x : Result Ends Refusal) → OneAnswer (λ r. r ≡ asked_by x)
asked-from-one x = only _

pub start-one : (a : Asked) → OneAnswer (λ r. r ≡ start_of a)
start-one a = only _

pub visit-one : (s : PhraseAnswer) (p : Phrase) (i : ℕ) (e : Ends) → OneAnswer (λ r. r ≡ visit_of s p i e)
visit-one s p i e = only _

pub start-mate-one : (o : Phrase) → OneAnswer (λ r. r ≡ mate_start o)
start-mate-one o = only _

pub visit-mate-one : (s : Mate) (p : Phrase) (i : ℕ) (o : Phrase) → OneAnswer (λ r. r ≡ mate_visit s p i o)
visit-mate-one s p i o = only _

pub visit-four-one : (s : Mate) (a b c d : Phrase) (i : ℕ) (o : Phrase) → OneAnswer (λ r. r ≡ mate_four s a b c d i o)
visit-four-one s a b c d i o = only _

pub fours-from-one : (after n : ℕ) → OneAnswer (λ r. r ≡ fours_from after n)
fours-from-one after n = only _

pub start-pair-one : OneAnswer (λ r. r ≡ pair_start)
start-pair-one = only _

pub visit-pair-one : (s : PairAnswer) (m : Mate) (i : ℕ) → OneAnswer (λ r. r ≡ pair_visit s m i)
visit-pair-one s m i = only _

-- ---- `phrases`

pub index-count-one : {S : Type 0} (kept : S → List Phrase) (s : S) → OneAnswer (λ r. r ≡ length (kept s))
index-count-one kept s = only _

pub index-at-one : {S : Type 0} (kept : S → List Phrase) (s : S) (i : ℕ) → OneAnswer (λ r. r ≡ get_or (kept s) i none)
index-at-one kept s i = only _

pub search-in-one : {S : Type 0} (kept : S → List Phrase) (s : S) (a : Asked) → OneAnswer (λ r. r ≡ search_of (kept s) a)
search-in-one kept s a = only _

pub search-one : (phrases : List Phrase) (a : Asked) → OneAnswer (λ r. r ≡ search_of phrases a)
search-one phrases a = only _

pub phrase-of-row-one : (b : Board) (chars : List ℕ) (phrases : List Phrase) (row : ℕ) → OneAnswer (λ r. r ≡ phrase_of_row b chars phrases row)
phrase-of-row-one b chars phrases row = only _

pub differ-in-one : {S : Type 0} (kept : S → List Phrase) (s : S) → OneAnswer (λ r. r ≡ phrases_differ (kept s))
differ-in-one kept s = only _

pub phrases-differ-one : (phrases : List Phrase) → OneAnswer (λ r. r ≡ phrases_differ phrases)
phrases-differ-one phrases = only _

-- ---- `columns`

pub record-of-row-one : (b : Board) (chars languages numbers firsts lengths : List ℕ) (row : ℕ)
    → OneAnswer (λ r. r ≡ phrase_of_row b chars (records_of languages numbers firsts lengths) row)
record-of-row-one b chars languages numbers firsts lengths row = only _

pub records-differ-one : (languages numbers firsts lengths : List ℕ) → OneAnswer (λ r. r ≡ phrases_differ (records_of languages numbers firsts lengths))
records-differ-one languages numbers firsts lengths = only _

-- ---- `latch`

pub held-before-one : (p : Page) (chars attrs : List ℕ) (row : ℕ) → OneAnswer (λ r. r ≡ held_at p chars attrs row 0)
held-before-one p chars attrs row = only _

pub held-at-one : (p : Page) (chars attrs : List ℕ) (row column : ℕ) → OneAnswer (λ r. r ≡ held_at p chars attrs row column)
held-at-one p chars attrs row column = only _

-- ---- `shape`

pub font-line-one : (unshifted shifted groups : List ℕ) (scan : ℕ) → OneAnswer (λ r. r ≡ font_line_of unshifted shifted groups scan)
font-line-one unshifted shifted groups scan = only _

pub font-lines-one : (unshifted shifted groups : List ℕ) → OneAnswer (λ r. r ≡ font_lines_of unshifted shifted groups)
font-lines-one unshifted shifted groups = only _

pub font-line-at-one : (lines : FontLines) (scan : ℕ) → OneAnswer (λ r. r ≡ font_line_at lines scan)
font-line-at-one lines scan = only _

pub font-refused-one : (f : Font) → OneAnswer (λ r. r ≡ font_refused f)
font-refused-one f = only _

pub groups-check-one : (groups : List ℕ) → OneAnswer (λ r. r ≡ groups_check groups)
groups-check-one groups = only _

pub graphics-word-one : (group code : ℕ) → OneAnswer (λ r. r ≡ graphics_word group code)
graphics-word-one group code = only _

pub word-by-one : (words flags : List ℕ) (line : FontLine) (graphics : Bool) (code : ℕ) → OneAnswer (λ r. r ≡ word_by words flags line graphics code)
word-by-one words flags line graphics code = only _

-- ---- `video`

pub scene-of-one : (b : Board) (scan field : ℕ) → OneAnswer (λ r. r ≡ scene_of b scan field)
scene-of-one b scan field = only _

pub cursor-at-one : (s : Scene) (at : ℕ) → OneAnswer (λ r. r ≡ cursor_at s at)
cursor-at-one s at = only _

pub reading-of-one : (p : Page) → OneAnswer (λ r. r ≡ reading_of p)
reading-of-one p = only _

pub scan-of-one : (k : Code) (of line : ℕ) → OneAnswer (λ r. r ≡ lines (scan_of k of line))
scan-of-one k of line = only _

pub scan-at-one : (p : Page) (k : Code) (line : ℕ) → OneAnswer (λ r. r ≡ lines (scan_at p k line))
scan-at-one p k line = only _

pub counted-byte-one : (k : Reading) (again : Bool) (byte : ℕ) → OneAnswer (λ r. r ≡ counted_byte k again byte)
counted-byte-one k again byte = only _

pub shown-code-one : (hidden : Bool) (code byte : ℕ) → OneAnswer (λ r. r ≡ shown_code hidden code byte)
shown-code-one hidden code byte = only _

pub graphics-by-one : (k : Reading) (attributes : ℕ) → OneAnswer (λ r. r ≡ graphics_by k attributes)
graphics-by-one k attributes = only _

pub look-of-one : (s : Scene) (attributes : ℕ) (cursor : Bool) → OneAnswer (λ r. r ≡ look_of s attributes cursor)
look-of-one s attributes cursor = only _

pub lent-refused-one : (chars attrs : List ℕ) (f : Font) → OneAnswer (λ r. r ≡ lent_refused chars attrs f)
lent-refused-one chars attrs f = only _

pub lent-by-one : (size : Bool) (groups : List ℕ) → OneAnswer (λ r. r ≡ lent_by size groups)
lent-by-one size groups = only _

pub lent-check-one : (chars attrs : List ℕ) (f : Font) → OneAnswer (λ r. r ≡ lent_check chars attrs f)
lent-check-one chars attrs f = only _

-- ---- `dots`: a number, or the buffer

pub spread-one : (w : ℕ) → OneAnswer (λ r. r ≡ spread_of 8 w)
spread-one w = only _

pub wide-one : (word d : ℕ) → OneAnswer (λ r. r ≡ wide_of word d)
wide-one word d = only _

pub under_one : (look : Look) → OneAnswer (λ r. r ≡ under_of look)
under_one look = only _

pub inks-one : OneAnswer (λ r. r ≡ ink_table)
inks-one = only _

pub put-cell-one : (levels word d : ℕ) (tight : Bool) (out : List ℕ) → OneAnswer (λ r. r ≡ cell_put levels word d tight out)
put-cell-one levels word d tight out = only _

pub write-cell-one : (symbol surround word d : ℕ) (out : List ℕ) → OneAnswer (λ r. r ≡ cell_written symbol surround word d out)
write-cell-one symbol surround word d out = only _

pub draw-cell-one : (look : Look) (word d : ℕ) (out : List ℕ) → OneAnswer (λ r. r ≡ cell_drawn look word d out)
draw-cell-one look word d out = only _

pub halve-one : (cell : List ℕ) (from d : ℕ) (out : List ℕ) → OneAnswer (λ r. r ≡ halved cell from d out)
halve-one cell from d out = only _

pub double-one : (dots : List ℕ) (n : ℕ) (out : List ℕ) → OneAnswer (λ r. r ≡ halved dots 0 n out)
double-one dots n out = only _

-- ---- `tables`: the lent table, and for `gather` what is valid after the row

pub gather-one : (k : Reading) (chars attrs : List ℕ) (buffer : Buffer) (held : ℕ) (start : Cell) (n : ℕ) (cells : List ℕ)
    → OneAnswer (λ (r : ℕ × List ℕ). Gathers k chars attrs buffer held start.address n cells r.0 r.1)
gather-one k chars attrs buffer held start n cells = only-both _ _

pub looks-one : (s : Scene) (table : List ℕ) → OneAnswer (λ r. r ≡ looks_put s table)
looks-one s table = only _

pub fill-looks-one : (b : Board) (field n : ℕ) (table : List ℕ) → OneAnswer (λ r. r ≡ looks_filled b field n table)
fill-looks-one b field n table = only _

pub fill-words-one : (words flags : List ℕ) (lines : FontLines) (n d : ℕ) (table : List ℕ) → OneAnswer (λ r. r ≡ words_filled words flags lines n d table)
fill-words-one words flags lines n d table = only _

-- ---- `line`

pub scan-for-one : (b : Board) (chars : List ℕ) (line : ℕ) → OneAnswer (λ r. r ≡ lines (scan_for b chars line))
scan-for-one b chars line = only _

pub whole-line-one : (b : Board) (chars attrs words flags : List ℕ) (font : FontLine) (line field : ℕ) (out : List ℕ)
    → OneAnswer (λ r. r ≡ shaped_over b chars attrs (word_by words flags font) line field out)
whole-line-one b chars attrs words flags font line field out = only _

-- the refusal and the buffer
pub draw-line-one : (b : Board) (chars attrs : List ℕ) (f : Font) (line field : ℕ) (out : List ℕ) → OneAnswer (λ (r : Checked × List ℕ). DrawsLine b chars attrs f line field out r.0 r.1)
draw-line-one b chars attrs f line field out = only-both _ _

-- ---- `picture`

pub draw-picture-one : (b : Board) (chars attrs : List ℕ) (f : Font) (field : ℕ) (out : List ℕ) → OneAnswer (λ (r : Checked × List ℕ). DrawsPicture b chars attrs f field out r.0 r.1)
draw-picture-one b chars attrs f field out = only-both _ _

-- ---- `place`

pub active-at-one : (p : Page) (q : Place) → OneAnswer (λ r. r ≡ active_at p q)
active-at-one p q = only _

pub loaded-at-one : (p : Page) (chars : List ℕ) (q : Place) → OneAnswer (λ r. r ≡ loaded_in p chars q)
loaded-at-one p chars q = only _

pub place-after-one : (p : Page) (attrs : List ℕ) (q : Place) (c : Carried) → OneAnswer (λ r. r ≡ turned_in p q (moved_in p attrs q c))
place-after-one p attrs q c = only _

pub with-place-one : (b : Board) (q : Place) → OneAnswer (λ r. r ≡ with_place b q)
with-place-one b q = only _

pub state-at-one : (b : Board) (chars attrs : List ℕ) (n : ℕ) → OneAnswer (λ r. r ≡ state_of b chars attrs n)
state-at-one b chars attrs n = only _

-- ---- `step`

pub step-one : (b : Board) (chars attrs : List ℕ) (f : Font) → OneAnswer (λ r. r ≡ step_of b chars attrs f)
step-one b chars attrs f = only _
