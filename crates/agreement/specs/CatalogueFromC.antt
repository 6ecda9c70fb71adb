-- 02, R-5, as C calls it: `feldrime_to_table` and `feldrime_to_sheet` of a page's 32 numbers. All of it speaks of the definitions that the contracts of these calls cite. Assumes nothing.
--     table-shows, sheet-shows, table-again    what they leave shows the same
--     sheet-again, cells-again                 there and back only screen start 2 and the table's cells differ
--     table-refused, sheet-refused             a refusal leaves numbers and memory
--     table_same, sheet-same                   so pictures and steps are the same, refused or not
use Rattle.std.specs.Prelude.{ℕ, ◌+◌, ◌-◌, ◌/◌, ◌%◌, ◌≤◌, ◌<◌, ◌≡◌, Bool, true, false, length, get_or, eqb, is_ok, Err, Ok, Result}
use Rattle.std.proofs.Math.Path.{refl, sym, ap, ap₂}
use Rattle.std.proofs.Common.{true≢false, ◌∙◌, zero-add, suc-add, arith, length-take-le, drop-cons}
use mathlib.Core.List.{List, [], ◌∷◌, ◌++◌, append_assoc}
use Rattle.std.proofs.Math.ListN.{set, take, drop, length-set}
use Rattle.std.proofs.Math.Seq.{take-add}
use Rattle.lists.specs.Choice.{pick}
use Rattle.refusal.specs.declared.Refusal.{Refusal}
use Rattle.refusal.specs.declared.Refusal.TheVariants.{Size}
use Rattle.refusal.specs.Number.{unrefused, Checked, number_of, beside_of, wrong_size, given, check_of, value_or}
use Rattle.refusal.specs.Laws.{done-is, check-given, passed}
use Rattle.board.specs.declared.Video.{Video}
use Rattle.board.specs.declared.Page.{Page}
use Rattle.board.specs.declared.Board.{Board}
use Rattle.board.specs.Parts.{with_page}
use Rattle.board.specs.State.{board_of}
use Rattle.board.specs.Layout.{layout_of, page_length}
use Rattle.board.specs.Modes.{version_of}
use Rattle.board.specs.Range.{memory_refused}
use Rattle.board.specs.Laws.{layout-fits}
use Rattle.timing.specs.Fields.{ir}
use Rattle.timing.specs.Check.{call_check}
use Rattle.timing.specs.Laws.{call-page}
use Rattle.shape.specs.Font.{Font, font_of}
use Rattle.video.specs.At.{lent_check}
use Rattle.step.specs.declared.Stepped.{Stepped}
use Rattle.step.specs.Step.{step_of}
use Rattle.step.specs.After.{step-answers}
use Rattle.catalogue.specs.ToTable.{table_place, table_size, as_table_page, as_table_chars, own_check, as_table_check, as_table, as_table_left}
use Rattle.catalogue.specs.ToSheet.{as_sheet_page, as_sheet_check, as_sheet}
use Rattle.catalogue.specs.Marks.{as-table-passed, as-sheet-passed}
use Rattle.files.specs.Page.{version_in, irs_in, page_at, tail_of}
use Rattle.files.specs.Laws.{page-irs}
use Rattle.files.specs.Round.{Bytes, bytes-again, ir-byte, version-again, on}
use Rattle.numbers.specs.Numbers.{numbers_refused, numbers_board, numbers_check, counted, numbers_front, page_in, page_or_own}
use Rattle.numbers.specs.Laws.{numbers-passed, numbers-room, numbers-version, put-fine, put-page, put_rest}
use Rattle.feldrime.specs.PictureDraw.{picture_draw_check, picture_drawn}
use Rattle.feldrime.specs.Catalogue.{to_table_check, to_table_numbers, to_table_chars, to_sheet_check, to_sheet_numbers}
use Rattle.feldrime.specs.Step.{numbered}
use Rattle.agreement.specs.Catalogue.{changed, ShowsSame, as-table-shows, as-sheet-shows, table-then-sheet, memory-back}
use Rattle.agreement.specs.FromC.{step_c, fit-from-c, begins-from-c, steps-from-c}

-- numbers and character memory show what others show: `feldrime_picture_draw` answers and leaves the same in every field, with any attribute memory, font and buffer, and every `feldrime_step`, from the boards
-- that `feldrime_board_of` gives, answers the same
pub record SameC (numbers chars numbers' chars' : List ℕ) : Type 0 where
  pub answered : (attrs : List ℕ) (f : Font) (room : ℕ) → picture_draw_check numbers chars attrs f room ≡ picture_draw_check numbers' chars' attrs f room
  pub pictured : (attrs : List ℕ) (f : Font) (field : ℕ) (out : List ℕ) → picture_drawn numbers chars attrs f field out ≡ picture_drawn numbers' chars' attrs f field out
  pub stepped : (attrs words flags unshifted shifted groups : List ℕ) (k : ℕ) → step_c numbers chars attrs words flags unshifted shifted groups k ≡ step_c numbers' chars' attrs words flags unshifted shifted groups k

itself : (numbers chars : List ℕ) → SameC numbers chars numbers chars
itself numbers chars = record { answered = λ attrs f room. refl; pictured = λ attrs f field out. refl; stepped = λ attrs words flags unshifted shifted groups k. refl }

pub same-on : {n m o x y z : List ℕ} → SameC n x m y → SameC m y o z → SameC n x o z
same-on s t = record {
  answered = λ attrs f room. s.answered attrs f room ∙ t.answered attrs f room;
  pictured = λ attrs f field out. s.pictured attrs f field out ∙ t.pictured attrs f field out;
  stepped = λ attrs words flags unshifted shifted groups k. s.stepped attrs words flags unshifted shifted groups k ∙ t.stepped attrs words flags unshifted shifted groups k;
}

-- and those others are accepted
pub record ShowsC (numbers chars numbers' chars' : List ℕ) : Type 0 where
  pub accepted : numbers_check numbers' ≡ unrefused
  pub same : SameC numbers chars numbers' chars'

same-numbered : (s t : Stepped) → s.refusal ≡ t.refusal → s.signals ≡ t.signals → s.address ≡ t.address → s.dots ≡ t.dots → numbered s ≡ numbered t
unfolding numbered
same-numbered s t r g a d = λ i. record {
  refusal = number_of (r i);
  beside = beside_of (r i);
  hsync = pick (g i).hsync 1 0;
  vsync = pick (g i).vsync 1 0;
  blank = pick (g i).blank 1 0;
  cursor = pick (g i).cursor 1 0;
  blink = pick (g i).blink 1 0;
  address = a i;
  dots = d i;
}

-- where what is lent is refused, a step answers that whatever the board is
lent-alone : (x y : Board) (chars chars' attrs : List ℕ) (f : Font) → is_ok (lent_check chars attrs f) ≡ false → lent_check chars attrs f ≡ lent_check chars' attrs f → numbered (step_of x chars attrs f) ≡ numbered (step_of y chars' attrs f)
unfolding numbered step_of call_check
lent-alone x y chars chars' attrs f e same = rw (← same, e, e)

module _ (numbers chars numbers' chars' : List ℕ) (ok : numbers_check numbers ≡ unrefused) (fine : numbers_refused numbers' ≡ false)
    (s : ShowsSame (numbers_board numbers) chars (numbers_board numbers') chars') where
  ok' : numbers_check numbers' ≡ unrefused
  unfolding numbers_check
  ok' = rw fine (s []).accepted

  -- with memories and font parts of the right sizes
  sized_same : (attrs words flags unshifted shifted groups : List ℕ) → lent_check chars attrs (font_of words flags unshifted shifted groups) ≡ unrefused
      → (k : ℕ) → step_c numbers chars attrs words flags unshifted shifted groups k ≡ step_c numbers' chars' attrs words flags unshifted shifted groups k
  sized_same attrs words flags unshifted shifted groups sized k =
      let f = font_of words flags unshifted shifted groups in
      let fit = fit-from-c numbers chars attrs words flags unshifted shifted groups ok sized in
      let both = (s attrs).stepped f fit in
      let begun = begins-from-c numbers chars attrs words flags unshifted shifted groups ok sized in
      let begun' = begins-from-c numbers' chars' attrs words flags unshifted shifted groups ok' (sym ((s attrs).lent f) ∙ sized) in
      let refused = step-answers (numbers_board numbers) chars attrs f fit k ∙ sym (step-answers (numbers_board numbers') chars' attrs f both.0 k) in
      let shown = both.1 k in
      rw (steps-from-c numbers chars attrs words flags unshifted shifted groups begun.0 begun.1 k, steps-from-c numbers' chars' attrs words flags unshifted shifted groups begun'.0 begun'.1 k)
      (same-numbered _ _ refused shown.signals shown.address shown.dots)

  step_same : (attrs words flags unshifted shifted groups : List ℕ) (k : ℕ) → step_c numbers chars attrs words flags unshifted shifted groups k ≡ step_c numbers' chars' attrs words flags unshifted shifted groups k
  step_same attrs words flags unshifted shifted groups k = go (is_ok (lent_check chars attrs f)) refl
    where
      f : Font
      f = font_of words flags unshifted shifted groups

      go : (t : Bool) → is_ok (lent_check chars attrs f) ≡ t → step_c numbers chars attrs words flags unshifted shifted groups k ≡ step_c numbers' chars' attrs words flags unshifted shifted groups k
      go false e = lent-alone _ _ chars chars' attrs f e ((s attrs).lent f)
      go true e = sized_same attrs words flags unshifted shifted groups (done-is _ e) k

  shows-from-c : ShowsC numbers chars numbers' chars'
  unfolding picture_draw_check picture_drawn
  shows-from-c = record {
    accepted = ok';
    same = record {
      answered = λ attrs f room. rw (numbers-passed numbers ok, fine) ((s attrs).answered f room);
      pictured = λ attrs f field out. rw (numbers-passed numbers ok, fine) ((s attrs).pictured f field out);
      stepped = step_same;
    };
  }

-- ---- a refusal leaves numbers and memory

-- [demand untouched]
-- a refused move leaves numbers and memory
pub table-refused : (numbers chars : List ℕ) → is_ok (to_table_check numbers chars) ≡ false → (to_table_numbers numbers chars ≡ numbers) × (to_table_chars numbers chars ≡ chars)
unfolding to_table_check to_table_numbers to_table_chars as_table as_table_left
table-refused numbers chars = go (numbers_refused numbers) (as_table_check (numbers_board numbers) chars)
  where
    b : Board
    b = numbers_board numbers

    m : Page
    m = as_table_page b.page (table_place b.page chars)

    go : (t : Bool) (r : Checked) → is_ok (pick t (Err Size) (check_of (given r (with_page b m)))) ≡ false → (pick t numbers (page_or_own (given r (with_page b m)) numbers) ≡ numbers)
        × (pick t chars (pick (is_ok r) (as_table_chars b.page chars (table_place b.page chars)) chars) ≡ chars)
    go true r e = (refl, refl)
    go false (Err why) e = (refl, refl)
    go false (Ok tt) e = absurd (true≢false e)

-- [demand untouched]
-- and a refused way back the numbers
pub sheet-refused : (numbers chars : List ℕ) → is_ok (to_sheet_check numbers chars) ≡ false → to_sheet_numbers numbers chars ≡ numbers
unfolding to_sheet_check to_sheet_numbers as_sheet
sheet-refused numbers chars = go (numbers_refused numbers) (as_sheet_check (numbers_board numbers) chars)
  where
    b : Board
    b = numbers_board numbers

    m : Page
    m = as_sheet_page b.page chars

    go : (t : Bool) (r : Checked) → is_ok (pick t (Err Size) (check_of (given r (with_page b m)))) ≡ false → pick t numbers (page_or_own (given r (with_page b m)) numbers) ≡ numbers
    go true r e = refl
    go false (Err why) e = refl
    go false (Ok tt) e = absurd (true≢false e)

-- ---- the numbers of a moved page

-- a move that is done, of the board that numbers describe
module _ (numbers : List ℕ) (fine : numbers_refused numbers ≡ false) (m : Result Board Refusal) (q : Page) (moved : m ≡ Ok (board_of q)) (n : length q.irs ≡ 15)
    (version : q.version ≡ get_or numbers 0 0) (video : q.video ≡ (page_at numbers 1).video) where
  numbers-are : page_or_own m numbers ≡ page_in q numbers
  numbers-are = rw moved

  -- numbers have a chip in version 3 alone
  no-chip : eqb q.version 3 ≡ false → q.video.chip ≡ 0
  unfolding page_at
  no-chip e = ap (λ (x : Video). x.chip) video ∙ rw (rw version at e)

  board-is : numbers_board (page_or_own m numbers) ≡ value_or (numbers_board numbers) m
  board-is = ap numbers_board numbers-are ∙ ap board_of (put-page numbers fine q n version no-chip) ∙ ap (value_or (numbers_board numbers)) (sym moved)

  moved-fine : numbers_refused (page_or_own m numbers) ≡ false
  moved-fine = rw numbers-are (put-fine numbers fine q n)

-- numbers with another screen start 2: the two bytes that follow version, IRs, screen start 1 and cursor
abbrev pub with_start2 : (numbers : List ℕ) → (start2 : ℕ) → List ℕ
with_start2 numbers x = set (set numbers (irs_in numbers + 5) (x / 256)) (irs_in numbers + 6) (x % 256)

set-behind : (xs ys : List ℕ) (i v : ℕ) → set (xs ++ ys) (length xs + i) v ≡ xs ++ set ys i v
set-behind [] ys i v = ap (λ (k : ℕ). set ys k v) (zero-add i)
set-behind (x ∷ xs) ys i v = ap (λ (k : ℕ). set (x ∷ (xs ++ ys)) k v) (suc-add (length xs) i) ∙ ap (λ (l : List ℕ). x ∷ l) (set-behind xs ys i v)

-- behind a version and the IRs
start-set : (irs : List ℕ) (n : ℕ) → length irs ≡ n → (v a b c d e f high low : ℕ) (rest : List ℕ)
    → set (set (v ∷ (irs ++ (a ∷ b ∷ c ∷ d ∷ e ∷ f ∷ rest))) (n + 5) high) (n + 6) low ≡ v ∷ (irs ++ (a ∷ b ∷ c ∷ d ∷ high ∷ low ∷ rest))
start-set irs n q v a b c d e f high low rest =
    let four : n + 5 ≡ length (v ∷ irs) + 4 = omega (arith, q) in
    let five : n + 6 ≡ length (v ∷ irs) + 5 = omega (arith, q) in
    let first = ap (λ (k : ℕ). set (v ∷ (irs ++ (a ∷ b ∷ c ∷ d ∷ e ∷ f ∷ rest))) k high) four ∙ set-behind (v ∷ irs) (a ∷ b ∷ c ∷ d ∷ e ∷ f ∷ rest) 4 high in
    let second = ap (λ (k : ℕ). set (v ∷ (irs ++ (a ∷ b ∷ c ∷ d ∷ high ∷ f ∷ rest))) k low) five ∙ set-behind (v ∷ irs) (a ∷ b ∷ c ∷ d ∷ high ∷ f ∷ rest) 5 low in
    ap (λ (l : List ℕ). set l (n + 6) low) first ∙ second

irs-all : (numbers : List ℕ) → numbers_refused numbers ≡ false → length (page_at numbers 1).irs ≡ 15
irs-all numbers fine = page-irs numbers 1 (numbers-room numbers fine)

-- which are the numbers of their page with that screen start 2
module _ (numbers : List ℕ) (fits : Bytes numbers) (fine : numbers_refused numbers ≡ false) (x : ℕ) where
  abbrev own : Page
  own = page_at numbers 1

  abbrev v : ℕ
  v = version_in numbers

  -- the IRs that their version has
  abbrev irs : List ℕ
  irs = take (layout_of v).irs own.irs

  own-as-sheet : page_in own numbers ≡ numbers
  unfolding page_at
  own-as-sheet =
      ap₂ (λ (k : ℕ) (l : List ℕ). numbers_front k l (drop (counted v) numbers)) (version-again numbers 1 (numbers-version numbers fine)) (bytes-again numbers fits 1 (numbers-room numbers fine))
      ∙ ap (λ (l : List ℕ). v ∷ l) (on numbers 1 (page_length v))
      ∙ sym (drop-cons numbers 0 0 (omega (arith, numbers-room numbers fine)))

  own-version : own.version ≡ v
  unfolding page_at
  own-version = refl

  irs-long : length irs ≡ (layout_of v).irs
  irs-long = length-take-le (layout_of v).irs own.irs (omega (arith, irs-all numbers fine, (layout-fits v).irs-most))

  -- what stands behind the IRs begins with the three addresses
  six-first : (p : Page) → take (layout_of v).rest (tail_of p)
      ≡ (p.starts.start1 / 256) ∷ (p.starts.start1 % 256) ∷ (p.starts.cursor / 256) ∷ (p.starts.cursor % 256) ∷ (p.starts.start2 / 256) ∷ (p.starts.start2 % 256)
      ∷ take ((layout_of v).rest - 6) (p.switches ∷ p.video.dots.0 ∷ p.video.strike ∷ p.video.chip ∷ [])
  unfolding tail_of
  six-first p =
      let more : (layout_of v).rest ≡ 6 + ((layout_of v).rest - 6) = omega (arith, (layout-fits v).rest_some) in
      ap (λ (k : ℕ). take k (tail_of p)) more ∙ take-add 6 ((layout_of v).rest - 6) (tail_of p)

  start-put : page_in (changed own own.irs own.starts.start1 x) numbers ≡ with_start2 numbers x
  unfolding page_at
  start-put =
      let other = changed own own.irs own.starts.start1 x in
      let rest = drop (counted v) numbers in
      ap (λ (l : List ℕ). version_of own ∷ l) (append_assoc irs (take (layout_of v).rest (tail_of other)) rest)
      ∙ ap (λ (l : List ℕ). version_of own ∷ (irs ++ (l ++ rest))) (six-first other)
      ∙ sym (start-set irs (layout_of v).irs irs-long (version_of own) _ _ _ _ (own.starts.start2 / 256) (own.starts.start2 % 256) (x / 256) (x % 256) _)
      ∙ ap (λ (l : List ℕ). set (set (version_of own ∷ (irs ++ (l ++ rest))) (irs_in numbers + 5) (x / 256)) (irs_in numbers + 6) (x % 256)) (sym (six-first own))
      ∙ ap (λ (l : List ℕ). set (set (version_of own ∷ l) (irs_in numbers + 5) (x / 256)) (irs_in numbers + 6) (x % 256)) (sym (append_assoc irs (take (layout_of v).rest (tail_of own)) rest))
      ∙ ap (λ (l : List ℕ). set (set l (irs_in numbers + 5) (x / 256)) (irs_in numbers + 6) (x % 256)) own-as-sheet

-- what the page's own refusals passed
own-ok : (numbers chars : List ℕ) → numbers_refused numbers ≡ false → own_check (numbers_board numbers) (length chars) ≡ unrefused → numbers_check numbers ≡ unrefused
unfolding numbers_check own_check
own-ok numbers chars fine ok = rw fine (call-page (numbers_board numbers) (wrong_size (memory_refused (length chars))) false false ok)

-- numbers that feldrime_to_table moves
module _ (numbers chars : List ℕ) (done : to_table_check numbers chars ≡ unrefused) where
  abbrev b : Board
  b = numbers_board numbers

  abbrev p : Page
  p = b.page

  abbrev place : ℕ
  place = table_place p chars

  abbrev m : Result Board Refusal
  m = as_table b chars

  taken : (numbers_refused numbers ≡ false) × (as_table_check b chars ≡ unrefused)
  unfolding to_table_check as_table
  taken = let t = passed (numbers_refused numbers) (Err Size) _ refl done in (t.0, sym (check-given (as_table_check b chars) _) ∙ t.1)

  moved : m ≡ Ok (board_of (as_table_page p place))
  unfolding as_table
  moved = rw taken.1

  long : length p.irs ≡ 15
  long = irs-all numbers taken.0

  long' : length (as_table_page p place).irs ≡ 15
  unfolding as_table_page
  long' = length-set p.irs 2 (ir p 2 % 128 + 128) ∙ long

  version : (as_table_page p place).version ≡ get_or numbers 0 0
  unfolding as_table_page page_at
  version = refl

  video : (as_table_page p place).video ≡ p.video
  unfolding as_table_page
  video = refl

  numbers-left : to_table_numbers numbers chars ≡ page_or_own m numbers
  unfolding to_table_numbers
  numbers-left = rw taken.0

  chars-left : to_table_chars numbers chars ≡ as_table_left b chars
  unfolding to_table_chars
  chars-left = rw taken.0

  table-fine : numbers_refused (to_table_numbers numbers chars) ≡ false
  table-fine = rw numbers-left (moved-fine numbers taken.0 m (as_table_page p place) moved long' version video)

  table-board : numbers_board (to_table_numbers numbers chars) ≡ value_or b m
  table-board = ap numbers_board numbers-left ∙ board-is numbers taken.0 m (as_table_page p place) moved long' version video

  -- [R-5 same]
  -- they and character memory show the same
  pub table-shows : ShowsC numbers chars (to_table_numbers numbers chars) (to_table_chars numbers chars)
  table-shows =
      shows-from-c numbers chars (to_table_numbers numbers chars) (to_table_chars numbers chars) (own-ok numbers chars taken.0 (as-table-passed b chars taken.1).own) table-fine
      (rw (table-board, chars-left) (as-table-shows b chars (omega (arith, long)) taken.1))

  -- [R-5 both]
  -- of memory only the table's cells have changed
  pub cells-again : (x : ℕ) → (place ≤ x → x < place + table_size p → ⊥) → get_or (to_table_chars numbers chars) x 0 ≡ get_or chars x 0
  cells-again x out = rw chars-left (memory-back b chars (omega (arith, long)) taken.1 x out)

  -- and moved back the numbers have another screen start 2, and nothing else has changed
  module _ (fits : Bytes numbers) where
    then-sheet : as_sheet (value_or b m) (as_table_left b chars) ≡ Ok (board_of (changed p p.irs p.starts.start1 place))
    unfolding page_at
    then-sheet = table-then-sheet b chars (omega (arith, long)) (ir-byte numbers fits 1 2 (numbers-room numbers taken.0)) taken.1

    as-sheet-left : as_sheet (numbers_board (to_table_numbers numbers chars)) (to_table_chars numbers chars) ≡ Ok (board_of (changed p p.irs p.starts.start1 place))
    as-sheet-left = ap₂ as_sheet table-board chars-left ∙ then-sheet

    rest-left : drop (counted p.version) (to_table_numbers numbers chars) ≡ drop (counted p.version) numbers
    unfolding as_table_page
    rest-left =
        ap (drop (counted p.version)) (numbers-left ∙ numbers-are numbers taken.0 m (as_table_page p place) moved long' version video)
        ∙ put_rest numbers taken.0 (as_table_page p place) long'

    -- [R-5 both]
    -- there and back: feldrime_to_sheet answers 0, and the numbers differ in bytes 20 and 21 alone
    pub sheet-again : (to_sheet_check (to_table_numbers numbers chars) (to_table_chars numbers chars) ≡ unrefused)
        × (to_sheet_numbers (to_table_numbers numbers chars) (to_table_chars numbers chars) ≡ with_start2 numbers place)
    unfolding to_sheet_check to_sheet_numbers
    sheet-again = (
      rw (table-fine, as-sheet-left),
      rw (table-fine, as-sheet-left, rest-left) (start-put numbers fits taken.0 place),
    )

-- numbers that feldrime_to_sheet moves
module _ (numbers chars : List ℕ) (done : to_sheet_check numbers chars ≡ unrefused) where
  abbrev sheet_page : Page
  sheet_page = as_sheet_page (numbers_board numbers).page chars

  as-sheet-taken : (numbers_refused numbers ≡ false) × (as_sheet_check (numbers_board numbers) chars ≡ unrefused)
  unfolding to_sheet_check as_sheet
  as-sheet-taken = let t = passed (numbers_refused numbers) (Err Size) _ refl done in (t.0, sym (check-given (as_sheet_check (numbers_board numbers) chars) _) ∙ t.1)

  as-sheet-moved : as_sheet (numbers_board numbers) chars ≡ Ok (board_of sheet_page)
  unfolding as_sheet
  as-sheet-moved = rw as-sheet-taken.1

  as-sheet-long : length sheet_page.irs ≡ 15
  unfolding as_sheet_page
  as-sheet-long = length-set (numbers_board numbers).page.irs 2 (ir (numbers_board numbers).page 2 % 128) ∙ irs-all numbers as-sheet-taken.0

  as-sheet-version : sheet_page.version ≡ get_or numbers 0 0
  unfolding as_sheet_page page_at
  as-sheet-version = refl

  as-sheet-video : sheet_page.video ≡ (numbers_board numbers).page.video
  unfolding as_sheet_page
  as-sheet-video = refl

  sheet-left : to_sheet_numbers numbers chars ≡ page_or_own (as_sheet (numbers_board numbers) chars) numbers
  unfolding to_sheet_numbers
  sheet-left = rw as-sheet-taken.0

  -- [R-5 sheet]
  -- they show the same
  pub sheet-shows : ShowsC numbers chars (to_sheet_numbers numbers chars) chars
  sheet-shows =
      let back = as_sheet (numbers_board numbers) chars in
      let fine = moved-fine numbers as-sheet-taken.0 back sheet_page as-sheet-moved as-sheet-long as-sheet-version as-sheet-video in
      let board = board-is numbers as-sheet-taken.0 back sheet_page as-sheet-moved as-sheet-long as-sheet-version as-sheet-video in
      shows-from-c numbers chars (to_sheet_numbers numbers chars) chars (own-ok numbers chars as-sheet-taken.0 (as-sheet-passed (numbers_board numbers) chars as-sheet-taken.1).own) (rw sheet-left fine)
      (rw (sheet-left, board) (as-sheet-shows (numbers_board numbers) chars (omega (arith, irs-all numbers as-sheet-taken.0)) as-sheet-taken.1))

  -- and so they do where they are moved there again
  pub table-again : to_table_check (to_sheet_numbers numbers chars) chars ≡ unrefused
      → ShowsC numbers chars (to_table_numbers (to_sheet_numbers numbers chars) chars) (to_table_chars (to_sheet_numbers numbers chars) chars)
  table-again again =
      let second = table-shows (to_sheet_numbers numbers chars) chars again in
      record { accepted = second.accepted; same = same-on sheet-shows.same second.same }

-- ---- refused or not, pictures and steps are the same

-- [R-5 same]
-- refused or not, pictures and steps are the same afterwards
pub table_same : (numbers chars : List ℕ) → SameC numbers chars (to_table_numbers numbers chars) (to_table_chars numbers chars)
table_same numbers chars = go (is_ok (to_table_check numbers chars)) refl
  where
    go : (t : Bool) → is_ok (to_table_check numbers chars) ≡ t → SameC numbers chars (to_table_numbers numbers chars) (to_table_chars numbers chars)
    go true e = (table-shows numbers chars (done-is _ e)).same
    go false e = let kept = table-refused numbers chars e in rw (kept.0, kept.1) (itself numbers chars)

-- [R-5 sheet]
-- and after the way back
pub sheet-same : (numbers chars : List ℕ) → SameC numbers chars (to_sheet_numbers numbers chars) chars
sheet-same numbers chars = go (is_ok (to_sheet_check numbers chars)) refl
  where
    go : (t : Bool) → is_ok (to_sheet_check numbers chars) ≡ t → SameC numbers chars (to_sheet_numbers numbers chars) chars
    go true e = (sheet-shows numbers chars (done-is _ e)).same
    go false e = rw (sheet-refused numbers chars e) (itself numbers chars)
