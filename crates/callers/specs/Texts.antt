-- The text that a row shows: a code for each cell that it fetches. Assumes nothing.
use Rattle.std.specs.Prelude.{ℕ, ◌≤◌, ◌<◌, ◌≡◌, Bool, ◌&&◌, eqb, leb, replicate, is_ok, Ok, Err}
use Rattle.std.proofs.Math.Path.{refl, sym, ap}
use Rattle.std.proofs.Common.{◌∙◌, arith, length-append, ext_get_or, length-take-le}
use Rattle.std.proofs.Math.Bool.{true, false}
use mathlib.Core.List.{List, ◌++◌}
use borrow.Author.Tests.{le-leb, lt-leb, eq-eqb}
use Rattle.std.proofs.Math.ListN.{length, get_or, take, drop, get_or-append}
use Rattle.std.proofs.Math.Seq.{get_or-take, get_or-drop}
use Rattle.lists.specs.Choice.{pick}
use Rattle.lists.specs.Tab.{tab, same-tab, length-tab, get_or-tab}
use Rattle.refusal.specs.declared.Refusal.{Refusal}
use Rattle.refusal.specs.Number.{Checked, unrefused, given, number_of, beside_of, check_of}
use Rattle.refusal.specs.Laws.{check-given}
use Rattle.board.specs.declared.Board.{Board}
use Rattle.raster.specs.Moves.{advance_by-lt}
use Rattle.timing.specs.Fields.{buffer_of}
use Rattle.fetch.specs.Rows.{row_start, fetched_of, fetch_at}
use Rattle.fetch.specs.Run.{run_check, span_of, run_of, span_in}
use Rattle.fetch.specs.RowCells.{cells_check, cells_given, cells_count}
use Rattle.fetch.specs.Laws.{run-passed, fetched-small, span_fits, span-number}
use Rattle.fetch.specs.RowLaws.{cells-passed, cells-as-run, cells-some, count_small, cells_at, run_at, run-least}
use Rattle.copies.specs.Put.{length_part}
use Rattle.feldrime.specs.declared.CellsAnswer.{CellsAnswer}
use Rattle.feldrime.specs.declared.RunAnswer.{RunAnswer}
use Rattle.numbers.specs.Numbers.{numbers_refused, numbers_board}
use Rattle.feldrime.specs.Answers.{cells_answer}
use Rattle.feldrime.specs.Pages.{run_for}
use Rattle.feldrime.specs.RowCells.{cells_for, cells_put_for}
use Rattle.callers.specs.Runs.{run_part}

-- how many cells a row fetches, none where it is refused
abbrev pub count : (numbers chars : List ℕ) → ℕ → ℕ
count numbers chars row = (cells_for numbers chars row 256).count

-- the code of the cell that it fetches after i others
unfoldable pub char_at : (numbers chars : List ℕ) → (row i : ℕ) → ℕ
char_at numbers chars row i = get_or chars (fetch_at (numbers_board numbers).page chars row i) 0

-- the row's text, and what stood beyond it; without room for it, what stood there
unfoldable pub row_text : (numbers chars : List ℕ) → ℕ → List ℕ → List ℕ
row_text numbers chars row text =
    pick (leb (count numbers chars row) (length text))
    (tab (count numbers chars row) (char_at numbers chars row) ++ drop (count numbers chars row) text)
    text

-- ---- the text as it is read, by cells that were answered

unfoldable pub code_by : (chars cells : List ℕ) → ℕ → ℕ
code_by chars cells c = get_or chars (get_or cells c 0) 0

pub record Readable (chars cells : List ℕ) (n room : ℕ) : Type 0 where
  pub within : n ≤ length cells
  pub roomy : n ≤ room
  pub inside : (c : ℕ) → c < n → get_or cells c 0 < length chars

abbrev no_cells : List ℕ
no_cells = replicate 256 0

-- what feldrime_row_cells answers, and what it leaves in a buffer of 256 elements
module _ (numbers chars : List ℕ) (row : ℕ) {a : CellsAnswer} {cells : List ℕ}
    (e : (a ≡ cells_for numbers chars row 256) × (cells ≡ cells_put_for numbers chars row no_cells)) where
  abbrev b : Board
  b = numbers_board numbers

  record Read (c : ℕ) : Type 0 where
    is-cell : get_or cells c 0 ≡ fetch_at b.page chars row c
    whole : length chars ≡ 16384

  each : (c : ℕ) → c < a.count → Read c
  unfolding cells_for cells_put_for
  each c h = go (numbers_refused numbers) refl
    where
      go : (t : Bool) → numbers_refused numbers ≡ t → Read c
      go true t = let none : c < 0 = rw (e.0, t) at h in absurd (omega (arith, none))
      go false t =
          let k : c < cells_count b chars row 256 = rw (e.0, t) at h in
          record {
            is-cell = ap (λ (l : List ℕ). get_or l c 0) e.1 ∙ rw t (cells_at b chars row no_cells c k);
            whole = (run-passed b (length chars) row (cells-passed b (length chars) row 256 (cells-some b chars row 256 c k)).0).whole;
          }

  few : a.count ≤ 256
  unfolding cells_for
  few = go (numbers_refused numbers) refl
    where
      go : (t : Bool) → numbers_refused numbers ≡ t → a.count ≤ 256
      go true t = rw (e.0, t) (omega arith)
      go false t = rw (e.0, t) (count_small b chars row 256)

  fetch-lt : (i : ℕ) → fetch_at b.page chars row i < 16384
  unfolding fetch_at
  fetch-lt i = advance_by-lt (buffer_of b.page) i (row_start b.page chars row)

  pub readable : length cells ≡ 256 → (room : ℕ) → a.count ≤ room → Readable chars cells a.count room
  readable m room fits = record {
    within = omega (arith, m, few);
    roomy = fits;
    inside = λ c h. let r = each c h in rw (r.is-cell, r.whole) (fetch-lt c);
  }

  pub text-put : (text : List ℕ) → a.count ≤ length text → {text' : List ℕ} → text' ≡ tab a.count (code_by chars cells) ++ drop a.count text
      → text' ≡ row_text numbers chars row text
  unfolding row_text code_by char_at
  text-put text room q =
      let counted : a.count ≡ count numbers chars row = ap (λ (x : CellsAnswer). x.count) e.0 in
      rw (le-leb (count numbers chars row) (length text) (rw counted at room))
      (q ∙ ap (λ (l : List ℕ). l ++ drop a.count text) (same-tab a.count _ _ (λ c h. ap (λ (x : ℕ). get_or chars x 0) (each c h).is-cell))
      ∙ ap (λ (k : ℕ). tab k (char_at numbers chars row) ++ drop k text) counted)

  pub text-kept : (text : List ℕ) → length text < a.count → text ≡ row_text numbers chars row text
  unfolding row_text
  text-kept text short = rw (lt-leb (count numbers chars row) (length text) (rw e.0 at short))

-- ---- the run stands at its front

module _ (numbers chars : List ℕ) (row : ℕ) (text : List ℕ) (room : 256 ≤ length text) where
  abbrev m : Board
  m = numbers_board numbers

  abbrev n : ℕ
  n = (span_in m chars row).count

  part-long : length (run_of m chars row) ≡ n
  unfolding run_of
  part-long = length_part chars (span_in m chars row).start n (span_fits m chars row)

  given-all : run_check m (length chars) row ≡ unrefused → cells_given m chars row 256 ≡ Ok (fetched_of m.page chars row)
  unfolding cells_given
  given-all q = rw (cells-as-run m (length chars) row 256 (omega arith), q)

  count-is : run_check m (length chars) row ≡ unrefused → numbers_refused numbers ≡ false → count numbers chars row ≡ fetched_of m.page chars row
  unfolding cells_for
  count-is q t =
      let answered : cells_for numbers chars row 256 ≡ cells_answer unrefused (fetched_of m.page chars row) = rw (t, given-all q) in
      ap (λ (x : CellsAnswer). x.count) answered

  most-count : n ≤ cells_count m chars row 256
  most-count = run-least m chars row 256 (omega arith)

  -- a row that is not refused
  shown : run_check m (length chars) row ≡ unrefused → numbers_refused numbers ≡ false → take n (row_text numbers chars row text) ≡ run_of m chars row
  unfolding row_text char_at run_of
  shown q t =
      let h = fetched_of m.page chars row in
      let f = char_at numbers chars row in
      let h_le : h ≤ length text = omega (arith, room, (fetched-small m.page chars row).1) in
      let text-is : row_text numbers chars row text ≡ tab h f ++ drop h text = rw (count-is q t, le-leb h (length text) h_le) in
      let few : n ≤ h = rw (given-all q) at most-count in
      let long : n ≤ length (tab h f ++ drop h text) = rw (length-append (tab h f) (drop h text), length-tab h f) (omega (arith, few)) in
      let start = (span_in m chars row).start in
      rw text-is
      (ext_get_or 0 (take n (tab h f ++ drop h text)) (take n (drop start chars)) (length-take-le n (tab h f ++ drop h text) long ∙ sym part-long)
      (λ i l. let k : i < n = rw (length-take-le n (tab h f ++ drop h text) long) at l in
      let s = run_at m chars row i k in
      get_or-take n (tab h f ++ drop h text) i 0 k ∙ get_or-append (tab h f) (drop h text) 0 i (rw (length-tab h f) s.0) ∙ get_or-tab h f i s.0
      ∙ ap (λ (x : ℕ). get_or chars x 0) s.1 ∙ sym (get_or-take n (drop start chars) i 0 k ∙ get_or-drop start chars i 0)))

  -- a row that is
  none : (xs : List ℕ) (why : Refusal) → run_check m (length chars) row ≡ Err why → take (length (run_of m chars row)) xs ≡ run_of m chars row
  unfolding run_of span_of
  none xs why z = rw z

  pub text-begins : {part text' : List ℕ} → part ≡ run_part numbers chars row → text' ≡ row_text numbers chars row text → take (length part) text' ≡ part
  unfolding run_part
  text-begins p q = rw (p, q) (go (numbers_refused numbers) refl (run_check m (length chars) row) refl)
    where
      go : (t : Bool) → numbers_refused numbers ≡ t → (r : Checked) → run_check m (length chars) row ≡ r
          → take (length (run_part numbers chars row)) (row_text numbers chars row text) ≡ run_part numbers chars row
      go true t r z = rw t
      go false t (Ok tt) z = rw (t, part-long) (shown z t)
      go false t (Err why) z = rw t (none (row_text numbers chars row text) why z)

-- ---- both calls

pub calls-agree : (numbers chars : List ℕ) (row : ℕ) {a : CellsAnswer} {r : RunAnswer} → a ≡ cells_for numbers chars row 256 → r ≡ run_for numbers chars row
    → ((eqb a.refusal r.refusal && eqb a.beside r.beside) && leb r.count a.count) ≡ true
unfolding cells_for run_for cells_given
calls-agree numbers chars row {a} {r} e q = go (numbers_refused numbers) refl
  where
    b : Board
    b = numbers_board numbers

    go : (t : Bool) → numbers_refused numbers ≡ t → ((eqb a.refusal r.refusal && eqb a.beside r.beside) && leb r.count a.count) ≡ true
    go true t = rw (e, q, t)
    go false t =
        let same : check_of (given (cells_check b (length chars) row 256) (fetched_of b.page chars row)) ≡ check_of (span_of b chars row) =
        check-given (cells_check b (length chars) row 256) _ ∙ cells-as-run b (length chars) row 256 (omega arith) ∙ sym (span-number b chars row) in
        rw (e, q, t, eq-eqb _ _ (ap number_of same), eq-eqb _ _ (ap beside_of same)) (le-leb _ _ (run-least b chars row 256 (omega arith)))
