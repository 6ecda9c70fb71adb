-- Files from C: a page file that is read and written again is the same bytes; and a page file and a font file that are accepted give numbers, memories and font
-- parts of which a board is made and no step is refused, so that all that FromC promises holds of them. Assumes nothing.
use Rattle.std.specs.Prelude.{ℕ, ◌≤◌, ◌≡◌, Bool, List, ◌++◌, length, drop}
use Rattle.std.proofs.Common.{ap}
use Rattle.refusal.specs.Number.{unrefused, number_of}
use Rattle.refusal.specs.Laws.{zero-done}
use Rattle.board.specs.Layout.{file_size}
use Rattle.shape.specs.Font.{Font, font_of}
use Rattle.video.specs.At.{lent_check}
use Rattle.step.specs.Step.{step_check}
use Rattle.files.specs.Page.{version_in}
use Rattle.files.specs.File.{read_check, chars_read, attrs_read}
use Rattle.files.specs.FontFile.{group_count, font_short, font_check, font_read, file_font}
use Rattle.files.specs.Round.{Bytes}
use Rattle.numbers.specs.Numbers.{numbers_board, numbers_check}
use Rattle.numbers.specs.Files.{page_read_size, numbers_read, page_write_check, page_written}
use Rattle.feldrime.specs.declared.StepAnswer.{StepAnswer}
use Rattle.feldrime.specs.Answers.{answer_of}
use Rattle.feldrime.specs.Pages.{board_for, font_for}
use Rattle.agreement.specs.Files.{file-ok, again, chars-read-all, attrs-read-all, numbers-fine, numbers-are, font-fine, groups-fine}
use Rattle.agreement.specs.FromC.{step_c, fit-from-c, begins-from-c, steps-answer}

-- a page file that feldrime_page_read takes
module _ (file numbers chars attrs : List ℕ)
    (page-taken : (answer_of (read_check file (page_read_size (length numbers) (length chars) (length attrs)))).refusal ≡ 0) where
  abbrev size : Bool
  size = page_read_size (length numbers) (length chars) (length attrs)

  -- what the call leaves in the buffers
  abbrev numbers_c : List ℕ
  numbers_c = numbers_read file size numbers

  abbrev chars_c : List ℕ
  chars_c = chars_read file size chars

  abbrev attrs_c : List ℕ
  attrs_c = attrs_read file size attrs

  read_ok : read_check file size ≡ unrefused
  read_ok = zero-done (read_check file size) page-taken

  -- [demand round]
  -- given to feldrime_page_write, it answers 0 and the buffer begins with the file; bytes beyond stay
  pub page-same-from-c : Bytes file → (out : List ℕ) → file_size (version_in file) ≤ length out
      → ((answer_of (page_write_check numbers_c (length chars_c) (length attrs_c) (length out))).refusal ≡ 0)
      × (page_written numbers_c chars_c attrs_c out ≡ file ++ drop (file_size (version_in file)) out)
  unfolding page_write_check page_written
  page-same-from-c bytes out room =
      let same = again file bytes size read_ok chars attrs out room in
      rw (numbers-fine file size read_ok numbers, numbers-are file size read_ok numbers) (ap number_of same.0, same.1)

  accepted-check : numbers_check numbers_c ≡ unrefused
  unfolding numbers_check
  accepted-check = rw (numbers-fine file size read_ok numbers, numbers-are file size read_ok numbers) (file-ok file size read_ok).rest_ok

  -- and a font file that feldrime_font_read takes
  module _ (fontfile words flags unshifted shifted groups : List ℕ)
      (font-taken : (font_for fontfile (font_of words flags unshifted shifted groups)).refusal ≡ 0) where
    abbrev lent : Font
    lent = font_of words flags unshifted shifted groups

    -- what that call leaves in the font's parts, with as many groups as it answers
    abbrev font_c : Font
    font_c = file_font fontfile (font_read fontfile lent)

    -- what feldrime_step then answers at clock n
    abbrev pub answer_c : ℕ → StepAnswer
    answer_c = step_c numbers_c chars_c attrs_c font_c.words font_c.flags font_c.unshifted font_c.shifted font_c.groups

    font-done : font_check fontfile (font_short fontfile lent) ≡ unrefused
    font-done = zero-done (font_check fontfile (font_short fontfile lent)) font-taken

    -- which are those of the file's version
    pub groups-answered : (font_for fontfile lent).groups ≡ group_count (version_in fontfile)
    groups-answered = rw font-done

    lent-fine : lent_check chars_c attrs_c font_c ≡ unrefused
    lent-fine =
        rw (chars-read-all file size read_ok chars, attrs-read-all file size read_ok attrs, font-fine fontfile lent font-done) (groups-fine fontfile lent font-done)

    -- the hypothesis of the promises on `step`, `state_at` and `draw_line`
    pub accepted-fits : step_check (numbers_board numbers_c) chars_c attrs_c font_c ≡ unrefused
    accepted-fits = fit-from-c numbers_c chars_c attrs_c font_c.words font_c.flags font_c.unshifted font_c.shifted font_c.groups accepted-check lent-fine

    begun : ((board_for numbers_c).refusal ≡ 0) × ((answer_c 0).refusal ≡ 0)
    begun = begins-from-c numbers_c chars_c attrs_c font_c.words font_c.flags font_c.unshifted font_c.shifted font_c.groups accepted-check lent-fine

    -- feldrime_board_of answers 0, and so does every feldrime_step after it
    pub accepted-steps : ((board_for numbers_c).refusal ≡ 0) × ((n : ℕ) → (answer_c n).refusal ≡ 0)
    accepted-steps =
        (begun.0, steps-answer numbers_c chars_c attrs_c font_c.words font_c.flags font_c.unshifted font_c.shifted font_c.groups begun.0 begun.1)
