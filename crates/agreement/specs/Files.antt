-- Promise 2: a page file accepted and written again is the same bytes; likewise a font; and a board written and read again is that page at clock 0.
-- All of it speaks of the public calls that read and write. A file is a list of bytes. Assumes nothing.
use Rattle.std.specs.Prelude.{ℕ, ◌+◌, ◌*◌, ◌≤◌, ◌≡◌, Bool, ◌&&◌, ◌||◌, eqb, length, take, Ok}
use Rattle.std.proofs.Math.Path.{refl, ap}
use Rattle.std.proofs.Common.{sym, ◌∙◌, length-append, take_all, take_at, drop-drop}
use Rattle.std.proofs.Math.Bool.{true, false, not}
use mathlib.Core.List.{List, ◌++◌}
use native.Mathlib.Omega.{arith}
use borrow.Author.Tests.{eqb-true, eq-eqb, le-ltb, not-false}
use Rattle.std.proofs.Math.Dec.{ltb}
use Rattle.std.proofs.Math.ListN.{drop}
use Rattle.std.proofs.Math.Seq.{drop_at}
use Rattle.lists.specs.Choice.{pick, neither}
use Rattle.lists.specs.Tab.{length-tab}
use Rattle.refusal.specs.Number.{unrefused, value_or, wrong_size}
use Rattle.board.specs.declared.Page.{Page}
use Rattle.board.specs.declared.Board.{Board}
use Rattle.board.specs.State.{power_of, board_of}
use Rattle.board.specs.Layout.{newest_version, layout_of, length_field, chars_place, attrs_place, file_size}
use Rattle.board.specs.Range.{memories_refused}
use Rattle.board.specs.Laws.{layout-kept}
use Rattle.timing.specs.Check.{page_check, state_refused}
use Rattle.timing.specs.Laws.{range-ok, call_ok, call-page}
use Rattle.shape.specs.Font.{Font, font_refused, groups_check}
use Rattle.copies.specs.Put.{length_part}
use Rattle.files.specs.Page.{word_at, version_in, page_at, kept_page}
use Rattle.files.specs.File.{long_at, version_refused, length_refused, file_check, read_check, read_page_of, chars_read, attrs_read, head_of, file_of, write_check, written}
use Rattle.files.specs.FontFile.{font_length, font_size, file_groups, font_short, font_check, font_in, font_read, font_version, font_file_of, font_write_check, font_written, file_font}
use Rattle.files.specs.Laws.{version-known, file-sized, FilePassed, file-passed, head-all, write-passed}
use Rattle.files.specs.Round.{Bytes, page-again, page-kept, kept-check, written_known}
use Rattle.files.specs.FontLaws.{font-least}
use Rattle.files.specs.FontRound.{groups-own, groups-many, version-own, font-again}
use Rattle.numbers.specs.Numbers.{numbers_refused}
use Rattle.numbers.specs.Files.{numbers_read}
use Rattle.numbers.specs.Laws.{numbers-long, numbers-page}

-- an accepted file's length
length-is : (file : List ℕ) (n : ℕ) → length_refused file n ≡ false → long_at file 1 ≡ n
unfolding length_refused
length-is file n e = eqb-true _ _ (not-false _ (neither (not (eqb (length file) (n + 5))) (not (eqb (long_at file 1) n)) e).1)

pub zero_ok : (p : Page) → state_refused (board_of p) ≡ false
zero_ok p = range-ok (board_of p) (record { line-lt = omega arith; clock-lt = omega arith; beam-le = omega arith; row-le = omega arith; pointer-le = omega arith })

write-ok : (p : Page) (n : ℕ) → page_check p ≡ unrefused → file_size p.version ≤ n → write_check (board_of p) 16384 16384 n ≡ unrefused
unfolding write_check
write-ok p n ok l = call_ok (board_of p) (wrong_size (ltb n (file_size p.version))) (ap wrong_size (le-ltb n (file_size p.version) l)) ok (zero_ok p)

-- ---- a page file, read and written again

module _ (file : List ℕ) (size : Bool) (ok : read_check file size ≡ unrefused) where
  pub file-ok : FilePassed file newest_version (length_field (version_in file)) size (page_check (page_at file 5))
  unfolding read_check
  file-ok = file-passed file newest_version (length_field (version_in file)) size (page_check (page_at file 5)) ok

  file-length : length file ≡ file_size (version_in file)
  file-length = file-sized file (length_field (version_in file)) file-ok.length-ok

  -- the memories that it leaves have their size
  pub chars-read-all : (chars : List ℕ) → length (chars_read file size chars) ≡ 16384
  unfolding chars_read
  chars-read-all chars = rw ok (length_part file (chars_place (version_in file)) 16384 (omega (arith, file-length)))

  pub attrs-read-all : (attrs : List ℕ) → length (attrs_read file size attrs) ≡ 16384
  unfolding attrs_read
  attrs-read-all attrs = rw ok (length_part file (attrs_place (version_in file)) 16384 (omega (arith, file-length)))

  -- as C has them, the numbers are refused by nothing, and are the file's page
  pub numbers-fine : (numbers : List ℕ) → numbers_refused (numbers_read file size numbers) ≡ false
  unfolding numbers_read numbers_refused
  numbers-fine numbers = rw (ok, numbers-long file (omega (arith, file-length))) file-ok.version-ok

  pub numbers-are : (numbers : List ℕ) → page_at (numbers_read file size numbers) 1 ≡ page_at file 5
  unfolding numbers_read
  numbers-are numbers = rw ok (numbers-page file (omega (arith, file-length)))

module _ (file : List ℕ) (bytes : Bytes file) (size : Bool) (ok : read_check file size ≡ unrefused) where
  same_bytes : file_of (page_at file 5) (take 16384 (drop (chars_place (version_in file)) file)) (take 16384 (drop (attrs_place (version_in file)) file)) ≡ file
  same_bytes =
      let passed = file-ok file size ok in
      page-again file bytes (file-length file size ok) passed.version-ok (length-is file (length_field (version_in file)) passed.length-ok)

  pub again : (chars attrs out : List ℕ) → file_size (version_in file) ≤ length out
      → (write_check (board_of (page_at file 5)) (length (chars_read file size chars)) (length (attrs_read file size attrs)) (length out) ≡ unrefused)
      × (written (board_of (page_at file 5)) (chars_read file size chars) (attrs_read file size attrs) out ≡ file ++ drop (file_size (version_in file)) out)
  unfolding chars_read attrs_read written page_at
  again chars attrs out l = rw (chars-read-all file size ok chars, attrs-read-all file size ok attrs, fine, ok) (refl, rw same_bytes)
    where
      fine : write_check (board_of (page_at file 5)) 16384 16384 (length out) ≡ unrefused
      fine = write-ok (page_at file 5) (length out) (file-ok file size ok).rest_ok l

  -- [demand round] a page file accepted and written again is the same bytes
  -- the write answers 0, and out begins with the file
  pub page-same : (chars attrs out : List ℕ) → file_size (version_in file) ≤ length out
      → (write_check (value_or power_of (read_page_of file size)) (length (chars_read file size chars)) (length (attrs_read file size attrs)) (length out) ≡ unrefused)
      × (written (value_or power_of (read_page_of file size)) (chars_read file size chars) (attrs_read file size attrs) out ≡ file ++ drop (file_size (version_in file)) out)
  unfolding read_page_of
  page-same chars attrs out l = rw ok (again chars attrs out l)

-- ---- a board, written and read again

pub length-file : (p : Page) (chars attrs : List ℕ) → length p.irs ≡ 15 → length chars ≡ 16384 → length attrs ≡ 16384 → length (file_of p chars attrs) ≡ file_size p.version
unfolding file_of
length-file p chars attrs n c a = length-append (head_of p) (chars ++ attrs) ∙ rw (head-all p n, length-append chars attrs, c, a) (omega arith)

-- a board has fifteen IRs
module _ (b : Board) (irs-all : length b.page.irs ≡ 15) (chars attrs out : List ℕ)
    (ok : write_check b (length chars) (length attrs) (length out) ≡ unrefused) where
  memories : (length chars ≡ 16384) × (length attrs ≡ 16384)
  memories = ((write-passed b (length chars) (length attrs) (length out) ok).1, (write-passed b (length chars) (length attrs) (length out) ok).2)

  page-ok : page_check b.page ≡ unrefused
  unfolding write_check
  page-ok = call-page b (wrong_size (memories_refused (length chars) (length attrs) || ltb (length out) (file_size b.page.version))) false false ok

  pub file-is : take (file_size b.page.version) (written b chars attrs out) ≡ file_of b.page chars attrs
  unfolding written
  file-is = rw ok (take_at (file_of b.page chars attrs) (drop (file_size b.page.version) out) (file_size b.page.version) (length-file b.page chars attrs irs-all memories.0 memories.1))

  page-is : page_at (file_of b.page chars attrs) 5 ≡ kept_page b.page
  unfolding file_of head_of
  page-is = page-kept b.page (chars ++ attrs) irs-all (file_of b.page chars attrs) 5 refl refl

  version : version_refused (file_of b.page chars attrs) newest_version ≡ false
  unfolding file_of head_of
  version = written_known b.page

  -- the version that is written has the layout of the page's
  sized : layout_of (version_in (file_of b.page chars attrs)) ≡ layout_of b.page.version
  unfolding file_of head_of
  sized = layout-kept b.page

  long : long_at (file_of b.page chars attrs) 1 ≡ length_field b.page.version
  unfolding file_of head_of long_at word_at
  long = omega arith

  length-ok : length_refused (file_of b.page chars attrs) (length_field b.page.version) ≡ false
  unfolding length_refused
  length-ok = rw (eq-eqb _ _ (length-file b.page chars attrs irs-all memories.0 memories.1), eq-eqb _ _ long)

  read_ok : read_check (file_of b.page chars attrs) false ≡ unrefused
  unfolding read_check file_check
  read_ok = rw (sized, version, length-ok, page-is) (kept-check b.page ∙ page-ok)

  abbrev head : ℕ
  head = chars_place b.page.version

  chars-are : take 16384 (drop head (file_of b.page chars attrs)) ≡ chars
  unfolding file_of
  chars-are = rw (drop_at (head_of b.page) (chars ++ attrs) head (head-all b.page irs-all)) (take_at chars attrs 16384 memories.0)

  attrs-are : take 16384 (drop (head + 16384) (file_of b.page chars attrs)) ≡ attrs
  unfolding file_of
  attrs-are =
      let behind = drop_at (head_of b.page) (chars ++ attrs) head (head-all b.page irs-all) in
      rw (sym (drop-drop 16384 head (head_of b.page ++ (chars ++ attrs))), behind, drop_at chars attrs 16384 memories.0)
      (take_all 16384 attrs (omega (arith, memories.1)))

  -- [demand round]
  -- the file is read as that page at clock 0, its version as it counts, and its memories are those that were written
  pub board-same : (c a file : List ℕ) → file ≡ take (file_size b.page.version) (written b chars attrs out)
      → (read_page_of file false ≡ Ok (board_of (kept_page b.page))) × (chars_read file false c ≡ chars) × (attrs_read file false a ≡ attrs)
  unfolding read_page_of chars_read attrs_read
  board-same c a file e = rw (e ∙ file-is, read_ok) (rw page-is, rw sized chars-are, rw sized attrs-are)

-- ---- a font file, read and written again

module _ (file : List ℕ) (f : Font) (ok : font_check file (font_short file f) ≡ unrefused) where
  font-ok : FilePassed file 2 (font_length (version_in file)) (font_short file f) (groups_check (file_groups file))
  unfolding font_check
  font-ok = file-passed file 2 (font_length (version_in file)) (font_short file f) (groups_check (file_groups file)) ok

  font-length : length file ≡ font_size (version_in file)
  font-length = file-sized file (font_length (version_in file)) font-ok.length-ok

  -- the font that it leaves, with as many groups as the file has
  abbrev own : Font
  own = file_font file (font_read file f)

  own_is : own ≡ file_font file (font_in file f.groups)
  unfolding font_read
  own_is = rw ok

  parts-fine : font_refused (file_font file (font_in file f.groups)) ≡ false
  unfolding font_in
  parts-fine =
      let long = font-least file font-length in
      let words = length-tab 1152 (λ (i : ℕ). word_at (take 2304 (drop 5 file)) (2 * i)) in
      let flags = length_part file 2309 128 (omega (arith, long)) in
      let unshifted = length_part file 2437 9 (omega (arith, long)) in
      let shifted = length_part file 2446 9 (omega (arith, long)) in
      rw (words, flags, unshifted, shifted, groups-own file font-length f.groups, groups-many file font-length) (go (eqb (version_in file) 2))
    where
      go : (t : Bool) → (not (eqb (pick t 16 0) 0) && not (eqb (pick t 16 0) 16)) ≡ false
      go true = refl
      go false = refl

  -- it is whole, and no group is refused
  pub font-fine : font_refused own ≡ false
  font-fine = ap font_refused own_is ∙ parts-fine

  pub groups-fine : groups_check own.groups ≡ unrefused
  groups-fine = ap (λ (x : Font). groups_check x.groups) own_is ∙ ap groups_check (groups-own file font-length f.groups) ∙ font-ok.rest_ok

  -- its version is the file's
  pub version-kept : font_version own ≡ version_in file
  version-kept =
      let k = version-known file 2 font-ok.version-ok in
      ap font_version own_is ∙ rw (groups-own file font-length f.groups) (version-own file font-length k.0 k.1)

  -- [demand round] [R-7 font]
  -- the write answers 0, and out begins with the file
  pub font-same : Bytes file → (out : List ℕ) → font_size (version_in file) ≤ length out
      → (font_write_check own (length out) ≡ unrefused) × (font_written own out ≡ file ++ drop (font_size (version_in file)) out)
  unfolding font_write_check font_written
  font-same bytes out l =
      rw (version-kept, font-fine, le-ltb (length out) (font_size (version_in file)) l, groups-fine) (
        refl,
        ap (λ (x : List ℕ). x ++ drop (font_size (version_in file)) out)
            (ap font_file_of own_is ∙ font-again file bytes font-length font-ok.version-ok (length-is file (font_length (version_in file)) font-ok.length-ok) f.groups),
      )
