-- 01, "Files": what a page file holds before its character memory.
use Rattle.std.specs.Prelude.{ℕ, ◌+◌, ◌-◌, ◌*◌, ◌/◌, ◌%◌, List, [], ◌∷◌, ◌++◌, get_or, take, drop, replicate, eqb}
use Rattle.lists.specs.Choice.{pick}
use Rattle.units.specs.Units.{dots}
use Rattle.board.specs.declared.Starts.{Starts}
use Rattle.board.specs.declared.Video.{Video}
use Rattle.board.specs.declared.Page.{Page}
use Rattle.board.specs.declared.Board.{Board}
use Rattle.board.specs.State.{board_of}
use Rattle.board.specs.Layout.{layout_of}
use Rattle.board.specs.Parts.{with_version, with_video}
use Rattle.board.specs.Modes.{version_of}

-- two bytes big-endian: the high byte first
unfoldable pub word_at : List ℕ → ℕ → ℕ
word_at bytes i = get_or bytes i 0 * 256 + get_or bytes (i + 1) 0

-- screen start 1, cursor, screen start 2
abbrev pub starts_at : List ℕ → ℕ → Starts
starts_at bytes at = record { start1 = word_at bytes at; cursor = word_at bytes (at + 2); start2 = word_at bytes (at + 4) }

abbrev pub video_of : (n strike chip : ℕ) → Video
video_of n strike chip = record { dots = dots n; strike = strike; chip = chip }

-- the version byte stands first, and says how many IRs there are
abbrev pub version_in : List ℕ → ℕ
version_in bytes = get_or bytes 0 0

abbrev pub irs_in : List ℕ → ℕ
irs_in bytes = (layout_of (version_in bytes)).irs

-- n IRs from a place on, and zeros for those of the record's fifteen that are left
abbrev pub irs_at : (n : ℕ) → List ℕ → ℕ → List ℕ
irs_at n bytes at = take n (drop at bytes) ++ replicate (15 - n) 0

-- the chip stands last, in version 3 alone
abbrev pub chip_at : (version : ℕ) → List ℕ → ℕ → ℕ
chip_at version bytes at = pick (eqb version 3) (get_or bytes at 0) 0

-- [file page] the page file, byte by byte; a page read gives an active board at clock 0, pointer at IR0
-- from a place on the IRs, the three addresses, switches, dots, strike line, chip
unfoldable pub page_at : List ℕ → ℕ → Page
page_at bytes at = record {
  version = version_in bytes;
  irs = irs_at (irs_in bytes) bytes at;
  starts = starts_at bytes (at + irs_in bytes);
  switches = get_or bytes (at + irs_in bytes + 6) 0;
  video =
      video_of (get_or bytes (at + irs_in bytes + 7) 0) (get_or bytes (at + irs_in bytes + 8) 0)
      (chip_at (version_in bytes) bytes (at + irs_in bytes + 9));
}

-- [file page]
-- a page read gives an active board at clock 0
abbrev pub board_at : List ℕ → ℕ → Board
board_at bytes at = board_of (page_at bytes at)

-- ---- writing

-- two bytes big-endian, and four
abbrev pub bytes_of : ℕ → List ℕ
bytes_of x = (x / 256) ∷ (x % 256) ∷ []

abbrev pub long_bytes : ℕ → List ℕ
long_bytes x = bytes_of (x / 65536) ++ bytes_of (x % 65536)

-- what stands behind the IRs: the three addresses, switches, dots, strike line, chip
unfoldable pub tail_of : Page → List ℕ
tail_of p =
    bytes_of p.starts.start1
    ++ (bytes_of p.starts.cursor
    ++ (bytes_of p.starts.start2
    ++ (p.switches ∷ p.video.dots.0 ∷ p.video.strike ∷ p.video.chip ∷ [])))

-- [file page]
-- the page as it is written, but for its version: as much of it as the version has
abbrev pub page_bytes : Page → List ℕ
page_bytes p = take (layout_of p.version).irs p.irs ++ take (layout_of p.version).rest (tail_of p)

-- the page that is kept: a version that is not known is written as 1, and a chip only in version 3
abbrev pub kept_video : Page → Video
kept_video p = video_of p.video.dots.0 p.video.strike (pick (eqb p.version 3) p.video.chip 0)

abbrev pub kept_page : Page → Page
kept_page p = with_video (with_version p (version_of p)) (kept_video p)
