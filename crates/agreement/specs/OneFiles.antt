-- No second answer meets the contract of a public function of `copies`, `files`, `numbers` or `listing`: it names its answer, so each of these is `only`.
use Rattle.std.specs.Prelude.{ℕ, ◌≡◌, Bool, List, Result}
use Rattle.lists.specs.Answer.{OneAnswer, only, only-both, only-three, only-four}
use Rattle.refusal.specs.declared.Refusal.{Refusal}
use Rattle.refusal.specs.Number.{Checked}
use Rattle.board.specs.declared.Page.{Page}
use Rattle.board.specs.declared.Board.{Board}
use Rattle.board.specs.Layout.{chars_place, file_size}
use Rattle.shape.specs.Font.{Font}
use Rattle.copies.specs.Put.{put_at, taken_from}
use Rattle.files.specs.File.{version_refused, read_check, ReadsPage, WritesPage}
use Rattle.files.specs.FontFile.{group_count, ReadsFont, WritesFont}
use Rattle.files.specs.Page.{version_in, page_at, board_at, page_bytes}
use Rattle.numbers.specs.Numbers.{numbers_refused, numbers_check, page_or_own, GivesNumbers}
use Rattle.numbers.specs.Files.{ReadsFile, WritesFile}
use Rattle.listing.specs.Listing.{ListsHead, ListsLine}

-- ---- `copies`

-- the buffer
pub take-from-one : (src : List ℕ) (at : ℕ) (dst : List ℕ) → OneAnswer (λ r. r ≡ taken_from at src dst)
take-from-one src at dst = only _

pub put_one : (src : List ℕ) (at : ℕ) (out : List ℕ) → OneAnswer (λ r. r ≡ put_at at src out)
put_one src at out = only _

-- ---- `files`

-- the answer and both memories
pub read-page-one : (file chars attrs : List ℕ) → OneAnswer (λ (r : Result Board Refusal × List ℕ × List ℕ). ReadsPage file chars attrs r.0 r.1 r.2)
read-page-one file chars attrs = only-three _ _ _

pub write-page-one : (b : Board) (chars attrs out : List ℕ) → OneAnswer (λ (r : Checked × List ℕ). WritesPage b chars attrs out r.0 r.1)
write-page-one b chars attrs out = only-both _ _

-- the refusal and the five parts
pub read-font-one : (file : List ℕ) (f : Font) → OneAnswer (λ (r : Checked × Font). ReadsFont file f r.0 r.1)
read-font-one file f = only-both _ _

pub write-font-one : (f : Font) (out : List ℕ) → OneAnswer (λ (r : Checked × List ℕ). WritesFont f out r.0 r.1)
write-font-one f out = only-both _ _

pub groups-in-one : (file : List ℕ) → OneAnswer (λ r. r ≡ group_count (version_in file))
groups-in-one file = only _

pub file-size-one : (version : ℕ) → OneAnswer (λ r. r ≡ file_size version)
file-size-one version = only _

pub version-refused-one : (file : List ℕ) (newest : ℕ) → OneAnswer (λ r. r ≡ version_refused file newest)
version-refused-one file newest = only _

pub read-check-one : (file : List ℕ) (size : Bool) → OneAnswer (λ r. r ≡ read_check file size)
read-check-one file size = only _

pub page-at-one : (bytes : List ℕ) (at : ℕ) → OneAnswer (λ r. r ≡ page_at bytes at)
page-at-one bytes at = only _

pub board-at-one : (bytes : List ℕ) (at : ℕ) → OneAnswer (λ r. r ≡ board_at bytes at)
board-at-one bytes at = only _

pub chars-place-one : (version : ℕ) → OneAnswer (λ r. r ≡ chars_place version)
chars-place-one version = only _

-- the buffer
pub put-bytes-one : (p : Page) (at : ℕ) (out : List ℕ) → OneAnswer (λ r. r ≡ put_at at (page_bytes p) out)
put-bytes-one p at out = only _

-- ---- `numbers`

pub numbers-refused-one : (numbers : List ℕ) → OneAnswer (λ r. r ≡ numbers_refused numbers)
numbers-refused-one numbers = only _

pub numbers-check-one : (numbers : List ℕ) → OneAnswer (λ r. r ≡ numbers_check numbers)
numbers-check-one numbers = only _

-- the refusal, the numbers and both memories
pub read-file-one : (file numbers chars attrs : List ℕ) → OneAnswer (λ (r : Checked × List ℕ × List ℕ × List ℕ). ReadsFile file numbers chars attrs r.0 r.1 r.2 r.3)
read-file-one file numbers chars attrs = only-four _ _ _ _

pub write-file-one : (numbers chars attrs out : List ℕ) → OneAnswer (λ (r : Checked × List ℕ). WritesFile numbers chars attrs out r.0 r.1)
write-file-one numbers chars attrs out = only-both _ _

-- the numbers
pub put-page-one : (moved : Result Board Refusal) (numbers : List ℕ) → OneAnswer (λ r. r ≡ page_or_own moved numbers)
put-page-one moved numbers = only _

-- the refusal and the numbers
pub numbers-of-one : (b : Board) (numbers : List ℕ) → OneAnswer (λ (r : Checked × List ℕ). GivesNumbers b numbers r.0 r.1)
numbers-of-one b numbers = only-both _ _

-- ---- `listing`

-- the answer and the buffer
pub listing-head-one : (p : Page) (out : List ℕ) → OneAnswer (λ (r : Result ℕ Refusal × List ℕ). ListsHead p out r.0 r.1)
listing-head-one p out = only-both _ _

pub listing-line-one : (b : Board) (chars attrs : List ℕ) (f : Font) (line field : ℕ) (out : List ℕ) → OneAnswer (λ (r : Result ℕ Refusal × List ℕ). ListsLine b chars attrs f line field out r.0 r.1)
listing-line-one b chars attrs f line field out = only-both _ _
