-- What the beam is fed from: an accepted page's counts, and the entries of its row table, are good for the raster. Assumes nothing.
--     start-fed, cell-fed   a row's start and its cells are the raster's
use Rattle.std.specs.Prelude.{ℕ, ◌<◌, ◌≡◌, refl, false, List}
use Rattle.std.proofs.Common.{arith}
use Rattle.raster.specs.Cells.{Feed, Tally, Fed, Tallied, start_of, cell_of, moves_by, tally_by, by-code-tallied}
use Rattle.board.specs.declared.Page.{Page}
use Rattle.timing.specs.Fields.{coded_of, buffer_of, table_of, counts_of}
use Rattle.timing.specs.Laws.{Accepted, accepted-good, buffer-bounded}
use Rattle.fetch.specs.Rows.{entry_of, code_at, row_start, fetch_at, fetched_of, moved_of, cell_at}

-- the buffer, screen start 1, the table switch and the table's entries; the address moves on by the rows' codes
abbrev pub feed_of : Page → (entry code : ℕ → ℕ) → Feed
feed_of p entry code = record {
  buffer = buffer_of p;
  start1 = p.starts.start1;
  table = table_of p;
  entry = entry;
  moves = moves_by (counts_of p) code;
}

abbrev pub feed_in : Page → List ℕ → Feed
feed_in p chars = feed_of p (entry_of p chars) (code_at p chars)

abbrev pub tally_in : Page → List ℕ → Tally
tally_in p chars = tally_by (counts_of p) (code_at p chars)

pub start-fed : (p : Page) (chars : List ℕ) (r : ℕ) → row_start p chars r ≡ start_of (feed_in p chars) (tally_in p chars) r
unfolding row_start start_of counts_of
start-fed p chars r = refl

pub cell-fed : (p : Page) (chars : List ℕ) (r c : ℕ) → cell_at p chars r c ≡ cell_of (feed_in p chars) (tally_in p chars) r c
unfolding cell_at fetch_at moved_of fetched_of row_start cell_of start_of counts_of
cell-fed p chars r c = refl

module _ (p : Page) (entry code : ℕ → ℕ) (a : Accepted p) where
  pub accepted-fed : ((r : ℕ) → entry r < 16384) → Fed (feed_of p entry code)
  accepted-fed h = record { bounded = buffer-bounded p; start1-lt = omega (arith, a.start1); entry_lt = h }

  pub accepted-tallied : (coded_of p ≡ false → (r : ℕ) → code r ≡ 0) → Tallied (counts_of p) (feed_of p entry code) (tally_by (counts_of p) code)
  accepted-tallied plain = by-code-tallied (counts_of p) (feed_of p entry code) code (accepted-good p a) refl (λ off. plain (a.coded off))
