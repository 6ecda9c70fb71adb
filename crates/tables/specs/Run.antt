-- The cells of one run are found without the buffer's ends, as in a buffer that is the whole memory. Assumes nothing.
use Rattle.std.specs.Prelude.{ℕ, ◌+◌, ◌≤◌, ◌<◌, ◌≡◌, true, List}
use Rattle.std.proofs.Common.{sym, ◌∙◌, arith}
use Rattle.std.proofs.Math.Path.{ap, ap₂}
use Rattle.lists.specs.Tab.{tab, same-tab}
use Rattle.raster.specs.declared.Buffer.{Buffer}
use Rattle.raster.specs.Moves.{advance_by, to_last, by_near}
use Rattle.raster.specs.Latch.{sets_of, same-last}
use Rattle.fetch.specs.Run.{one_run, run_fits, run_at}
use Rattle.video.specs.declared.Reading.{Reading}
use Rattle.video.specs.At.{fetched_content}
use Rattle.tables.specs.Tables.{number_for, held_by, cell_by}

abbrev pub whole : Buffer
whole = record { first = 0; last = 16383 }

pub whole-at : (a i : ℕ) → a + i < 16384 → advance_by whole i a ≡ a + i
unfolding to_last
whole-at a i h = by_near whole i a (omega arith) ∙ omega arith

module _ (k : Reading) (chars attrs : List ℕ) (buffer : Buffer) (held start n : ℕ) (e : one_run buffer start n ≡ true) where
  same_at : (i : ℕ) → i < n → advance_by whole i start ≡ advance_by buffer i start
  same_at i l = whole-at start i (omega (arith, run_fits buffer start n e)) ∙ sym (run_at buffer start n e i l)

  pub run-held : (c : ℕ) → c ≤ n → held_by k.runs attrs whole held start c ≡ held_by k.runs attrs buffer held start c
  unfolding held_by
  run-held c l = same-last _ _ held c (λ i m. ap (sets_of k.runs attrs) (same_at i (omega arith)))

  pub run-cells : tab n (cell_by k chars attrs whole held start) ≡ tab n (cell_by k chars attrs buffer held start)
  unfolding cell_by
  run-cells = same-tab n _ _ (λ i l. ap₂ (λ (v a : ℕ). number_for k (fetched_content k chars attrs v a)) (run-held i (omega arith)) (same_at i l))
