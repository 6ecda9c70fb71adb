-- Pages that differ in IR2[7] and the two screen starts at most. Assumes nothing.
--     same-counts, same-buffer, ..   all else that their registers say is the same
--     same-accepted                  if one is accepted, so is the other, where the starts and the row table allow it
--     same-state                     a place that is in range for one is in range for the other
use Rattle.std.specs.Prelude.{ℕ, ◌*◌, ◌/◌, ◌%◌, ◌≤◌, ◌≡◌, ◌&&◌, ◌||◌, eqb, Err}
use Rattle.std.proofs.Math.Path.{refl, ap}
use Rattle.std.proofs.Math.Bool.{false, not}
use Rattle.std.proofs.Common.{arith}
use borrow.Author.Tests.{le-ltb}
use Rattle.std.proofs.Math.Dec.{ltb}
use Rattle.lists.specs.Choice.{neither}
use Rattle.refusal.specs.Number.{unrefused}
use Rattle.refusal.specs.declared.Refusal.TheVariants.{Address, Reserved}
use Rattle.refusal.specs.Laws.{passed}
use Rattle.raster.specs.declared.Counts.{Counts}
use Rattle.board.specs.declared.Page.{Page}
use Rattle.board.specs.declared.Board.{Board}
use Rattle.board.specs.Parts.{with_page}
use Rattle.board.specs.Layout.{layout_of}
use Rattle.board.specs.Modes.{has_modes, field_mode, chip_b}
use Rattle.board.specs.Range.{starts_refused, switches_refused, video_refused, address_refused}
use Rattle.timing.specs.Fields.{ir, coded_of, table_of, lines_of, hbp_of, blink_of, rows_of, hact_of, cursor_of, vsync_of, underline_of, buffer_of, ht_of, visible_of, vt_of, counts_of}
use Rattle.timing.specs.Check.{reserved_refused, back_porch_refused, line_short, front_porch_refused, missing, page_check, state_refused}

-- which these are: here alone it stands which registers agree
pub record Same (p q : Page) : Type 0 where
  pub modes : has_modes p.version ≡ has_modes q.version
  pub chip : chip_b p ≡ chip_b q
  pub irs : (layout_of p.version).irs ≡ (layout_of q.version).irs
  pub switches : p.switches ≡ q.switches
  pub dots : p.video.dots ≡ q.video.dots
  pub strike : p.video.strike ≡ q.video.strike
  pub cursor : p.starts.cursor ≡ q.starts.cursor
  pub others : (n : ℕ) → eqb n 2 ≡ false → ir p n ≡ ir q n
  pub low : ir p 2 % 128 ≡ ir q 2 % 128

module _ {p q : Page} (s : Same p q) where
  -- IR2's other codes
  pub same-hsync : ir p 2 / 8 % 16 ≡ ir q 2 / 8 % 16
  same-hsync = omega (arith, s.low)

  pub same-hbp : ir p 2 % 8 ≡ ir q 2 % 8
  same-hbp = omega (arith, s.low)

  pub same_coded : coded_of p ≡ coded_of q
  unfolding coded_of
  same_coded = simp s.others

  pub same-buffer : buffer_of p ≡ buffer_of q
  unfolding buffer_of
  same-buffer = simp s.others

  pub same-look : cursor_of p ≡ cursor_of q
  unfolding cursor_of
  same-look = simp s.others

  pub same-blink : blink_of p ≡ blink_of q
  unfolding blink_of
  same-blink = simp s.others

  pub same-underline : (underline_of p).0 ≡ (underline_of q).0
  same-underline = simp s.others

  pub same-counts : counts_of p ≡ counts_of q
  unfolding counts_of lines_of vsync_of
  same-counts = simp (s.others, same-hsync)

  -- the counts one by one
  pub same-hact : hact_of p ≡ hact_of q
  unfolding counts_of
  same-hact = ap (λ (g : Counts). g.hact.0) same-counts

  pub same_rows : rows_of p ≡ rows_of q
  unfolding counts_of
  same_rows = ap (λ (g : Counts). g.rows) same-counts

  pub same_lines : lines_of p ≡ lines_of q
  unfolding counts_of
  same_lines = ap (λ (g : Counts). g.lines.0) same-counts

  pub same-visible : (visible_of p).0 ≡ (visible_of q).0
  unfolding counts_of
  same-visible = ap (λ (g : Counts). g.rows * g.lines.0) same-counts

  pub same-ht : ht_of p ≡ ht_of q
  unfolding counts_of
  same-ht = ap (λ (g : Counts). g.ht.0) same-counts

  pub same-vt : vt_of p ≡ vt_of q
  unfolding counts_of
  same-vt = ap (λ (g : Counts). g.vt.0) same-counts

  pub same-mode : field_mode p ≡ field_mode q
  same-mode = rw (s.modes, s.switches)

  -- what a line's clocks are refused for
  pub same-porches : (back_porch_refused p ≡ back_porch_refused q) × (line_short p ≡ line_short q) × (front_porch_refused p ≡ front_porch_refused q) × (missing p ≡ missing q)
  unfolding hbp_of
  same-porches = (rw same-hbp, simp (s.others, same-hsync, same-hbp), simp (s.others, same-hsync, same-hbp), simp (s.others, same-hsync, same-hbp))

  pub same-accepted : page_check p ≡ unrefused → q.starts.start1 ≤ 16383 → q.starts.start2 ≤ 16383 → video_refused q.version q.video ≡ false
      → (coded_of q && not (table_of q)) ≡ false → page_check q ≡ unrefused
  unfolding page_check address_refused
  same-accepted ok h1 h2 video table =
      let address = passed (address_refused p) (Err Address) _ refl ok in
      let reserved = passed (reserved_refused p) (Err Reserved) _ refl address.1 in
      let switches = neither (starts_refused p.starts) (switches_refused p.version p.switches) (neither (starts_refused p.starts || switches_refused p.version p.switches) (video_refused p.version p.video) address.0).0 in
      let starts = neither (ltb 16383 p.starts.start1 || ltb 16383 p.starts.cursor) (ltb 16383 p.starts.start2) switches.0 in
      let cursor = (neither (ltb 16383 p.starts.start1) (ltb 16383 p.starts.cursor) starts.0).1 in
      let straight = (neither (eqb (ir p 1 / 128 % 2) 1) (coded_of p && not (table_of p)) reserved.0).0 in
      let address-too : address_refused q ≡ false =
      rw (le-ltb 16383 q.starts.start1 h1, le-ltb 16383 q.starts.start2 h2, ← s.cursor, cursor, ← s.modes, ← s.switches, switches.1, video) in
      let reserved-too : reserved_refused q ≡ false = rw (← (s.others 1 refl), straight, table) in
      rw (address-too, reserved-too) (rw (same-porches.0, same-porches.1, same-porches.2, same-porches.3, s.dots) at reserved.1)

-- an accepted page's video part
pub video-passed : (p : Page) → page_check p ≡ unrefused → video_refused p.version p.video ≡ false
unfolding page_check address_refused
video-passed p ok =
    (neither (starts_refused p.starts || switches_refused p.version p.switches) (video_refused p.version p.video) (passed (address_refused p) (Err Address) _ refl ok).0).1

pub same-state : (b : Board) (q : Page) → Same b.page q → state_refused b ≡ state_refused (with_page b q)
unfolding state_refused
same-state b q s = rw (same-vt s, same-ht s, s.irs)
