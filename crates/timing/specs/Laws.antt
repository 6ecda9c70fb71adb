-- What callers use of the definitions: bounds that hold of any registers, and what an accepted page gives. Assumes nothing.
use Rattle.std.specs.Prelude.{ℕ, ◌*◌, ◌/◌, ◌%◌, ◌≤◌, ◌<◌, ◌≡◌, refl, Bool, true, false, not, ◌&&◌, ◌||◌, eqb, ltb, leb, is_ok, Err}
use Rattle.std.proofs.Common.{true≢false, mul-le-mul, div-lt_iff_lt-mul, arith, ltb-false, leb-false, le-ltb}
use Rattle.std.proofs.lemmas.Bool.{eqb-false, lt-leb}
use Rattle.lists.specs.Choice.{neither, pick-le}
use Rattle.units.specs.Units.{clocks_of}
use Rattle.refusal.specs.declared.Refusal.TheVariants.{Reserved, BackPorch, LineShort, FrontPorch, Width, Range, Room, Address}
use Rattle.refusal.specs.Number.{Checked, unrefused, check_of}
use Rattle.refusal.specs.Laws.{done-is, check-given, passed, not-refused}
use Rattle.raster.specs.Moves.{Bounded}
use Rattle.raster.specs.Raster.{Good}
use Rattle.board.specs.declared.Page.{Page}
use Rattle.board.specs.declared.Board.{Board}
use Rattle.board.specs.Layout.{last_ir}
use Rattle.board.specs.Range.{starts_refused, switches_refused, video_refused, address_refused, cells_refused, pointer_refused}
use Rattle.timing.specs.Fields.{ir, coded_of, scans_of, lines_of, table_of, hbp_of, blink_of, rows_of, hact_of, cursor_of, ht_of, hfp_of, vsync_by, vsync_of, visible_of, vt_of, buffer_of, counts_of}
use Rattle.timing.specs.Check.{reserved_refused, back_porch_refused, line_short, front_porch_refused, missing, width_refused, page_check, size_of, state_refused, call_check}

-- ---- any registers

pub lines-some : (p : Page) → 0 < lines_of p
unfolding lines_of
lines-some p = omega arith

pub lines-le : (p : Page) → lines_of p ≤ 16
unfolding lines_of
lines-le p = omega arith

pub scans-le : (p : Page) → scans_of p ≤ 16
scans-le p = omega arith

-- every line of a row has a scan line of its own
pub lines-scans : (p : Page) → lines_of p ≡ scans_of p
unfolding lines_of
lines-scans p = refl

pub rows-le : (p : Page) → rows_of p ≤ 128
rows-le p = omega arith

pub hact-le : (p : Page) → hact_of p ≤ 256
hact-le p = omega arith

pub hbp-le : (p : Page) → hbp_of p ≤ 27
unfolding hbp_of
hbp-le p = omega arith

-- a blink's and a blinking cursor's fields
pub blink-range : (p : Page) → (0 < blink_of p) × (blink_of p ≤ 128)
unfolding blink_of
blink-range p = (omega arith, omega arith)

pub period-some : (p : Page) → 0 < (cursor_of p).period
unfolding cursor_of
period-some p = omega arith

pub visible-bound : (p : Page) → rows_of p * lines_of p ≤ 2048
visible-bound p = mul-le-mul (rows-le p) (lines-le p)

-- a visible line's row
pub row-shown : (p : Page) (line : ℕ) → line < (visible_of p).0 → line / lines_of p < rows_of p
row-shown p line h = (div-lt_iff_lt-mul (lines-some p)).1 h

pub vsync-bound : (p : Page) → vsync_of p ≤ 7
unfolding vsync_of
vsync-bound p = go (ir p 7 / 64 % 4)
  where
    go : (n : ℕ) → vsync_by n ≤ 7
    go n =
        pick-le 7 (eqb n 0) 3 _ (omega arith)
        (pick-le 7 (eqb n 1) 1 _ (omega arith) (pick-le 7 (eqb n 2) 5 7 (omega arith) (omega arith)))

-- [clock bounds] HT is at most 384, a frame at most 826,752 clocks
-- a line has at most 384 clocks
pub ht-bound : (p : Page) → ht_of p ≤ 384
ht-bound p = omega arith

pub vt-bound : (p : Page) → vt_of p ≤ 2153
vt-bound p = omega (arith, visible-bound p, vsync-bound p)

-- [clock bounds]
-- a frame has at most 826,752 clocks
pub frame_bound : (p : Page) → (clocks_of (counts_of p).vt (counts_of p).ht).0 ≤ 826752
unfolding counts_of
frame_bound p = mul-le-mul (vt-bound p) (ht-bound p)

pub buffer-bounded : (p : Page) → Bounded (buffer_of p)
unfolding buffer_of
buffer-bounded p = record { first-lt = omega arith; last-lt = omega arith }

-- ---- an accepted page

pub record Accepted (p : Page) : Type 0 where
  pub start1 : p.starts.start1 ≤ 16383
  pub cursor : p.starts.cursor ≤ 16383
  pub start2 : p.starts.start2 ≤ 16383
  pub switches : p.switches ≤ 63
  pub strike : p.video.strike ≤ 15
  pub straight : ir p 1 / 128 % 2 ≡ 1 → ⊥
  pub coded : table_of p ≡ false → coded_of p ≡ false
  pub hbp : ir p 2 % 8 ≡ 0 → ⊥
  pub hfp : 2 ≤ hfp_of p
  pub least : 6 ≤ p.video.dots.0
  pub most : p.video.dots.0 ≤ 12

no_code : (c t : Bool) → (c && not t) ≡ false → t ≡ false → c ≡ false
no_code c true e off = absurd (true≢false off)
no_code true false e off = e
no_code false false e off = refl

pub accepted : (p : Page) → page_check p ≡ unrefused → Accepted p
unfolding page_check address_refused
accepted p e =
    let s = p.starts in
    let d = p.video.dots.0 in
    let a = passed (address_refused p) (Err Address) _ refl e in
    let b = passed (reserved_refused p) (Err Reserved) _ refl a.1 in
    let c = passed (back_porch_refused p) (Err BackPorch) _ refl b.1 in
    let l = passed (line_short p) (Err (LineShort (missing p))) _ refl c.1 in
    let f = passed (front_porch_refused p) (Err (FrontPorch (missing p))) _ refl l.1 in
    let w = passed (width_refused p.video.dots) (Err Width) _ refl f.1 in
    let known = switches_refused p.version p.switches in
    let a4 = neither (starts_refused s || known) (video_refused p.version p.video) a.0 in
    let a3 = neither (starts_refused s) known a4.0 in
    let a2 = neither (ltb 16383 s.start1 || ltb 16383 s.cursor) (ltb 16383 s.start2) a3.0 in
    let a1 = neither (ltb 16383 s.start1) (ltb 16383 s.cursor) a2.0 in
    let b1 = neither (eqb (ir p 1 / 128 % 2) 1) (coded_of p && not (table_of p)) b.0 in
    let w1 = neither (ltb d 6) (ltb 12 d) w.0 in
    record {
      start1 = ltb-false _ _ a1.0;
      cursor = ltb-false _ _ a1.1;
      start2 = ltb-false _ _ a2.1;
      switches = ltb-false _ _ (neither (ltb 63 p.switches) _ a3.1).0;
      strike = ltb-false _ _ (neither (ltb 15 p.video.strike) _ a4.1).0;
      straight = eqb-false _ _ b1.0;
      coded = λ off. no_code (coded_of p) (table_of p) b1.1 off;
      hbp = eqb-false _ _ c.0;
      hfp = ltb-false _ _ f.0;
      least = ltb-false _ _ w1.0;
      most = ltb-false _ _ w1.1;
    }

-- the counts of an accepted page are good for the beam
pub accepted-good : (p : Page) → Accepted p → Good (counts_of p)
unfolding counts_of
accepted-good p a =
    record {
      ht-le = ht-bound p;
      hact-some = omega arith;
      hact-lt = omega (arith, a.hfp);
      lines-some = lines-some p;
      lines-le = omega (arith, lines-le p);
      rows-some = omega arith;
      porch = omega arith;
      vt-le = omega (arith, vt-bound p);
    }

-- its line has few enough dots
pub dots-bound : (p : Page) → Accepted p → hact_of p * p.video.dots.0 ≤ 3072
dots-bound p a =
    mul-le-mul (hact-le p) a.most

-- ---- a call that is not refused

pub record InRange (b : Board) : Type 0 where
  pub line-lt : b.place.line.0 < vt_of b.page
  pub clock-lt : b.place.clock.0 < ht_of b.page
  pub beam-le : b.place.beam.address ≤ 16383
  pub row-le : b.place.row.address ≤ 16383
  pub pointer-le : b.pointer ≤ last_ir b.page.version

pub in-range : (b : Board) → state_refused b ≡ false → InRange b
unfolding state_refused
in-range b e =
    let l = leb (vt_of b.page) b.place.line.0 in
    let k = leb (ht_of b.page) b.place.clock.0 in
    let d = neither (l || k || cells_refused b.place) (pointer_refused b.page b.pointer) e in
    let c = neither (l || k) (cells_refused b.place) d.0 in
    let a = neither l k c.0 in
    let n = neither (ltb 16383 b.place.beam.address) (ltb 16383 b.place.row.address) c.1 in
    record {
      line-lt = leb-false _ _ a.0;
      clock-lt = leb-false _ _ a.1;
      beam-le = ltb-false _ _ n.0;
      row-le = ltb-false _ _ n.1;
      pointer-le = ltb-false _ _ d.1;
    }

pub record Passed (b : Board) (lent : Checked) (asked room : Bool) : Type 0 where
  pub lent-fine : lent ≡ unrefused
  pub page : Accepted b.page
  pub state : InRange b
  pub in_reach : asked ≡ false
  pub roomy : room ≡ false

pub call-passed : (b : Board) (lent : Checked) (asked room : Bool) → call_check b lent asked room ≡ unrefused → Passed b lent asked room
unfolding call_check
call-passed b lent asked room e =
    let s = not-refused lent _ e in
    let p = not-refused (page_check b.page) _ s.1 in
    let r = passed (state_refused b || asked) (Err Range) _ refl p.1 in
    let o = passed room (Err Room) _ refl r.1 in
    let q = neither (state_refused b) asked r.0 in
    record {
      lent-fine = s.0;
      page = accepted b.page p.0;
      state = in-range b q.0;
      in_reach = q.1;
      roomy = o.0;
    }

pub call-page : (b : Board) (lent : Checked) (asked room : Bool) → call_check b lent asked room ≡ unrefused → page_check b.page ≡ unrefused
unfolding call_check
call-page b lent asked room e = (not-refused (page_check b.page) _ (not-refused lent _ e).1).0

-- ---- what is in range and accepted is not refused

pub range-ok : (b : Board) → InRange b → state_refused b ≡ false
unfolding state_refused
range-ok b i =
    let line = lt-leb (vt_of b.page) b.place.line.0 i.line-lt in
    let clock = lt-leb (ht_of b.page) b.place.clock.0 i.clock-lt in
    let beam = le-ltb 16383 b.place.beam.address i.beam-le in
    let row = le-ltb 16383 b.place.row.address i.row-le in
    rw (line, clock, beam, row, le-ltb (last_ir b.page.version) b.pointer i.pointer-le)

pub call_ok : (b : Board) (lent : Checked) → lent ≡ unrefused → page_check b.page ≡ unrefused → state_refused b ≡ false → call_check b lent false false ≡ unrefused
unfolding call_check
call_ok b lent s p r = rw (s, p, r)

-- the refusal of the size is the page's own
pub size-refusal : (p : Page) → check_of (size_of p) ≡ page_check p
unfolding size_of
size-refusal p = check-given (page_check p) _

-- what is asked for and the room count only where the page is accepted
pub asked-last : (b : Board) (lent : Checked) (a r a' r' : Bool) → (page_check b.page ≡ unrefused → (a ≡ a') × (r ≡ r'))
    → call_check b lent a r ≡ call_check b lent a' r'
unfolding call_check
asked-last b lent a r a' r' h = go (is_ok (page_check b.page)) refl
  where
    go : (d : Bool) → is_ok (page_check b.page) ≡ d → call_check b lent a r ≡ call_check b lent a' r'
    go true e = rw ((h (done-is _ e)).0, (h (done-is _ e)).1)
    go false e = rw e
