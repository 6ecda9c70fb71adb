-- Two boards that fetch the same bytes (`Views.antt`): every step from clock 0 has the same signals, address and dots, and the page may be changed between two steps. Assumes nothing.
use Rattle.std.specs.Prelude.{ℕ, ◌/◌, ◌<◌, ◌≡◌, Bool}
use Rattle.std.proofs.Math.Path.{refl, sym, ap, ap₂}
use Rattle.std.proofs.Common.{◌∙◌, arith}
use Rattle.std.proofs.Math.Bool.{true, false}
use Rattle.std.proofs.Math.Decide.{dec_lt}
use borrow.Author.Tests.{ltb-true}
use Rattle.lists.specs.Choice.{both}
use Rattle.refusal.specs.Number.{unrefused}
use Rattle.raster.specs.declared.Row.{Row}
use Rattle.raster.specs.Beams.{row}
use Rattle.board.specs.declared.Page.{Page}
use Rattle.board.specs.declared.Place.{Place}
use Rattle.board.specs.declared.Board.{Board}
use Rattle.board.specs.Parts.{with_place, with_page}
use Rattle.timing.specs.Fields.{lines_of, hbp_of, vsync_of, visible_of}
use Rattle.timing.specs.Laws.{Accepted, row-shown}
use Rattle.fetch.specs.Rows.{code_at, cell_at}
use Rattle.latch.specs.Held.{held_at}
use Rattle.shape.specs.Font.{Font}
use Rattle.video.specs.Scene.{scene_of}
use Rattle.place.specs.Place.{active_at, loaded_in, clock_in, line_in, place_at}
use Rattle.place.specs.Beam.{raster_of}
use Rattle.place.specs.Walk.{beam-at, beam-past}
use Rattle.step.specs.declared.Stepped.{Stepped}
use Rattle.step.specs.Signals.{scan_in, signals_of, valid_in, clock_dots}
use Rattle.step.specs.Step.{stepped_of, step_check, step_of}
use Rattle.step.specs.After.{after, fits, step_is, steps-are}
use Rattle.alike.specs.Pages.{same-hsync, same-hbp, same-blink, same-hact, same_lines, same-visible, same-ht, same-vt, same-mode}
use Rattle.alike.specs.Views.{View, view_of, page_of, SameBytes, Alike, same-cell, same-held, alike-place}
use Rattle.alike.specs.Drawn.{same-scene, same-dots, same_power}

-- the board after k steps from clock 0, and the step there
abbrev pub after_on : View → Font → ℕ → Board
after_on v f k = after v.board v.chars v.attrs f k

abbrev pub step_on : View → Font → ℕ → Stepped
step_on v f k = step_of (after_on v f k) v.chars v.attrs f

-- after k steps from clock 0: a board that gets the other page there is the other board, and the next step shows the same
pub record SameStep (v w : View) (f : Font) (k : ℕ) : Type 0 where
  pub board : with_page (after_on v f k) (page_of w) ≡ after_on w f k
  pub signals : (step_on v f k).signals ≡ (step_on w f k).signals
  pub address : (step_on v f k).address ≡ (step_on w f k).address
  pub dots : (step_on v f k).dots ≡ (step_on w f k).dots

module _ {v w : View} (a : Alike v w) where
  abbrev p : Page
  p = page_of v

  abbrev q : Page
  q = page_of w

  -- what a clock works on
  same-loaded : Accepted p → Accepted q → (k : ℕ) → (loaded_in p v.chars (place_at p v.chars v.attrs k)).beam ≡ (loaded_in q w.chars (place_at q w.chars w.attrs k)).beam
  same-loaded fine fine' k = go (dec_lt (line_in p k) (visible_of p).0)
    where
      line : line_in p k ≡ line_in q k
      line = rw (same-vt a.page, same-ht a.page)

      clock : clock_in p k ≡ clock_in q k
      clock = rw (same-ht a.page)

      go : Dec (line_in p k < (visible_of p).0) → (loaded_in p v.chars (place_at p v.chars v.attrs k)).beam ≡ (loaded_in q w.chars (place_at q w.chars w.attrs k)).beam
      go (yes l) =
          let r = line_in p k / lines_of p in
          let c = clock_in p k in
          let h = row-shown p (line_in p k) l in
          let cell = same-cell a r c h in
          let held = same-held a r c h in
          let code = a.code r h in
          let there : row (cell_at p v.chars r c) (held_at p v.chars v.attrs r c) (code_at p v.chars r) ≡ row (cell_at q w.chars r c) (held_at q w.chars w.attrs r c) (code_at q w.chars r) = λ i. row (cell i) (held i) (code i) in
          beam-at p v.chars v.attrs fine k l
          ∙ there
          ∙ ap₂ (λ (x y : ℕ). row (cell_at q w.chars x y) (held_at q w.chars w.attrs x y) (code_at q w.chars x)) (ap₂ (λ (x y : ℕ). x / y) line (same_lines a.page)) clock
          ∙ sym (beam-at q w.chars w.attrs fine' k (omega (arith, l, line, same-visible a.page)))
      go (no g) =
          beam-past p v.chars v.attrs k (omega (arith, g))
          ∙ ap (λ (y : Place). (raster_of y).carried.beam) (alike-place a k)
          ∙ sym (beam-past q w.chars w.attrs k (omega (arith, g, line, same-visible a.page)))

  -- ---- at a place, in a row with a code and at an address

  module _ (y : Place) (c x : ℕ) where
    abbrev b : Board
    b = with_place v.board y

    abbrev n : Board
    n = with_place w.board y

    scene : (scan : ℕ) → scene_of b scan y.field ≡ scene_of n scan y.field
    scene scan = same-scene b n a.page (same_power a) scan y.field

    same-signals : signals_of b c x ≡ signals_of n c x
    unfolding signals_of lines_of hbp_of vsync_of
    same-signals = rw (scene (scan_in b c)) (simp (a.page.others, same-hsync a.page, same-hbp a.page, same-blink a.page, a.page.switches, same_power a))

    same-active : active_at p y ≡ active_at q y
    same-active = rw (same-visible a.page, same-hact a.page)

    -- the dots, where on an active clock the cell has the same bytes
    same-clock-dots : (f : Font) (held : ℕ) → (active_at p y ≡ true → SameBytes v w x) → clock_dots b v.chars v.attrs f c held x ≡ clock_dots n w.chars w.attrs f c held x
    unfolding clock_dots
    same-clock-dots f held bytes = go (active_at p y) refl
      where
        go : (t : Bool) → active_at p y ≡ t → clock_dots b v.chars v.attrs f c held x ≡ clock_dots n w.chars w.attrs f c held x
        go true e =
            let k = bytes e in
            let dots = same-dots (view_of b v.chars v.attrs) (view_of n w.chars w.attrs) a.page (same_power a) f (scan_in b c) y.field (valid_in b v.attrs c held x) x k in
            rw (e, sym same-active ∙ e, dots, same_lines a.page, same-mode a.page, k.1, a.page.dots)
        go false e = rw (e, sym same-active ∙ e, scene (scan_in b c), same_lines a.page, a.page.dots)

  -- ---- every step from clock 0

  module _ (f : Font) (ok : step_check v.board v.chars v.attrs f ≡ unrefused) (ok' : step_check w.board w.chars w.attrs f ≡ unrefused) (k : ℕ) where
    abbrev at : Place
    at = place_at p v.chars v.attrs k

    fine : Accepted p
    fine = (fits v.board v.chars v.attrs f ok).page

    -- the bytes at the address of an active clock
    bytes-are : active_at p at ≡ true → SameBytes v w (loaded_in p v.chars at).beam.address
    unfolding place_at
    bytes-are e =
        let on = both _ _ e in
        let l = ltb-true _ _ on.0 in
        rw (beam-at p v.chars v.attrs fine k l) (a.bytes _ _ (row-shown p (line_in p k) l) (ltb-true _ _ on.1))

    pub alike-step : SameStep v w f k
    unfolding stepped_of
    alike-step =
        let before = steps-are v.board v.chars v.attrs f ok k in
        let before' = steps-are w.board w.chars w.attrs f ok' k in
        let step = step_is v.board v.chars v.attrs f ok k in
        let step' = step_is w.board w.chars w.attrs f ok' k in
        let z = (loaded_in p v.chars at).beam in
        let loaded = same-loaded fine (fits w.board w.chars w.attrs f ok').page k in
        let place = alike-place a k in
        record {
          board = ap (λ (x : Board). with_page x q) before ∙ ap₂ with_place a.board place ∙ sym before';
          signals = rw (before, step, before', step')
              (same-signals at z.code z.address ∙ ap₂ (λ (y : Place) (x : Row). signals_of (with_place w.board y) x.code x.address) place loaded);
          address = rw (before, step, before', step') (ap (λ (x : Row). x.address) loaded);
          dots = rw (before, step, before', step')
              (same-clock-dots at z.code z.address f z.latch bytes-are
              ∙ ap₂ (λ (y : Place) (x : Row). clock_dots (with_place w.board y) w.chars w.attrs f x.code x.latch x.address) place loaded);
        }
