-- A mark has what a cell's attributes have, and levels are below four. Assumes nothing.
use Rattle.std.specs.Prelude.{◌≡◌, Bool, true, false, ◌&&◌, ℕ, ◌+◌, ◌*◌, ◌/◌, ◌%◌, ◌<◌, eqb}
use Rattle.std.proofs.Common.{ap, arith, eq-eqb}
use Rattle.lists.specs.Choice.{pick, pick-lt, has_bit}
use Rattle.board.specs.declared.Board.{Board}
use Rattle.video.specs.declared.Scene.{Scene}
use Rattle.video.specs.declared.Look.{Look}
use Rattle.video.specs.Levels.{tone_of, surround_level, symbol_level}
use Rattle.video.specs.Scene.{scene_of}
use Rattle.video.specs.Look.{non_display, reversed, shown_look, blank_look, look_of}
use Rattle.dots.specs.Stores.{under_of}
use Rattle.tables.specs.Tables.{mark_of, levels_by, levels_of}

same-look : (s : Scene) (a c : ℕ) (cursor : Bool) → has_bit a 1 ≡ has_bit c 1 → has_bit a 2 ≡ has_bit c 2 → has_bit a 4 ≡ has_bit c 4
    → has_bit a 8 ≡ has_bit c 8 → has_bit a 16 ≡ has_bit c 16 → has_bit a 32 ≡ has_bit c 32 → look_of s a cursor ≡ look_of s c cursor
unfolding look_of
same-look s a c cursor e1 e2 e3 e4 e5 e6 = rw (e1, e2, e3, e4, e5, e6)

bit : (w a m : ℕ) → m / w % 2 ≡ a / w % 2 → has_bit m w ≡ has_bit a w
bit w a m e = ap (λ (n : ℕ). eqb n 1) e

same_bits : (s : Scene) (a h : ℕ) (cursor : Bool) → h < 2 → look_of s (a % 64 + 64 * h) cursor ≡ look_of s a cursor
same_bits s a h cursor l =
    let m : ℕ = a % 64 + 64 * h in
    same-look s _ a cursor (bit 1 a m (omega arith)) (bit 2 a m (omega arith)) (bit 4 a m (omega arith)) (bit 8 a m (omega arith)) (bit 16 a m (omega arith)) (bit 32 a m (omega arith))

pub mark-look : (s : Scene) (a : ℕ) (here : Bool) → levels_of s (mark_of a here) ≡ levels_by (look_of s a (s.gate && here))
unfolding levels_of
mark-look s a true =
    let e : (a % 64 + 64) / 64 % 2 ≡ 1 = omega arith in
    rw (eq-eqb _ _ e) (ap levels_by (same_bits s a 1 (s.gate && true) (omega arith)))
mark-look s a false =
    let e : (a % 64 + 0) / 64 % 2 ≡ 0 = omega arith in
    rw e (ap levels_by (same_bits s a 0 (s.gate && false) (omega arith)))

pub mark-lt : (a : ℕ) (here : Bool) → mark_of a here < 128
mark-lt a true = omega arith
mark-lt a false = omega arith

-- ---- levels are below four

module _ (e hi hid : Bool) where
  tone-lt : tone_of hi < 4
  tone-lt = pick-lt 4 hi 2 1 (omega arith) (omega arith)

  surround-lt : surround_level e hi < 4
  surround-lt = pick-lt 4 e _ 0 tone-lt (omega arith)

  symbol-lt : symbol_level e hi hid < 4
  symbol-lt = pick-lt 4 hid _ _ surround-lt (pick-lt 4 e 0 _ (omega arith) tone-lt)

look-small : (s : Scene) (a : ℕ) (cursor : Bool) → s.blank < 4 → ((look_of s a cursor).symbol < 4) × ((look_of s a cursor).surround < 4)
unfolding look_of
look-small s a cursor h = go s.shown
  where
    go : (t : Bool) → ((pick t (shown_look s a cursor) (blank_look s.blank)).symbol < 4) × ((pick t (shown_look s a cursor) (blank_look s.blank)).surround < 4)
    go true = (symbol-lt (reversed s a cursor) (has_bit a 16) (non_display s a), surround-lt (reversed s a cursor) (has_bit a 16) (non_display s a))
    go false = (h, h)

pub blank-lt : (b : Board) (scan field : ℕ) → (scene_of b scan field).blank < 4
unfolding scene_of
blank-lt b scan field = pick-lt 4 (has_bit b.page.switches 8) 0 _ (omega arith) (pick-lt 4 (has_bit b.page.switches 4) 1 0 (omega arith) (omega arith))

pub look-few : (s : Scene) (a : ℕ) (cursor : Bool) → s.blank < 4 → ((look_of s a cursor).symbol < 4) × (under_of (look_of s a cursor) < 4)
look-few s a cursor h =
    let k = look-small s a cursor h in
    (k.0, pick-lt 4 (look_of s a cursor).lit (look_of s a cursor).symbol (look_of s a cursor).surround k.0 k.1)

-- the two levels of a cell on a scan line, and both again out of their number
module _ (b : Board) (scan field a : ℕ) (cursor : Bool) where
  abbrev look : Look
  look = look_of (scene_of b scan field) a cursor

  few : (look.symbol < 4) × (under_of look < 4)
  few = look-few (scene_of b scan field) a cursor (blank-lt b scan field)

  pub levels-lt : levels_by look < 16
  levels-lt = omega (arith, few)

  pub symbol-of : levels_by look % 4 ≡ look.symbol
  symbol-of = omega (arith, few.0)

  pub under_of_lem : levels_by look / 4 ≡ under_of look
  under_of_lem = omega (arith, few.0)
