-- Promise 3: every frame takes exactly clocks per line times lines per frame; with the row table off and an ordered buffer no fetch leaves it, neither a step's
-- nor a drawn line's. Assumes nothing.
use Rattle.std.specs.Prelude.{ℕ, ◌/◌, ◌%◌, ◌<◌, ◌≡◌, List}
use Rattle.units.specs.Units.{clocks_of}
use Rattle.refusal.specs.Number.{unrefused}
use Rattle.raster.specs.Moves.{Inside}
use Rattle.board.specs.declared.Board.{Board}
use Rattle.timing.specs.Fields.{hact_of, buffer_of, counts_of}
use Rattle.shape.specs.Font.{Font}
use Rattle.step.specs.Step.{step_check}
use Rattle.step.specs.After.{after}
use Rattle.agreement.specs.Lines.{address_at, DrawnFrom}

-- the clocks of a frame
abbrev pub frame_clocks : Board → ℕ
frame_clocks b = (clocks_of (counts_of b.page).vt (counts_of b.page).ht).0

module _ (b : Board) (chars attrs : List ℕ) (f : Font) (ok : step_check b chars attrs f ≡ unrefused) where
  -- clock n, counted from clock 0: line and clock are both 0 exactly where whole frames are over, and the field counts the frames, modulo 256
  pub record Framed (n : ℕ) : Type 0 where
    pub ends : n % frame_clocks b ≡ 0 → ((after b chars attrs f n).place.line.0 ≡ 0) × ((after b chars attrs f n).place.clock.0 ≡ 0)
    pub nowhere-else : (after b chars attrs f n).place.line.0 ≡ 0 → (after b chars attrs f n).place.clock.0 ≡ 0 → n % frame_clocks b ≡ 0
    pub counted : (after b chars attrs f n).place.field ≡ n / frame_clocks b % 256

  -- table off, first ≤ screen start 1 ≤ last: line l of frame k fetches nothing outside that range
  pub record Stays (k l : ℕ) : Type 0 where
    -- every address that an active clock of the line puts out
    pub stepped : (c : ℕ) → c < hact_of b.page → Inside (buffer_of b.page) (address_at b chars attrs f k l c)
    -- and what is drawn of the line, in any field, is the dots of the cells at those addresses, end to end
    pub drawn : DrawnFrom b chars attrs f l (address_at b chars attrs f k l)
