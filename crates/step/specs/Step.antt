-- The step.
use Rattle.std.specs.Prelude.{ℕ, false, List, replicate, is_ok}
use Rattle.lists.specs.Choice.{pick}
use Rattle.refusal.specs.Number.{unrefused, Checked}
use Rattle.board.specs.declared.Board.{Board}
use Rattle.timing.specs.Check.{call_check}
use Rattle.shape.specs.Font.{Font}
use Rattle.video.specs.At.{lent_check}
use Rattle.step.specs.declared.Signals.{Signals}
use Rattle.step.specs.declared.Stepped.{Stepped}
use Rattle.step.specs.declared.Clock.{Clock}
use Rattle.place.specs.Place.{loaded_in, next_place}
use Rattle.board.specs.Parts.{with_place}
use Rattle.step.specs.Signals.{signals_of, clock_dots}

-- [dots step]
-- the address fetched, or off the active clocks the one held
abbrev pub address_of : Board → (chars : List ℕ) → ℕ
address_of b chars = (loaded_in b.page chars b.place).beam.address

-- what is valid before the column
abbrev pub held_of : Board → (chars : List ℕ) → ℕ
held_of b chars = (loaded_in b.page chars b.place).beam.latch

-- the code of the row
abbrev pub code_in : Board → (chars : List ℕ) → ℕ
code_in b chars = (loaded_in b.page chars b.place).beam.code

-- a clock's signals, address and dots, and the board for the next clock
unfoldable pub stepped_of : Board → (chars attrs : List ℕ) → Font → Stepped
stepped_of b chars attrs f = record {
  refusal = unrefused;
  signals = signals_of b (code_in b chars) (address_of b chars);
  address = address_of b chars;
  dots = clock_dots b chars attrs f (code_in b chars) (held_of b chars) (address_of b chars);
  board = with_place b (next_place b.page chars attrs b.place);
}

-- [refusal kinds]
-- 3, 12, 4, 13, 14, 15, 6, 7
abbrev pub step_check : Board → (chars attrs : List ℕ) → Font → Checked
step_check b chars attrs f = call_check b (lent_check chars attrs f) false false

abbrev pub no_signals : Signals
no_signals = record { hsync = false; vsync = false; blank = false; cursor = false; blink = false }

-- [refusal zeros] a refusal returns zeros beside its number, except for 14 and 15, and the old state
-- a refusal returns zeros beside its number, and the old board
abbrev pub step_refused : Checked → Board → Stepped
step_refused r b = record { refusal = r; signals = no_signals; address = 0; dots = replicate 12 0; board = b }

-- [dots step] the stepping call gives signals, address and dots, and the next state; twelve places, 0 past the cell's dots
unfoldable pub step_of : Board → (chars attrs : List ℕ) → Font → Stepped
step_of b chars attrs f =
    pick (is_ok (step_check b chars attrs f)) (stepped_of b chars attrs f) (step_refused (step_check b chars attrs f) b)

-- all of a step, and of the board the place only
abbrev pub clock_in : Stepped → Clock
clock_in s = record { refusal = s.refusal; signals = s.signals; address = s.address; dots = s.dots; place = s.board.place }
