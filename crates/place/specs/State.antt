-- The state for clock n.
use Rattle.std.specs.Prelude.{ℕ, false, List, length, Result}
use Rattle.refusal.specs.declared.Refusal.{Refusal}
use Rattle.refusal.specs.Number.{Checked, given, wrong_size}
use Rattle.board.specs.declared.Board.{Board}
use Rattle.board.specs.Parts.{with_place}
use Rattle.board.specs.Range.{memories_refused}
use Rattle.timing.specs.Check.{call_check}
use Rattle.place.specs.Place.{place_at}

-- 3 for the memories, 12, 4, 13, 14, 15, 6, 7
abbrev pub state_check : Board → (chars attrs : List ℕ) → Checked
state_check b chars attrs = call_check b (wrong_size (memories_refused (length chars) (length attrs))) false false

-- [clock zero]
-- page, pointer and power state are the given board's; the place is that for clock n, counted from clock 0
unfoldable pub state_of : Board → (chars attrs : List ℕ) → ℕ → Result Board Refusal
state_of b chars attrs n = given (state_check b chars attrs) (with_place b (place_at b.page chars attrs n))
