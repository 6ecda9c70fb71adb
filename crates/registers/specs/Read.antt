-- A read at a register address (003 Tables 1 and 4).
use Rattle.std.specs.Prelude.{ℕ, ◌/◌, ◌%◌, eqb, Result, Ok, Err}
use Rattle.lists.specs.Choice.{pick, within}
use Rattle.refusal.specs.declared.Refusal.{Refusal}
use Rattle.refusal.specs.declared.Refusal.TheVariants.{Register}
use Rattle.refusal.specs.Number.{after}
use Rattle.board.specs.declared.Starts.{Starts}
use Rattle.board.specs.declared.Board.{Board}
use Rattle.registers.specs.Write.{register_check}

-- bits 7 and 6 of an upper register read 0
abbrev pub lower_shown : ℕ → ℕ
lower_shown x = x % 256

-- [register upper]
abbrev pub upper_shown : ℕ → ℕ
upper_shown x = x / 256 % 64

-- [register reads] reads at 0 and 1 give 0, and reads answer on an inactive board as on an active one
-- addresses 2 to 7: screen start 1, cursor, screen start 2, lower then upper
unfoldable pub shown_at : Starts → ℕ → ℕ
shown_at s a =
    pick (eqb a 2) (lower_shown s.start1)
    (pick (eqb a 3) (upper_shown s.start1)
    (pick (eqb a 4) (lower_shown s.cursor)
    (pick (eqb a 5) (upper_shown s.cursor)
    (pick (eqb a 6) (lower_shown s.start2)
    (upper_shown s.start2)))))

-- reads at 0 and 1 give 0; a register address above 7 is 9
unfoldable pub read_at : Starts → ℕ → Result ℕ Refusal
read_at s a =
    pick (within 0 1 a) (Ok 0)
    (pick (within 2 7 a) (Ok (shown_at s a))
    (Err Register))

-- [register reads]
unfoldable pub read_of : Board → ℕ → Result ℕ Refusal
read_of b a = after (register_check b) (read_at b.page.starts a)
