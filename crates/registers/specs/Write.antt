-- A write at a register address (003 Tables 1, 4 and 6; 01, "Register fields").
use Rattle.std.specs.Prelude.{ℕ, ◌+◌, ◌-◌, ◌*◌, ◌/◌, ◌%◌, ◌&&◌, not, [], ◌∷◌, set, eqb, ltb, leb, Result, Ok, Err}
use Rattle.lists.specs.Choice.{pick, first_of, within}
use Rattle.refusal.specs.declared.Refusal.{Refusal}
use Rattle.refusal.specs.declared.Refusal.TheVariants.{Range, Register, Command, Address}
use Rattle.refusal.specs.Number.{Checked, unrefused, after}
use Rattle.board.specs.declared.Starts.{Starts}
use Rattle.board.specs.declared.Board.{Board}
use Rattle.board.specs.State.{clock_zero}
use Rattle.board.specs.Layout.{last_ir}
use Rattle.board.specs.Range.{address_refused, pointer_refused}
use Rattle.board.specs.Parts.{with_irs, with_starts, with_switches, with_page, with_pointer, with_resets}

-- [refusal kinds] which numbers each kind of call gives; after 9 an inactive board answers 0
-- register calls give 12, then 7 for the pointer
unfoldable pub register_check : Board → Checked
register_check b = first_of ((address_refused b.page, Err Address) ∷ (pointer_refused b.page b.pointer, Err Range) ∷ []) unrefused

-- ---- the commands

-- [register inactive]
-- a write that is no reset ends the run of resets
abbrev pub broken_of : Board → Board
broken_of b = with_resets b 0

-- [register reset] every reset sets pointer, place and counts, display and cursor off, and keeps all else
-- pointer at IR0, place at clock 0, display and cursor off, all else kept; a reset makes 0 resets in a row to 1 and all else to 2
abbrev pub reset_of : Board → Board
reset_of b = record {
  page = with_switches b.page (b.page.switches / 4 * 4);
  place = clock_zero;
  pointer = 0;
  resets = pick (eqb b.resets 0) 1 2;
}

-- [register commands]
abbrev pub pointed_of : Board → ℕ → Board
pointed_of b n = with_pointer b n

-- a pointer above the last IR of the page is not carried
abbrev pub point_of : Board → ℕ → Result Board Refusal
point_of b n = pick (pointer_refused b.page n) (Err Command) (Ok (pointed_of b n))

-- [register commands]
-- bit 3 names the display, bit 4 the cursor, bit 0 says on
abbrev pub switches_after : ℕ → ℕ → ℕ
switches_after s v =
    s / 4 * 4 + 2 * pick (eqb (v / 16 % 2) 1) (v % 2) (s / 2 % 2) + pick (eqb (v / 8 % 2) 1) (v % 2) (s % 2)

-- [register at-once] on and off act at once; an inactive board steps and draws with its display off
abbrev pub switched_of : Board → ℕ → Board
switched_of b v = with_page b (with_switches b.page (switches_after b.page.switches v))

-- [register commands] the six commands; a byte that combines display and cursor does both, with any other it is not carried
-- 003 Table 6: 00 is master reset, 10 to 1F load the pointer; of 20 to 3F those that name display or cursor and not graphics
unfoldable pub command_of : Board → ℕ → Result Board Refusal
command_of b v =
    pick (eqb v 0) (Ok (reset_of b))
    (pick (within 16 31 v) (point_of b (v - 16))
    (pick (within 32 63 v)
    (pick (eqb (v / 2 % 2) 0 && not (eqb (v / 8 % 4) 0)) (Ok (switched_of b v)) (Err Command))
    (Err Command)))

-- ---- the registers

-- [register pointer]
-- the pointer moves on and stays at the last IR
abbrev pub next_pointer : (last n : ℕ) → ℕ
next_pointer last n = pick (ltb n last) (n + 1) last

-- [register pointer] writes at 0 go to the pointed register; the pointer moves on and stays at IR14
-- [register kept] IR10 to IR14 are kept and unused; all other bits are ignored
-- the pointed register takes the byte
abbrev pub loaded_of : Board → ℕ → Board
loaded_of b v = with_pointer (with_page b (with_irs b.page (set b.page.irs b.pointer v))) (next_pointer (last_ir b.page.version) b.pointer)

-- an address with its lower byte replaced, and with its upper, of which six bits are kept
abbrev pub lower_of : ℕ → ℕ → ℕ
lower_of x v = x / 256 * 256 + v

-- [register upper] upper registers keep six bits; bits 7 and 6 read 0
abbrev pub upper_of : ℕ → ℕ → ℕ
upper_of x v = v % 64 * 256 + x % 256

-- [register addresses]
-- addresses 2 to 7: screen start 1, cursor, screen start 2, lower then upper
unfoldable pub starts_after : Starts → ℕ → ℕ → Starts
starts_after s a v =
    pick (eqb a 2) (record { start1 = lower_of s.start1 v; cursor = s.cursor; start2 = s.start2 })
    (pick (eqb a 3) (record { start1 = upper_of s.start1 v; cursor = s.cursor; start2 = s.start2 })
    (pick (eqb a 4) (record { start1 = s.start1; cursor = lower_of s.cursor v; start2 = s.start2 })
    (pick (eqb a 5) (record { start1 = s.start1; cursor = upper_of s.cursor v; start2 = s.start2 })
    (pick (eqb a 6) (record { start1 = s.start1; cursor = s.cursor; start2 = lower_of s.start2 v })
    (record { start1 = s.start1; cursor = s.cursor; start2 = upper_of s.start2 v })))))

abbrev pub started_of : Board → ℕ → ℕ → Board
started_of b a v = with_page b (with_starts b.page (starts_after b.page.starts a v))

-- ---- the call

-- [register addresses] address 1 is the command; 2 to 7 are screen start 1, cursor, screen start 2, lower then upper
-- address 0 is the pointed register, 1 the command
unfoldable pub active_of : Board → ℕ → ℕ → Result Board Refusal
active_of b a v =
    pick (eqb a 0) (Ok (loaded_of b v))
    (pick (eqb a 1) (command_of b v)
    (pick (within 2 7 a) (Ok (started_of b a v))
    (Err Register)))

-- [register inactive] inactive until two master resets in a row; until then another write answers 0 and breaks that run
-- until two resets in a row any other write answers 0 and only breaks that run
unfoldable pub inactive_of : Board → ℕ → ℕ → Result Board Refusal
inactive_of b a v =
    pick (within 0 7 a)
    (pick (eqb a 1 && eqb v 0) (Ok (reset_of b)) (Ok (broken_of b)))
    (Err Register)

-- [refusal kinds]
-- 2 resets in a row, or more, and the board is active
unfoldable pub write_of : Board → ℕ → ℕ → Result Board Refusal
write_of b a v =
    after (register_check b) (pick (leb 2 b.resets) (active_of b a v) (inactive_of b a v))
