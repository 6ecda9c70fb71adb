-- 01, "From cell to dots": a cell's look from the attributes that are valid at it, and CURSOR.
use Rattle.std.specs.Prelude.{ℕ, Bool, false, ◌&&◌, ◌||◌}
use Rattle.std.specs.Bool.{xor}
use Rattle.lists.specs.Choice.{pick, has_bit}
use Rattle.video.specs.declared.Scene.{Scene}
use Rattle.video.specs.declared.Look.{Look}
use Rattle.video.specs.Levels.{symbol_level, surround_level}

-- [dots levels] non-display, reverse, and the levels of 000's Table 1
-- ABLANK, or ABLINK with BLINK
abbrev pub non_display : Scene → ℕ → Bool
non_display s a = has_bit a 2 || (has_bit a 4 && s.blink)

-- [dots levels]
-- reverse is ARVID xor CURSOR, and E is BKGND xor reverse
abbrev pub reversed : Scene → ℕ → Bool → Bool
reversed s a cursor = xor s.bkgnd (xor (has_bit a 1) cursor)

-- [dots lines] underline and strike light all dots of the cell, fillers too
-- underline on the underline line, and strike on the strike line
abbrev pub lit_of : Scene → ℕ → Bool
lit_of s a = (has_bit a 8 && s.underline) || (has_bit a 32 && s.strike)

abbrev pub shown_look : Scene → ℕ → Bool → Look
shown_look s a cursor = record {
  lit = lit_of s a;
  symbol = symbol_level (reversed s a cursor) (has_bit a 16) (non_display s a);
  surround = surround_level (reversed s a cursor) (has_bit a 16);
}

abbrev pub look_with : Bool → (symbol surround : ℕ) → Look
look_with lit symbol surround = record { lit = lit; symbol = symbol; surround = surround }

-- while BLANK is high all dots have one level
abbrev pub blank_look : ℕ → Look
blank_look level = look_with false level level

unfoldable pub look_of : Scene → ℕ → Bool → Look
look_of s a cursor = pick s.shown (shown_look s a cursor) (blank_look s.blank)
