-- Counts of the three units, and the conversions between them, by name.
use Rattle.std.specs.Prelude.{ℕ, ◌+◌, ◌*◌, ◌/◌, Bool, ◌&&◌, ltb, leb}
use Rattle.units.specs.declared.Clocks.{Clocks}
use Rattle.units.specs.declared.Lines.{Lines}
use Rattle.units.specs.declared.Dots.{Dots}

abbrev pub clocks : ℕ → Clocks
clocks n = record { 0 = n }

abbrev pub lines : ℕ → Lines
lines n = record { 0 = n }

abbrev pub dots : ℕ → Dots
dots n = record { 0 = n }

-- from lo on, n of them
abbrev pub during : (lo n x : ℕ) → Bool
during lo n x = leb lo x && ltb x (lo + n)

-- [board units] clocks, lines and dots are three units, and a count of one is never added to a count of another
-- the clocks of n lines, where a line has so many
abbrev pub clocks_of : Lines → Clocks → Clocks
clocks_of n line = clocks (n.0 * line.0)

-- the whole lines of n clocks, where a line has so many
abbrev pub whole_lines : Clocks → Clocks → Lines
whole_lines n line = lines (n.0 / line.0)

-- [board units]
-- the dots of n clocks, where a clock has so many
abbrev pub dots_of : Clocks → Dots → Dots
dots_of n clock = dots (n.0 * clock.0)
