-- 000 Table 1, as 01 condenses it: black 0, gray 1, white 2.
use Rattle.std.specs.Prelude.{ℕ, Bool}
use Rattle.lists.specs.Choice.{pick}

-- [dots levels]
-- T: white if highlighted, else gray
abbrev pub tone_of : Bool → ℕ
tone_of highlight = pick highlight 2 1

-- [dots levels]
-- E = 0: surround black; E = 1: surround T
abbrev pub surround_level : (e highlight : Bool) → ℕ
surround_level e highlight = pick e (tone_of highlight) 0

-- [dots levels]
-- E = 0: symbol T; E = 1: symbol black; non-display makes the symbol as the surround
abbrev pub symbol_level : (e highlight hidden : Bool) → ℕ
symbol_level e highlight hidden = pick hidden (surround_level e highlight) (pick e 0 (tone_of highlight))

-- [dots blank] while BLANK is high: black if RBLANK is high or BKGND is 0, else gray
-- while BLANK is high: black if RBLANK is high or BKGND is 0, else gray
abbrev pub blank_level : (rblank bkgnd : Bool) → ℕ
blank_level rblank bkgnd = pick rblank 0 (pick bkgnd 1 0)
