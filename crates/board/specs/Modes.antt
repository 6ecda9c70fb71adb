-- 02, R-1 and R-7: a page's version, what its switches 4 and 5 say, and its chip.
use Rattle.std.specs.Prelude.{ℕ, Bool, ◌&&◌, ◌||◌, not, eqb}
use Rattle.lists.specs.Choice.{pick, has_bit}
use Rattle.board.specs.declared.Page.{Page}

-- versions 2 and 3 have switches 4 and 5
abbrev pub has_modes : (version : ℕ) → Bool
has_modes version = eqb version 2 || eqb version 3

-- one that is not known counts as 1
abbrev pub version_of : Page → ℕ
version_of p = pick (has_modes p.version) p.version 1

-- [R-1 version] switches 4 and 5 of version 2; version 1 means character mode; a board keeps its page's version
-- 000: attributes run on from cell to cell; version 1 has character mode alone
abbrev pub field_mode : Page → Bool
field_mode p = has_modes p.version && has_bit p.switches 16

-- [R-1 ACD] with ACD low the cell that sets them has zero dots, with its own new attributes and lines; high, its character
-- 000: with ACD low a cell that sets attributes has zero dots; in character mode ACD says nothing
abbrev pub setters_hidden : Page → Bool
setters_hidden p = field_mode p && not (has_bit p.switches 32)

-- [R-7 chip] 0 for A and 1 for B; versions 1 and 2 mean A
abbrev pub chip_b : Page → Bool
chip_b p = eqb p.version 3 && eqb p.video.chip 1
