-- The call that sets dots, strike line, BKGND and RBLANK: 12, then 6. What it replaces is not judged, and the power state plays no part.
use Rattle.std.specs.Prelude.{ℕ, ◌+◌, ◌*◌, ◌/◌, ◌%◌, Bool, [], ◌∷◌, Result, Err}
use Rattle.lists.specs.Choice.{pick, first_of}
use Rattle.units.specs.declared.Dots.{Dots}
use Rattle.refusal.specs.declared.Refusal.{Refusal}
use Rattle.refusal.specs.declared.Refusal.TheVariants.{Width, Address}
use Rattle.refusal.specs.Number.{Checked, unrefused, given}
use Rattle.board.specs.declared.Page.{Page}
use Rattle.board.specs.declared.Board.{Board}
use Rattle.board.specs.Range.{address_refused}
use Rattle.timing.specs.Check.{width_refused}
use Rattle.board.specs.Parts.{with_switches, with_video, with_page}

-- [register video] a call of its own sets dots, strike line, BKGND and RBLANK, refusing 12, then 6
-- the page is judged with the numbers that are handed over
unfoldable pub video_check : Page → Checked
video_check p = first_of ((address_refused p, Err Address) ∷ (width_refused p.video.dots, Err Width) ∷ []) unrefused

-- the page with other dots and another strike line
abbrev pub with_dots : Page → Dots → (strike : ℕ) → Page
with_dots p dots strike = with_video p (record { dots = dots; strike = strike; chip = p.video.chip })

-- switch 2 is BKGND, 3 RBLANK; the others are kept
abbrev pub switches_set : ℕ → (bkgnd rblank : Bool) → ℕ
switches_set s bkgnd rblank = s / 16 * 16 + s % 4 + pick bkgnd 4 0 + pick rblank 8 0

abbrev pub video_set : Board → Dots → ℕ → Bool → Bool → Board
video_set b dots strike bkgnd rblank =
    with_page b (with_dots (with_switches b.page (switches_set b.page.switches bkgnd rblank)) dots strike)

-- [register video]
unfoldable pub set_video_of : Board → Dots → ℕ → Bool → Bool → Result Board Refusal
set_video_of b dots strike bkgnd rblank = given (video_check (with_dots b.page dots strike)) (video_set b dots strike bkgnd rblank)
