-- What a call over page, memories and font has once nothing is refused. Assumes nothing.
use Rattle.std.specs.Prelude.{ℕ, ◌≡◌, refl, Bool, false, ◌||◌, List, length, Err}
use Rattle.lists.specs.Choice.{neither}
use Rattle.refusal.specs.Number.{unrefused}
use Rattle.refusal.specs.declared.Refusal.TheVariants.{Size}
use Rattle.refusal.specs.Laws.{passed}
use Rattle.board.specs.declared.Board.{Board}
use Rattle.board.specs.Range.{memories_refused}
use Rattle.board.specs.Laws.{memories-all}
use Rattle.timing.specs.Check.{call_check}
use Rattle.timing.specs.Laws.{Accepted, InRange, call-passed}
use Rattle.shape.specs.Font.{Font, Whole, font_refused}
use Rattle.shape.specs.Laws.{font-whole}
use Rattle.video.specs.At.{lent_check}

-- the board accepted and in range, and whole memories, words and flags
pub record Lent (b : Board) (chars attrs words flags : List ℕ) : Type 0 where
  pub page : Accepted b.page
  pub state : InRange b
  pub chars-all : length chars ≡ 16384
  pub attrs-all : length attrs ≡ 16384
  pub words-all : length words ≡ 1152
  pub flags-all : length flags ≡ 128

module _ (b : Board) (chars attrs : List ℕ) (f : Font) (asked room : Bool) (e : call_check b (lent_check chars attrs f) asked room ≡ unrefused) where
  sizes : (memories_refused (length chars) (length attrs) ≡ false) × (font_refused f ≡ false)
  sizes =
      let sized = passed (memories_refused (length chars) (length attrs) || font_refused f) (Err Size) _ refl (call-passed b (lent_check chars attrs f) asked room e).lent-fine in
      neither (memories_refused (length chars) (length attrs)) (font_refused f) sized.0

  -- the font's five parts
  pub lent-font : Whole f
  lent-font = font-whole f sizes.1

  pub lent : Lent b chars attrs f.words f.flags
  lent =
      let k = call-passed b (lent_check chars attrs f) asked room e in
      let m = memories-all (length chars) (length attrs) sizes.0 in
      record {
        page = k.page;
        state = k.state;
        chars-all = m.0;
        attrs-all = m.1;
        words-all = lent-font.words-all;
        flags-all = lent-font.flags-all;
      }
