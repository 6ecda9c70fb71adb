-- A refusal keeps the board. Assumes nothing.
use Rattle.std.specs.Prelude.{ℕ, ◌≡◌, refl, Bool, List, Result, Ok, Err}
use Rattle.std.proofs.Common.{ap, ◌∙◌}
use Rattle.units.specs.declared.Dots.{Dots}
use Rattle.refusal.specs.declared.Refusal.{Refusal}
use Rattle.refusal.specs.Number.{check_of, value_or, number_of}
use Rattle.board.specs.declared.Board.{Board}
use Rattle.place.specs.State.{state_of}
use Rattle.registers.specs.Write.{write_of}
use Rattle.registers.specs.Video.{set_video_of}
use Rattle.feldrime.specs.declared.BoardAnswer.{BoardAnswer}
use Rattle.feldrime.specs.Answers.{board_given}
use Rattle.feldrime.specs.Boards.{write_for}

-- an answer other than 0 stands beside the board b
abbrev KeptIn : Board → Result Board Refusal → Type 0
KeptIn b w = (number_of (check_of w) ≡ 0 → ⊥) → value_or b w ≡ b

-- it does, whichever call answers
keeps : (b : Board) (w : Result Board Refusal) → KeptIn b w
keeps b (Ok x) n = absurd (n refl)
keeps b (Err why) n = refl

write_keeps : (b : Board) (a v : ℕ) → KeptIn b (write_of b a v)
write_keeps b a v = keeps b (write_of b a v)

video-keeps : (b : Board) (d : Dots) (strike : ℕ) (bkgnd rblank : Bool) → KeptIn b (set_video_of b d strike bkgnd rblank)
video-keeps b d strike bkgnd rblank = keeps b (set_video_of b d strike bkgnd rblank)

state-keeps : (b : Board) (chars attrs : List ℕ) (n : ℕ) → KeptIn b (state_of b chars attrs n)
state-keeps b chars attrs n = keeps b (state_of b chars attrs n)

module _ (b : Board) {r : BoardAnswer} where
  kept : (w : Result Board Refusal) → r ≡ board_given w b → KeptIn b w → (r.refusal ≡ 0 → ⊥) → r.board ≡ b
  kept w e k n = ap (λ (z : BoardAnswer). z.board) e ∙ k (λ q. n (ap (λ (z : BoardAnswer). z.refusal) e ∙ q))

  pub write_kept : (a v : ℕ) → r ≡ write_for b a v → (r.refusal ≡ 0 → ⊥) → r.board ≡ b
  write_kept a v e = kept (write_of b a v) e (write_keeps b a v)

  pub video-kept : (d : Dots) (strike : ℕ) (bkgnd rblank : Bool) → r ≡ board_given (set_video_of b d strike bkgnd rblank) b → (r.refusal ≡ 0 → ⊥) → r.board ≡ b
  video-kept d strike bkgnd rblank e = kept (set_video_of b d strike bkgnd rblank) e (video-keeps b d strike bkgnd rblank)

  pub state-kept : (chars attrs : List ℕ) (n : ℕ) → r ≡ board_given (state_of b chars attrs n) b → (r.refusal ≡ 0 → ⊥) → r.board ≡ b
  state-kept chars attrs n e = kept (state_of b chars attrs n) e (state-keeps b chars attrs n)
