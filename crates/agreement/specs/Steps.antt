-- Promise 3: the state worked out at once for clock n is the state after n single steps. All of it speaks of the public `step` and `state_at`. Assumes nothing.
use Rattle.std.specs.Prelude.{ℕ, ◌≡◌, refl, List, length}
use Rattle.std.proofs.Common.{sym, ◌∙◌, eq-eqb}
use Rattle.refusal.specs.Number.{unrefused, wrong_size, check_of, value_or}
use Rattle.refusal.specs.Laws.{check-given}
use Rattle.board.specs.declared.Board.{Board}
use Rattle.board.specs.Range.{memories_refused}
use Rattle.timing.specs.Laws.{range-ok, call_ok}
use Rattle.shape.specs.Font.{Font}
use Rattle.place.specs.State.{state_check, state_of}
use Rattle.step.specs.Step.{step_check}
use Rattle.step.specs.After.{after, fits, page-ok, at_clock, clock-in-range, steps-are}

module _ (b : Board) (chars attrs : List ℕ) (f : Font) (ok : step_check b chars attrs f ≡ unrefused) where
  memories-ok : wrong_size (memories_refused (length chars) (length attrs)) ≡ unrefused
  memories-ok = rw (eq-eqb _ _ (fits b chars attrs f ok).chars-all, eq-eqb _ _ (fits b chars attrs f ok).attrs-all)

  state-ok : state_check b chars attrs ≡ unrefused
  state-ok = call_ok b (wrong_size (memories_refused (length chars) (length attrs))) memories-ok (page-ok b chars attrs f ok) (range-ok b (fits b chars attrs f ok).state)

  state-ok-at : (n : ℕ) → state_check (at_clock b chars attrs f ok n) chars attrs ≡ unrefused
  state-ok-at n = call_ok (at_clock b chars attrs f ok n) (wrong_size (memories_refused (length chars) (length attrs))) memories-ok (page-ok b chars attrs f ok) (range-ok (at_clock b chars attrs f ok n) (clock-in-range b chars attrs f ok n))

  -- [demand at-once] the state for clock n is the state after n single steps
  -- the state for clock n answers 0 and is the board after n single steps from clock 0
  pub at_once : (n : ℕ) → (check_of (state_of b chars attrs n) ≡ unrefused) × (value_or b (state_of b chars attrs n) ≡ after b chars attrs f n)
  unfolding state_of
  at_once n = (check-given (state_check b chars attrs) _ ∙ state-ok, rw state-ok (sym (steps-are b chars attrs f ok n)))

  -- [demand at-once]
  -- the board that is asked may itself stand at any clock m
  pub at-once-anywhere : (m n : ℕ) → (check_of (state_of (after b chars attrs f m) chars attrs n) ≡ unrefused)
      × (value_or (after b chars attrs f m) (state_of (after b chars attrs f m) chars attrs n) ≡ after b chars attrs f n)
  unfolding state_of
  at-once-anywhere m n = rw (steps-are b chars attrs f ok m, steps-are b chars attrs f ok n, state-ok-at m) (refl, refl)
