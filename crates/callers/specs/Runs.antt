-- A row's first run as C is answered it. Assumes nothing.
use Rattle.std.specs.Prelude.{ℕ, ◌+◌, ◌-◌, ◌≤◌, ◌≡◌, Bool, ◌&&◌, List, [], eqb, drop}
use Rattle.std.proofs.Math.Path.{refl}
use Rattle.std.proofs.Common.{ap}
use Rattle.std.proofs.Math.Bool.{true, false}
use native.Mathlib.Omega.{arith}
use borrow.Author.Tests.{eq-eqb}
use Rattle.std.proofs.Math.ListN.{length, take}
use Rattle.lists.specs.Choice.{pick}
use Rattle.refusal.specs.Number.{number_of}
use Rattle.fetch.specs.Run.{run_check, span_of, run_of, span_in}
use Rattle.fetch.specs.Laws.{span_small, run-part, span-number}
use Rattle.copies.specs.Put.{length_part}
use Rattle.numbers.specs.Numbers.{numbers_refused, numbers_board}
use Rattle.numbers.specs.Laws.{numbers-passed}
use Rattle.feldrime.specs.declared.RunAnswer.{RunAnswer}
use Rattle.feldrime.specs.declared.BoardAnswer.{BoardAnswer}
use Rattle.feldrime.specs.Pages.{run_for, board_for}
use Rattle.callers.specs.Sizes.{made-done}

-- the run of the numbers' board; nothing where the numbers are refused
unfoldable pub run_part : (numbers chars : List ℕ) → ℕ → List ℕ
run_part numbers chars row = pick (numbers_refused numbers) [] (run_of (numbers_board numbers) chars row)

-- where it begins
unfoldable pub run_start : (numbers chars : List ℕ) → ℕ → ℕ
run_start numbers chars row = pick (numbers_refused numbers) 0 (span_in (numbers_board numbers) chars row).start

module _ (numbers chars : List ℕ) (row : ℕ) {a : RunAnswer} (e : a ≡ run_for numbers chars row) where
  pub run_inside : (a.first + a.count ≤ 16384) × (a.first + a.count ≤ length chars)
  unfolding run_for
  run_inside = go (numbers_refused numbers) refl
    where
      go : (t : Bool) → numbers_refused numbers ≡ t → (a.first + a.count ≤ 16384) × (a.first + a.count ≤ length chars)
      go true t = rw (e, t) (omega arith, omega arith)
      go false t = rw (e, t) (span_small (numbers_board numbers) chars row)

  pub run_is : take (a.first + a.count - a.first) (drop a.first chars) ≡ run_part numbers chars row
  unfolding run_for run_part
  run_is = go (numbers_refused numbers) refl
    where
      go : (t : Bool) → numbers_refused numbers ≡ t → take (a.first + a.count - a.first) (drop a.first chars) ≡ run_part numbers chars row
      go true t = rw (e, t)
      go false t = rw (e, t) (run-part (numbers_board numbers) chars row (span_in (numbers_board numbers) chars row) refl)

  pub start_is : a.first ≡ run_start numbers chars row
  unfolding run_for run_start
  start_is = go (numbers_refused numbers) refl
    where
      go : (t : Bool) → numbers_refused numbers ≡ t → a.first ≡ run_start numbers chars row
      go true t = rw (e, t)
      go false t = rw (e, t)

  module _ {m : BoardAnswer} (made : m ≡ board_for numbers) (done : m.refusal ≡ 0) where
    count-is : length (run_of (numbers_board numbers) chars row) ≡ (span_in (numbers_board numbers) chars row).count
    unfolding run_of
    count-is = length_part chars (span_in (numbers_board numbers) chars row).start (span_in (numbers_board numbers) chars row).count (span_small (numbers_board numbers) chars row).1

    pub runs_same : {part : List ℕ} {n : ℕ} → part ≡ run_of m.board chars row → n ≡ number_of (run_check m.board (length chars) row) → (eqb a.refusal n && eqb a.count (length part)) ≡ true
    unfolding run_for
    runs_same p q =
        rw (e, q, p, (made-done numbers made done).1, numbers-passed numbers (made-done numbers made done).0, count-is, eq-eqb (span_in (numbers_board numbers) chars row).count _ refl)
        (rw (eq-eqb _ _ (ap number_of (span-number (numbers_board numbers) chars row))))
