-- The board after n single steps from clock 0 is the board at clock n, where nothing is refused. Assumes nothing.
--     accepts        no step is refused there
--     steps-are      so the board is that at clock n
--     step-answers   and each step answers 0
use Prim.Native.Nat.{ℕ, zero, suc, ◌/◌, ◌<◌}
use Rattle.std.specs.Prelude.{◌≡◌, false, List}
use Rattle.std.proofs.Math.Path.{ap}
use Rattle.std.proofs.Common.{◌∙◌}
use Rattle.std.proofs.Math.Nat.{mod-lt, zero-div, zero-mod}
use native.Mathlib.Omega.{arith}
use Rattle.refusal.specs.Number.{unrefused}
use Rattle.board.specs.declared.Board.{Board}
use Rattle.board.specs.State.{clock_zero}
use Rattle.board.specs.Parts.{with_place}
use Rattle.timing.specs.Fields.{ht_of, vt_of}
use Rattle.timing.specs.Check.{page_check}
use Rattle.timing.specs.Laws.{InRange, call-passed, range-ok, call_ok, call-page}
use Rattle.shape.specs.Font.{Font}
use Rattle.video.specs.At.{lent_check}
use Rattle.video.specs.Lent.{Lent, lent}
use Rattle.place.specs.Place.{clock_in, line_in, frame_in, carried_before, place_at}
use Rattle.place.specs.Walk.{carried-small, next_place_lem}
use Rattle.step.specs.Step.{stepped_of, step_check, step_of}

unfoldable pub after : Board → (chars attrs : List ℕ) → Font → ℕ → Board
after b chars attrs f zero = with_place b clock_zero
after b chars attrs f (suc n) = (step_of (after b chars attrs f n) chars attrs f).board

module _ (b : Board) (chars attrs : List ℕ) (f : Font) (ok : step_check b chars attrs f ≡ unrefused) where
  pub fits : Lent b chars attrs f.words f.flags
  fits = lent b chars attrs f false false ok

  pub page-ok : page_check b.page ≡ unrefused
  page-ok = call-page b (lent_check chars attrs f) false false ok

  lent_ok : lent_check chars attrs f ≡ unrefused
  lent_ok = (call-passed b (lent_check chars attrs f) false false ok).lent-fine

  -- the board at clock n, at once
  abbrev pub at_clock : ℕ → Board
  at_clock n = with_place b (place_at b.page chars attrs n)

  pub clock-in-range : (n : ℕ) → InRange (at_clock n)
  unfolding place_at
  clock-in-range n =
      let p = b.page in
      let h : 0 < ht_of p = omega arith in
      let v : 0 < vt_of p = omega arith in
      let c = carried-small p chars attrs fits.page (clock_in p n) (line_in p n) (frame_in p n) in
      record {
        line-lt = mod-lt (n / ht_of p) v;
        clock-lt = mod-lt n h;
        beam-le = omega (arith, c.beam-lt);
        row-le = omega (arith, c.row-address-lt);
        pointer-le = fits.state.pointer-le;
      }

  pub accepts : (n : ℕ) → step_check (at_clock n) chars attrs f ≡ unrefused
  accepts n = call_ok (at_clock n) (lent_check chars attrs f) lent_ok page-ok (range-ok (at_clock n) (clock-in-range n))

  -- a step that nothing refuses
  pub step_is : (n : ℕ) → step_of (at_clock n) chars attrs f ≡ stepped_of (at_clock n) chars attrs f
  unfolding step_of
  step_is n = rw (accepts n)

  begins-at-zero : with_place b clock_zero ≡ at_clock 0
  unfolding place_at carried_before
  begins-at-zero = simp (zero-div, zero-mod)

  step-on : (n : ℕ) → (step_of (at_clock n) chars attrs f).board ≡ at_clock (suc n)
  unfolding stepped_of
  step-on n = rw (step_is n) (ap (with_place b) (next_place_lem b.page chars attrs fits.page n))

  pub steps-are : (n : ℕ) → after b chars attrs f n ≡ at_clock n
  unfolding after
  steps-are zero = begins-at-zero
  steps-are (suc n) = ap (λ (x : Board). (step_of x chars attrs f).board) (steps-are n) ∙ step-on n

  pub step-answers : (n : ℕ) → (step_of (after b chars attrs f n) chars attrs f).refusal ≡ unrefused
  unfolding stepped_of
  step-answers n = rw (steps-are n, step_is n)
