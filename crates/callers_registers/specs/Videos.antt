-- Video numbers that are set again. Assumes nothing.
use Rattle.std.specs.Prelude.{ℕ, ◌*◌, ◌/◌, ◌%◌, ◌<◌, ◌≡◌, Bool, not, eqb, Ok, Err}
use Rattle.std.proofs.Math.Path.{refl, ap}
use Rattle.std.proofs.Common.{sym, ◌∙◌, mul-zero, mul-one, arith}
use Rattle.std.proofs.Math.Bool.{true, false}
use borrow.Author.Tests.{eqb-true, eqb-false}
use Rattle.lists.specs.Choice.{pick}
use Rattle.units.specs.declared.Dots.{Dots}
use Rattle.refusal.specs.Number.{Checked, number_of, given, value_or}
use Rattle.refusal.specs.Laws.{number-ok}
use Rattle.board.specs.declared.Board.{Board}
use Rattle.board.specs.Parts.{with_switches, with_page}
use Rattle.board.specs.Range.{address_refused}
use Rattle.registers.specs.Video.{video_check, with_dots, switches_set, video_set, set_video_of}
use Rattle.feldrime.specs.declared.BoardAnswer.{BoardAnswer}
use Rattle.feldrime.specs.Answers.{board_given}
use Rattle.callers_registers.specs.Ready.{judged}

-- what the call answers
abbrev pub video_answered : Board → Dots → (strike : ℕ) → (bkgnd rblank : Bool) → BoardAnswer
video_answered b d strike bkgnd rblank = board_given (set_video_of b d strike bkgnd rblank) b

-- what is judged, and its number
abbrev check : Board → Dots → (strike : ℕ) → Checked
check b d strike = video_check (with_dots b.page d strike)

abbrev pub video_number : Board → Dots → (strike : ℕ) → ℕ
video_number b d strike = number_of (check b d strike)

-- ---- the video numbers that a board has

-- a switch as a bit, given as 0 or not 0
switch-is : (n x : ℕ) → x < 2 → pick (not (eqb x 0)) n 0 ≡ n * x
switch-is n x h = go (eqb x 0) refl
  where
    go : (t : Bool) → eqb x 0 ≡ t → pick (not t) n 0 ≡ n * x
    go true t = rw (eqb-true x 0 t) (sym (mul-zero n))
    go false t = let one : x ≡ 1 = omega (arith, eqb-false x 0 t) in rw one (sym (mul-one n))

switches-are : (s : ℕ) → switches_set s (not (eqb (s / 4 % 2) 0)) (not (eqb (s / 8 % 2) 0)) ≡ s
switches-are s = rw (switch-is 4 (s / 4 % 2) (omega arith), switch-is 8 (s / 8 % 2) (omega arith)) (omega arith)

video-same : (b : Board) → value_or b (set_video_of b b.page.video.dots b.page.video.strike (not (eqb (b.page.switches / 4 % 2) 0)) (not (eqb (b.page.switches / 8 % 2) 0))) ≡ b
unfolding set_video_of
video-same b = go (check b b.page.video.dots b.page.video.strike)
  where
    go : (c : Checked)
        → value_or b (given c (video_set b b.page.video.dots b.page.video.strike (not (eqb (b.page.switches / 4 % 2) 0)) (not (eqb (b.page.switches / 8 % 2) 0)))) ≡ b
    go (Ok tt) = rw (switches-are b.page.switches)
    go (Err why) = refl

pub same-video : (b : Board) {r : BoardAnswer}
    → r ≡ video_answered b b.page.video.dots b.page.video.strike (not (eqb (b.page.switches / 4 % 2) 0)) (not (eqb (b.page.switches / 8 % 2) 0)) → r.board ≡ b
same-video b e = ap (λ (z : BoardAnswer). z.board) e ∙ video-same b

-- ---- set twice

-- the upper four switches and the lower two stay
switches-stay : (s : ℕ) (bkgnd rblank : Bool) → (switches_set s bkgnd rblank / 16 ≡ s / 16) × (switches_set s bkgnd rblank % 4 ≡ s % 4)
switches-stay s true true = (omega arith, omega arith)
switches-stay s true false = (omega arith, omega arith)
switches-stay s false true = (omega arith, omega arith)
switches-stay s false false = (omega arith, omega arith)

module _ (d : Dots) (strike : ℕ) (bkgnd rblank : Bool) where
  -- numbers that are set on a board x
  set_is : (x : Board) {r : BoardAnswer} → r ≡ video_answered x d strike bkgnd rblank
      → (r.refusal ≡ video_number x d strike) × (r.refusal ≡ 0 → r.board ≡ video_set x d strike bkgnd rblank)
  unfolding set_video_of
  set_is x {r} e = go (check x d strike) e
    where
      go : (c : Checked) → r ≡ board_given (given c (video_set x d strike bkgnd rblank)) x → (r.refusal ≡ number_of c) × (r.refusal ≡ 0 → r.board ≡ video_set x d strike bkgnd rblank)
      go (Ok tt) p = (ap (λ (y : BoardAnswer). y.refusal) p, λ q. ap (λ (y : BoardAnswer). y.board) p)
      go (Err why) p =
          let number : r.refusal ≡ number_of (Err why) = ap (λ (y : BoardAnswer). y.refusal) p in
          (number, λ q. absurd (eqb-false _ _ (number-ok (Err why)) (sym number ∙ q)))

  -- they are judged and set as they were where others are set before them
  module _ (b : Board) (d₀ : Dots) (strike₀ : ℕ) (bkgnd₀ rblank₀ : Bool) where
    abbrev between : Board
    between = video_set b d₀ strike₀ bkgnd₀ rblank₀

    judged-same : video_number between d strike ≡ video_number b d strike
    unfolding video_check address_refused
    judged-same = rw (judged b.page.version between.page.switches b.page.switches (switches-stay b.page.switches bkgnd₀ rblank₀).0)

    set-over : video_set between d strike bkgnd rblank ≡ video_set b d strike bkgnd rblank
    set-over =
        let stay = switches-stay b.page.switches bkgnd₀ rblank₀ in
        let same : switches_set between.page.switches bkgnd rblank ≡ switches_set b.page.switches bkgnd rblank = rw (stay.0, stay.1) in
        ap (λ (k : ℕ). with_page b (with_dots (with_switches b.page k) d strike)) same

    pub set_last : {one two : BoardAnswer} → one ≡ video_answered b d₀ strike₀ bkgnd₀ rblank₀ → two ≡ video_answered one.board d strike bkgnd rblank
        → (two.refusal ≡ video_number b d strike) × (two.refusal ≡ 0 → two.board ≡ video_set b d strike bkgnd rblank)
    unfolding set_video_of
    set_last {one} {two} e q = go (check b d₀ strike₀) (ap (λ (y : BoardAnswer). y.board) e)
      where
        on : (x : Board) → one.board ≡ x → two ≡ video_answered x d strike bkgnd rblank
        on x p = q ∙ ap (λ (y : Board). video_answered y d strike bkgnd rblank) p

        go : (c : Checked) → one.board ≡ value_or b (given c between) → (two.refusal ≡ video_number b d strike) × (two.refusal ≡ 0 → two.board ≡ video_set b d strike bkgnd rblank)
        go (Err why) p = set_is b (on b p)
        go (Ok tt) p =
            let r = set_is between (on between p) in
            (r.0 ∙ judged-same, λ z. r.1 z ∙ set-over)
