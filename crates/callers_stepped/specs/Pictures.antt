-- A line that is drawn again over its picture stands there already. Assumes nothing.
use Rattle.std.specs.Prelude.{ℕ, zero, suc, ◌+◌, ◌*◌, ◌-◌, ◌≤◌, ◌<◌, ◌≡◌, List, ◌++◌, ltb, length, take, drop, Err}
use Rattle.std.proofs.Math.Path.{refl, ap}
use Rattle.std.proofs.Common.{◌∙◌, append_assoc, zero-mul, suc-mul, add-zero, zero-add, not-suc-le-zero, le_of_suc-le-suc, mul-le-mul, arith, take-append-drop, length-append, length-take, length-drop, take_at, drop-drop}
use Rattle.std.proofs.Math.Bool.{false}
use Rattle.std.proofs.Math.Seq.{drop-append-add}
use Rattle.lists.specs.Fill.{lent}
use Rattle.lists.specs.Join.{joined, length-joined, stretch-inside}
use Rattle.refusal.specs.Number.{unrefused}
use Rattle.refusal.specs.declared.Refusal.TheVariants.{Size}
use Rattle.refusal.specs.Laws.{passed, zero-done}
use Rattle.board.specs.declared.Board.{Board}
use Rattle.timing.specs.Fields.{visible_of}
use Rattle.timing.specs.Check.{page_check, size_of}
use Rattle.timing.specs.Laws.{Accepted, call-passed, visible-bound, dots-bound, call-page}
use Rattle.shape.specs.Font.{Font, font_of}
use Rattle.video.specs.At.{lent_check}
use Rattle.line.specs.Line.{line_dots, line_length}
use Rattle.line.specs.Length.{length-line}
use Rattle.picture.specs.Picture.{picture_dots, picture_length, picture_check, pictured_of}
use Rattle.picture.specs.Agree.{picture-passed}
use Rattle.step.specs.Step.{step_check}
use Rattle.step.specs.After.{fits}
use Rattle.numbers.specs.Numbers.{numbers_refused, numbers_board, numbers_check}
use Rattle.feldrime.specs.declared.SizeAnswer.{SizeAnswer}
use Rattle.feldrime.specs.Answers.{answer_of, size_answer}
use Rattle.feldrime.specs.Pages.{size_for}
use Rattle.feldrime.specs.LineDraw.{line_drawn}
use Rattle.feldrime.specs.PictureDraw.{picture_draw_check, picture_drawn}
use Rattle.agreement.specs.Lines.{draw-is}
use Rattle.agreement.specs.FromC.{fit-from-c}

-- stretch l of stretches that are d long
stretch : (f : ℕ → List ℕ) (d : ℕ) → ((c : ℕ) → length (f c) ≡ d) → (rest : List ℕ) (n c l : ℕ) → l < n → take d (drop (l * d) (joined c n f ++ rest)) ≡ f (c + l)
unfolding joined
stretch f d each rest zero c l h = absurd (not-suc-le-zero h)
stretch f d each rest (suc n) c zero h = rw (zero-mul, append_assoc, add-zero) (take_at (f c) (joined (suc c) n f ++ rest) d (each c))
stretch f d each rest (suc n) c (suc l) h =
    let e : suc l * d ≡ length (f c) + l * d = omega (arith, suc-mul l d, each c) in
    let k : c + suc l ≡ suc c + l = omega arith in
    rw (e, append_assoc, k, drop-append-add (f c) (joined (suc c) n f ++ rest) (l * d)) (stretch f d each rest n (suc c) l (le_of_suc-le-suc h))

-- a part put where it stands
again : (xs p : List ℕ) (a d : ℕ) → take d (drop a xs) ≡ p → take a xs ++ (p ++ drop (a + d) xs) ≡ xs
again xs p a d e =
    rw (← e, ← drop-drop d a xs, take-append-drop d (drop a xs)) (take-append-drop a xs)

module _ (numbers chars attrs words flags unshifted shifted groups : List ℕ) (field : ℕ) (out₀ : List ℕ)
    (done : (answer_of (picture_draw_check numbers chars attrs (font_of words flags unshifted shifted groups) (length out₀))).refusal ≡ 0) where
  abbrev b : Board
  b = numbers_board numbers

  abbrev f : Font
  f = font_of words flags unshifted shifted groups

  taken : (numbers_refused numbers ≡ false) × (picture_check b (lent_check chars attrs f) (length out₀) ≡ unrefused)
  unfolding picture_draw_check
  taken = passed (numbers_refused numbers) (Err Size) _ refl (zero-done _ done)

  page-ok : page_check b.page ≡ unrefused
  unfolding picture_check
  page-ok = call-page b (lent_check chars attrs f) false (ltb (length out₀) (picture_length b.page)) taken.1

  step_ok : step_check b chars attrs f ≡ unrefused
  unfolding numbers_check picture_check
  step_ok =
      fit-from-c numbers chars attrs words flags unshifted shifted groups (rw taken.0 page-ok)
      (call-passed b (lent_check chars attrs f) false (ltb (length out₀) (picture_length b.page)) taken.1).lent-fine

  page : Accepted b.page
  page = (fits b chars attrs f step_ok).page

  roomy : picture_length b.page ≤ length out₀
  roomy = (picture-passed b chars attrs f (length out₀) taken.1).1

  pub pictured : picture_drawn numbers chars attrs f field out₀ ≡ picture_dots b chars attrs f field ++ drop (picture_length b.page) out₀
  unfolding picture_drawn pictured_of
  pictured = rw (taken.0, taken.1)

  pub dots-long : length (picture_dots b chars attrs f field) ≡ picture_length b.page
  unfolding picture_dots
  dots-long = length-joined (λ (l : ℕ). line_dots b chars attrs f l field) (line_length b) (λ l. length-line b chars attrs f l field page) 0 (visible_of b.page).0

  pub same_length : (xs : List ℕ) → xs ≡ picture_dots b chars attrs f field ++ drop (picture_length b.page) out₀ → length xs ≡ length out₀
  same_length xs e = ap length e ∙ rw (length-append, dots-long, length-drop) (omega (arith, roomy))

  -- where a line stands in the buffer
  module _ (size : SizeAnswer) (sized : size ≡ size_for numbers) (line : ℕ) (h : line < size.lines) where
    size_is : size ≡ size_answer unrefused (visible_of b.page).0 (line_length b)
    unfolding size_for size_of
    size_is = sized ∙ rw (taken.0, page-ok)

    visible : line < (visible_of b.page).0
    visible = rw size_is at h

    pub place-small : line * size.dots < 6291456
    place-small =
        let l : line ≤ 2047 = omega (arith, visible, visible-bound b.page) in
        rw size_is (omega (arith, mul-le-mul l (dots-bound b.page page)))

    pub place_in : line * size.dots + line_length b ≤ length out₀
    place_in = rw size_is (stretch-inside line (visible_of b.page).0 (line_length b) (length out₀) visible roomy)

    inside : line * line_length b + line_length b ≤ length out₀
    inside = rw size_is at place_in

    over : (xs ys : List ℕ) → length xs ≡ length out₀ → xs ≡ picture_dots b chars attrs f field ++ drop (picture_length b.page) out₀
        → ys ≡ line_dots b chars attrs f line field ++ drop (line_length b) (take (length xs - line * line_length b) (drop (line * line_length b) xs))
        → take (line * line_length b) xs ++ (ys ++ drop (length xs - line * line_length b) (drop (line * line_length b) xs)) ≡ xs
    unfolding picture_dots
    over xs ys n e q =
        lent xs ys (line_dots b chars attrs f line field) (line * line_length b) (line_length b) (omega (arith, inside, n)) q
        ∙ again xs (line_dots b chars attrs f line field) (line * line_length b) (line_length b)
        (rw e
        (stretch (λ (l : ℕ). line_dots b chars attrs f l field) (line_length b) (λ l. length-line b chars attrs f l field page) _ (visible_of b.page).0 0 line visible
        ∙ ap (λ (l : ℕ). line_dots b chars attrs f l field) (zero-add line)))

    written : (part : List ℕ) → line_length b ≤ length part → line_drawn numbers chars attrs f line field part ≡ line_dots b chars attrs f line field ++ drop (line_length b) part
    unfolding line_drawn
    written part room = rw taken.0 (draw-is b chars attrs f step_ok line visible field part room)

    -- the line's call leaves the picture as it is
    pub stays : (xs ys : List ℕ) → xs ≡ picture_drawn numbers chars attrs f field out₀
        → ys ≡ line_drawn numbers chars attrs f line field (take (length xs - line * size.dots) (drop (line * size.dots) xs))
        → take (line * size.dots) xs ++ (ys ++ drop (length xs - line * size.dots) (drop (line * size.dots) xs))
        ≡ picture_drawn numbers chars attrs f field out₀
    stays xs ys e q =
        let n : length xs ≡ length out₀ = same_length xs (e ∙ pictured) in
        let part : List ℕ = take (length xs - line * line_length b) (drop (line * line_length b) xs) in
        rw size_is (over xs ys n (e ∙ pictured) ((rw size_is at q) ∙ written part (simp (length-take, length-drop) (omega (arith, inside, n)))) ∙ e)
