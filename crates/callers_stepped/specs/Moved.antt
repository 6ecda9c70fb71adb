-- A page that is moved and drawn over its picture leaves the picture, and what a clock of it puts out stays. Assumes nothing.
use Prim.Native.Nat.{ℕ, zero, suc, ◌+◌}
use Rattle.std.specs.Prelude.{◌≡◌, Bool, List, ◌++◌, length, is_ok, Err}
use Rattle.std.proofs.Math.Path.{refl, sym, ap}
use Rattle.std.proofs.Common.{◌∙◌, zero-add, eqb-true, drop_at}
use Rattle.std.proofs.Math.Bool.{true, false}
use Rattle.std.proofs.Math.ListN.{drop}
use Rattle.lists.specs.Choice.{pick}
use Rattle.refusal.specs.declared.Refusal.TheVariants.{Size}
use Rattle.refusal.specs.Number.{Checked, number_of, value_or}
use Rattle.refusal.specs.Laws.{done-is}
use Rattle.board.specs.declared.Board.{Board}
use Rattle.shape.specs.Font.{Font, font_of}
use Rattle.video.specs.At.{lent_check}
use Rattle.picture.specs.Picture.{picture_dots, picture_length, picture_check, pictured_of}
use Rattle.place.specs.State.{state_of}
use Rattle.step.specs.Step.{step_check, step_of}
use Rattle.numbers.specs.Numbers.{numbers_refused, numbers_board}
use Rattle.feldrime.specs.declared.Answer.{Answer}
use Rattle.feldrime.specs.declared.BoardAnswer.{BoardAnswer}
use Rattle.feldrime.specs.declared.StepAnswer.{StepAnswer}
use Rattle.feldrime.specs.declared.StepBy.{StepBy}
use Rattle.feldrime.specs.Answers.{answer_of}
use Rattle.feldrime.specs.Pages.{board_for}
use Rattle.feldrime.specs.PictureDraw.{picture_draw_check, picture_drawn}
use Rattle.feldrime.specs.Catalogue.{to_table_numbers, to_table_chars, to_sheet_numbers}
use Rattle.feldrime.specs.Step.{step_numbers}
use Rattle.agreement.specs.Steps.{at_once}
use Rattle.agreement.specs.FromC.{after_c, step_c, steps-made}
use Rattle.agreement.specs.CatalogueFromC.{same-on, table_same, sheet-same}
use Rattle.callers_stepped.specs.States.{stepped_to}
use Rattle.callers_stepped.specs.Pictures.{pictured, dots-long, same_length}

-- ---- a picture drawn over itself

module _ (numbers chars attrs words flags unshifted shifted groups : List ℕ) (field : ℕ) where
  abbrev f : Font
  f = font_of words flags unshifted shifted groups

  abbrev draw : List ℕ → List ℕ
  draw = picture_drawn numbers chars attrs f field

  refused-kept : (out : List ℕ) → is_ok (picture_draw_check numbers chars attrs f (length out)) ≡ false → draw out ≡ out
  unfolding picture_draw_check picture_drawn pictured_of
  refused-kept out = go (numbers_refused numbers) (picture_check (numbers_board numbers) (lent_check chars attrs f) (length out))
    where
      go : (t : Bool) (r : Checked) → is_ok (pick t (Err Size) r) ≡ false
          → pick t out (pick (is_ok r) (picture_dots (numbers_board numbers) chars attrs f field ++ drop (picture_length (numbers_board numbers).page) out) out) ≡ out
      go true r e = refl
      go false r e = rw e

  pub drawn-long : (out : List ℕ) → length (draw out) ≡ length out
  drawn-long out = go (is_ok (picture_draw_check numbers chars attrs f (length out))) refl
    where
      go : (t : Bool) → is_ok (picture_draw_check numbers chars attrs f (length out)) ≡ t → length (draw out) ≡ length out
      go true e =
          let zero = ap number_of (done-is _ e) in
          same_length numbers chars attrs words flags unshifted shifted groups field out zero (draw out) (pictured numbers chars attrs words flags unshifted shifted groups field out zero)
      go false e = ap length (refused-kept out e)

  pub drawn-again : (out : List ℕ) → draw (draw out) ≡ draw out
  drawn-again out = go (is_ok (picture_draw_check numbers chars attrs f (length out))) refl
    where
      go : (t : Bool) → is_ok (picture_draw_check numbers chars attrs f (length out)) ≡ t → draw (draw out) ≡ draw out
      go false e = ap draw (refused-kept out e)
      go true e =
          let b = numbers_board numbers in
          let dots = picture_dots b chars attrs f field in
          let zero = ap number_of (done-is _ e) in
          let again : number_of (picture_draw_check numbers chars attrs f (length (draw out))) ≡ 0 = rw (drawn-long out) zero in
          let first = pictured numbers chars attrs words flags unshifted shifted groups field out zero in
          let long = dots-long numbers chars attrs words flags unshifted shifted groups field out zero in
          pictured numbers chars attrs words flags unshifted shifted groups field (draw out) again
          ∙ ap (λ (l : List ℕ). dots ++ l) (ap (drop (picture_length b.page)) first ∙ drop_at dots (drop (picture_length b.page) out) (picture_length b.page) long)
          ∙ sym first

-- ---- moved there and drawn, moved back and drawn

pub moved-drawn : (numbers chars attrs words flags unshifted shifted groups : List ℕ) (field : ℕ) (out : List ℕ) {n c m one two : List ℕ} {a : Answer}
    → n ≡ to_table_numbers numbers chars → c ≡ to_table_chars numbers chars
    → one ≡ picture_drawn n c attrs (font_of words flags unshifted shifted groups) field out
    → m ≡ to_sheet_numbers n c
    → a ≡ answer_of (picture_draw_check m c attrs (font_of words flags unshifted shifted groups) (length one))
    → two ≡ picture_drawn m c attrs (font_of words flags unshifted shifted groups) field one
    → (a ≡ answer_of (picture_draw_check numbers chars attrs (font_of words flags unshifted shifted groups) (length out)))
    × (two ≡ picture_drawn numbers chars attrs (font_of words flags unshifted shifted groups) field out)
moved-drawn numbers chars attrs words flags unshifted shifted groups field out {n} {c} {m} {one} {two} {a} ne ce first me ae second =
    let f = font_of words flags unshifted shifted groups in
    let n' = to_table_numbers numbers chars in
    let c' = to_table_chars numbers chars in
    let there = table_same numbers chars in
    let back = same-on there (sheet-same n' c') in
    let one-is : one ≡ picture_drawn numbers chars attrs f field out = rw (first, ne, ce) (sym (there.pictured attrs f field out)) in
    let long : length one ≡ length out = ap length one-is ∙ drawn-long numbers chars attrs words flags unshifted shifted groups field out in (
      rw (ae, me, ne, ce, long) (ap answer_of (sym (back.answered attrs f (length out)))),
      rw (second, me, ne, ce) (sym (back.pictured attrs f field one)) ∙ ap (picture_drawn numbers chars attrs f field) one-is ∙ drawn-again numbers chars attrs words flags unshifted shifted groups field out,
    )

-- ---- moved, and stepped

module _ (numbers chars attrs words flags unshifted shifted groups : List ℕ) where
  abbrev font : Font
  font = font_of words flags unshifted shifted groups

  abbrev start : Board
  start = (board_for numbers).board

  -- a step that is refused leaves the board, and so does the next one
  stays : is_ok (step_check start chars attrs font) ≡ false → (n : ℕ) → after_c numbers chars attrs words flags unshifted shifted groups n ≡ start
  unfolding after_c step_of
  stays e zero = refl
  stays e (suc n) = ap (λ (x : Board). (step_of x chars attrs font).board) (stays e n) ∙ rw e

  reached : (n : ℕ) → (stepped_to start chars attrs font n).board ≡ after_c numbers chars attrs words flags unshifted shifted groups n
  unfolding stepped_to
  reached n = go (is_ok (step_check start chars attrs font)) refl
    where
      go : (t : Bool) → is_ok (step_check start chars attrs font) ≡ t
          → pick t (value_or start (state_of start chars attrs n)) start ≡ after_c numbers chars attrs words flags unshifted shifted groups n
      go true e = (at_once start chars attrs font (done-is _ e) n).1 ∙ sym (steps-made numbers chars attrs words flags unshifted shifted groups n)
      go false e = sym (stays e n)

  pub stepped-after : (n : ℕ) {m : BoardAnswer} → m ≡ board_for numbers → {r : BoardAnswer} → r ≡ stepped_to m.board chars attrs font (0 + n)
      → {s : StepBy} → s ≡ step_numbers r.board chars attrs words flags unshifted shifted groups → s.answer ≡ step_c numbers chars attrs words flags unshifted shifted groups n
  stepped-after n me re se = rw (se, re, me, zero-add n) (ap (λ (x : Board). (step_numbers x chars attrs words flags unshifted shifted groups).answer) (reached n))

  -- after either move
  pub table-stepped : (k : ℕ) {n c : List ℕ} → n ≡ to_table_numbers numbers chars → c ≡ to_table_chars numbers chars → {a : StepAnswer} → a ≡ step_c n c attrs words flags unshifted shifted groups k
      → a ≡ step_c numbers chars attrs words flags unshifted shifted groups k
  table-stepped k ne ce ae = rw (ae, ne, ce) (sym ((table_same numbers chars).stepped attrs words flags unshifted shifted groups k))

  pub sheet-stepped : (k : ℕ) {n : List ℕ} → n ≡ to_sheet_numbers numbers chars → {a : StepAnswer} → a ≡ step_c n chars attrs words flags unshifted shifted groups k
      → a ≡ step_c numbers chars attrs words flags unshifted shifted groups k
  sheet-stepped k ne ae = rw (ae, ne) (sym ((sheet-same numbers chars).stepped attrs words flags unshifted shifted groups k))
