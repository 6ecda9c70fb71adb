-- Two boards that fetch the same bytes (`Views.antt`), as the calls show them: what `draw_picture` answers and leaves, and what every `step` from clock 0 puts out. Assumes nothing.
use Rattle.std.specs.Prelude.{ℕ, ◌≡◌, List, length}
use Rattle.std.proofs.Common.{sym, ap, ◌∙◌}
use Rattle.std.proofs.Math.Bool.{false}
use Rattle.refusal.specs.Number.{Checked, unrefused}
use Rattle.board.specs.declared.Board.{Board}
use Rattle.board.specs.Parts.{with_page}
use Rattle.timing.specs.Check.{page_check, state_refused, call_check}
use Rattle.timing.specs.Laws.{call-passed, range-ok, call_ok}
use Rattle.shape.specs.Font.{Font}
use Rattle.video.specs.At.{lent_check}
use Rattle.picture.specs.Picture.{picture_length, picture_check, pictured_of}
use Rattle.step.specs.Step.{step_check}
use Rattle.alike.specs.Pages.{same-hact, same-visible, same-state}
use Rattle.alike.specs.Views.{View, page_of, Alike}
use Rattle.alike.specs.Drawn.{alike-picture}
use Rattle.alike.specs.Steps.{SameStep, alike-step}

-- what refuses a view's memories, or a font
abbrev pub lent_of : View → Font → Checked
lent_of v f = lent_check v.chars v.attrs f

-- one shows what the other shows, with any font
pub record Shows (v w : View) : Type 0 where
  pub accepted : page_check (page_of w) ≡ unrefused
  pub lent : (f : Font) → lent_of v f ≡ lent_of w f
  pub answered : (f : Font) (room : ℕ) → picture_check v.board (lent_of v f) room ≡ picture_check w.board (lent_of w f) room
  pub pictured : (f : Font) (field : ℕ) (out : List ℕ) → pictured_of v.board v.chars v.attrs f field out ≡ pictured_of w.board w.chars w.attrs f field out
  pub stepped : (f : Font) → step_check v.board v.chars v.attrs f ≡ unrefused → (step_check w.board w.chars w.attrs f ≡ unrefused) × ((k : ℕ) → SameStep v w f k)

-- one move after another
pub shows-on : {u v w : View} → Shows u v → Shows v w → Shows u w
shows-on {w = w} s t = record {
  accepted = t.accepted;
  lent = λ f. s.lent f ∙ t.lent f;
  answered = λ f room. s.answered f room ∙ t.answered f room;
  pictured = λ f field out. s.pictured f field out ∙ t.pictured f field out;
  stepped = λ f ok.
      let first = s.stepped f ok in
      let second = t.stepped f first.0 in (
        second.0,
        λ k. record {
          board = ap (λ (b : Board). with_page b (page_of w)) (first.1 k).board ∙ (second.1 k).board;
          signals = (first.1 k).signals ∙ (second.1 k).signals;
          address = (first.1 k).address ∙ (second.1 k).address;
          dots = (first.1 k).dots ∙ (second.1 k).dots;
        },
      );
}

module _ {v w : View} (a : Alike v w) (chars-long : length v.chars ≡ length w.chars) (attrs-long : length v.attrs ≡ length w.attrs)
    (ok : page_check (page_of v) ≡ unrefused) (ok' : page_check (page_of w) ≡ unrefused) where
  same-room : picture_length (page_of v) ≡ picture_length (page_of w)
  same-room = rw (same-visible a.page, same-hact a.page, a.page.dots)

  same-lent : (f : Font) → lent_of v f ≡ lent_of w f
  same-lent f = rw (chars-long, attrs-long)

  state-alike : state_refused v.board ≡ state_refused w.board
  state-alike = same-state v.board (page_of w) a.page ∙ ap state_refused a.board

  same_answer : (lent : Checked) (room : ℕ) → picture_check v.board lent room ≡ picture_check w.board lent room
  unfolding picture_check call_check
  same_answer lent room = rw (ok, ok', state-alike, same-room)

  pub alike-shows : Shows v w
  unfolding pictured_of
  alike-shows = record {
    accepted = ok';
    lent = same-lent;
    answered = λ f room. rw (same-lent f) (same_answer (lent_of w f) room);
    pictured = λ f field out. rw (same-lent f, same_answer (lent_of w f) (length out), same-room, alike-picture a f field);
    stepped = λ f fine.
        let all = call-passed v.board (lent_of v f) false false fine in
        let fine' = call_ok w.board (lent_of w f) (sym (same-lent f) ∙ all.lent-fine) ok' (sym state-alike ∙ range-ok v.board all.state) in
        (fine', alike-step a f fine fine');
  }
