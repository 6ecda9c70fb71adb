-- Rests on clock-done and clock-refused, by whether something refuses.
use Rattle.std.specs.Prelude.{is_ok}
use mathlib.Core.Path.{◌≡◌, sym, ap, ◌∙◌}
use mathlib.Core.Bool.{Bool, true, false}
use Rattle.refusal.specs.Laws.{done-is}
use Rattle.refusal.specs.Number.{Checked}
use Rattle.timing.specs.Check.{call_check}
use Rattle.step.specs.Step.{step_check}
use Rattle.shape.specs.Font.{Font, font_of}
use Rattle.video.specs.At.{lent_by}
use Rattle.video.specs.Lent.{Lent, lent}
use Rattle.step.specs.Laws.{clock-done, clock-refused}
use Rattle.step.proofs.clock_of.Goals as goal

pub loaded_at-c-requires : goal.loaded_at-c-requires
loaded_at-c-requires c =
    let font : Font = font_of c.args.words.now c.args.flags.now c.args.unshifted.now c.args.shifted.now c.args.groups.now in
    let asked : Checked = step_check c.args.b c.args.chars.now c.args.attrs.now font in
    let check : call_check c.args.b (lent_by c.lent_refused-size.result c.args.groups.now) false false ≡ asked = ap (λ (size : Bool). call_check c.args.b (lent_by size c.args.groups.now) false false) c.lent_refused-size.ensures in
    let done : is_ok asked ≡ c.clear.result = ap is_ok (sym check) ∙ sym c.clear.ensures in
    let whole : c.clear.result ≡ true
    → Lent c.args.b c.args.chars.now c.args.attrs.now c.args.words.now c.args.flags.now = λ t. lent _ _ _ font false false (done-is _ (done ∙ t)) in
    (whole c.if-clear.true).chars-all

pub one_clock-requires : goal.one_clock-requires
one_clock-requires c =
    let font : Font = font_of c.args.words.now c.args.flags.now c.args.unshifted.now c.args.shifted.now c.args.groups.now in
    let asked : Checked = step_check c.args.b c.args.chars.now c.args.attrs.now font in
    let check : call_check c.args.b (lent_by c.lent_refused-size.result c.args.groups.now) false false ≡ asked = ap (λ (size : Bool). call_check c.args.b (lent_by size c.args.groups.now) false false) c.lent_refused-size.ensures in
    let done : is_ok asked ≡ c.clear.result = ap is_ok (sym check) ∙ sym c.clear.ensures in
    let whole : c.clear.result ≡ true
    → Lent c.args.b c.args.chars.now c.args.attrs.now c.args.words.now c.args.flags.now = λ t. lent _ _ _ font false false (done-is _ (done ∙ t)) in
    record { lent = whole c.if-clear.true; c_value = (c.loaded_at-c.ensures, c.active_at-active.ensures) }

pub returns-then-clear : goal.returns-then-clear
returns-then-clear c =
    let font : Font = font_of c.args.words.now c.args.flags.now c.args.unshifted.now c.args.shifted.now c.args.groups.now in
    let asked : Checked = step_check c.args.b c.args.chars.now c.args.attrs.now font in
    let check : call_check c.args.b (lent_by c.lent_refused-size.result c.args.groups.now) false false ≡ asked = ap (λ (size : Bool). call_check c.args.b (lent_by size c.args.groups.now) false false) c.lent_refused-size.ensures in
    let done : is_ok asked ≡ c.clear.result = ap is_ok (sym check) ∙ sym c.clear.ensures in
    let whole : c.clear.result ≡ true
    → Lent c.args.b c.args.chars.now c.args.attrs.now c.args.words.now c.args.flags.now = λ t. lent _ _ _ font false false (done-is _ (done ∙ t)) in
    clock-done _ _ _ font (done ∙ c.if-clear.true) (whole c.if-clear.true).page.most _ c.loaded_at-c.ensures
    _ c.active_at-active.ensures _ c.line_in-line.ensures _ c.one_clock.ensures

pub returns : goal.returns
returns c =
    let font : Font = font_of c.args.words.now c.args.flags.now c.args.unshifted.now c.args.shifted.now c.args.groups.now in
    let asked : Checked = step_check c.args.b c.args.chars.now c.args.attrs.now font in
    let check : call_check c.args.b (lent_by c.lent_refused-size.result c.args.groups.now) false false ≡ asked = ap (λ (size : Bool). call_check c.args.b (lent_by size c.args.groups.now) false false) c.lent_refused-size.ensures in
    let done : is_ok asked ≡ c.clear.result = ap is_ok (sym check) ∙ sym c.clear.ensures in
    clock-refused _ _ _ _ (done ∙ c.if-clear.false) _ (c.refused_by.ensures ∙ check)
