-- Rests on the tests in their order; visit-on for a record that alters nothing.
use mathlib.Core.Path.{◌≡◌, refl, sym, ap, ◌∙◌}
use mathlib.Core.Bool.{Bool, ◌&&◌}
use lib.Dec.{eqb}
use Rattle.lists.specs.Choice.{stop, pass, neither}
use Rattle.records.specs.Folds.{visit_of, visit-on}
use Rattle.records.proofs.visit.Goals as goal

-- a test's last part is what a callee said
said : (t : Bool) {r x b : Bool} → r ≡ x → (t && r) ≡ b → (t && x) ≡ b
said t e q = ap (λ (y : Bool). t && y) (sym e) ∙ q

pub returns-then-not-bad-good : goal.returns-then-not-bad-good
returns-then-not-bad-good c =
    let none = neither _ _ c.if-not-bad-good.true in
    visit-on _ _ _ _ (sym c.is_bad-bad.ensures ∙ none.0) (sym c.holds-good.ensures ∙ none.1)

pub returns-then-s-bad : goal.returns-then-s-bad
unfolding visit_of
returns-then-s-bad c =
    stop _ (said (eqb c.args.s.refusal 0) c.is_bad-bad.ensures c.if-s-bad.true) refl

pub returns-then-s-good : goal.returns-then-s-good
unfolding visit_of
returns-then-s-good c =
    let s = c.args.s in
    pass _ (said (eqb s.refusal 0) c.is_bad-bad.ensures c.if-s-bad.false)
    (stop _ (said (eqb s.refusal 0 && eqb s.found 0) c.holds-good.ensures c.if-s-good.true) refl)

pub returns : goal.returns
unfolding visit_of
returns c =
    let s = c.args.s in
    pass _ (said (eqb s.refusal 0) c.is_bad-bad.ensures c.if-s-bad.false)
    (pass _ (said (eqb s.refusal 0 && eqb s.found 0) c.holds-good.ensures c.if-s-good.false) refl)
