-- Rests on four-on for records that alter nothing; four_is for the first that disagrees.
use Rattle.std.specs.Option.{is_none}
use Rattle.std.proofs.Math.Bool.{true, false, and-false}
use Rattle.std.proofs.Common.{◌≡◌, Bool, ◌&&◌, rules, tests, refl, ap, ◌∙◌, Some}
use Rattle.lists.specs.Choice.{stop, pass}
use Rattle.records.specs.Folds.{mate_on, both-parts, four-on, four_is}
use Rattle.records.proofs.visit_four.Goals as goal

first-false : (x y : Bool) → x ≡ false → (x && y) ≡ false
first-false x y e = rw e

second-false : (x y : Bool) → y ≡ false → (x && y) ≡ false
second-false x y e = rw e (and-false x)

pub returns-then-not-w-x : goal.returns-then-not-w-x
returns-then-not-w-x c =
    four-on _ _ _ _ _ _ _ c.same_label-w.ensures c.same_label-x.ensures c.same_label-y.ensures c.same_label-z.ensures c.if-not-w-x.true

pub returns-then-not-unlike : goal.returns-then-not-unlike
returns-then-not-unlike c =
    let args = c.args in
    pass _ (second-false (is_none args.s.at) _ c.if-not-unlike.true) refl
    ∙ four_is args.s args.a args.b args.c args.d args.i args.o
    (both-parts _ _ c.same_label-w.ensures c.apart.ensures)
    (both-parts _ _ c.same_label-x.ensures c.apart-2.ensures)
    (both-parts _ _ c.same_label-y.ensures c.apart-3.ensures)
    (both-parts _ _ c.same_label-z.ensures c.apart-4.ensures)

pub returns-then-is_none : goal.returns-then-is_none
returns-then-is_none c =
    let args = c.args in
    let none : is_none args.s.at ≡ true = search (rules, tests) in
    stop args.s (rw (none, c.if-not-unlike.false)) (ap (λ k. mate_on args.s.bad (Some k)) c.first_four.ensures)
    ∙ four_is args.s args.a args.b args.c args.d args.i args.o
    (both-parts _ _ c.same_label-w.ensures c.apart.ensures)
    (both-parts _ _ c.same_label-x.ensures c.apart-2.ensures)
    (both-parts _ _ c.same_label-y.ensures c.apart-3.ensures)
    (both-parts _ _ c.same_label-z.ensures c.apart-4.ensures)

pub returns : goal.returns
returns c =
    let args = c.args in
    let some : is_none args.s.at ≡ false = search (rules, tests) in
    pass _ (first-false _ _ some) refl
    ∙ four_is args.s args.a args.b args.c args.d args.i args.o
    (both-parts _ _ c.same_label-w.ensures c.apart.ensures)
    (both-parts _ _ c.same_label-x.ensures c.apart-2.ensures)
    (both-parts _ _ c.same_label-y.ensures c.apart-3.ensures)
    (both-parts _ _ c.same_label-z.ensures c.apart-4.ensures)
