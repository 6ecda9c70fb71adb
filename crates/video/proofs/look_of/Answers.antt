-- Rests on by-rule: the line of 000 Table 1 that the code reads gives the levels of the rule.
use Prim.Native.Nat.{ℕ}
use mathlib.Core.Path.{◌≡◌, ap, ◌∙◌}
use mathlib.Core.Bool.{Bool, true, false, xor}
use borrow.Author.Tests.{not-true, not-false}
use Rattle.lists.specs.Choice.{has_bit}
use Rattle.video.specs.declared.Scene.{Scene}
use Rattle.video.specs.declared.TableLine.{TableLine}
use Rattle.video.specs.Table.{case_of, decided, by-rule}
use Rattle.video.specs.Look.{non_display, lit_of, look_with, blank_look, look_of}
use Rattle.video.proofs.look_of.Goals as goal

blank : (s : Scene) (a : ℕ) (cursor : Bool) → s.shown ≡ false → blank_look s.blank ≡ look_of s a cursor
unfolding look_of
blank s a cursor e = rw e

shown : (s : Scene) (a : ℕ) (cursor : Bool) → s.shown ≡ true → (lit : Bool) → lit ≡ lit_of s a
    → (x : TableLine) → x ≡ decided (case_of false false s.bkgnd (xor (has_bit a 1) cursor) (has_bit a 16) (non_display s a))
    → look_with lit x.symbol x.surround ≡ look_of s a cursor
unfolding look_of
shown s a cursor e lit l x q =
    let r = by-rule (case_of false false s.bkgnd (xor (has_bit a 1) cursor) (has_bit a 16) (non_display s a)) in
    rw e (λ i. look_with (l i) ((ap (λ (y : TableLine). y.symbol) q ∙ r.0) i) ((ap (λ (y : TableLine). y.surround) q ∙ r.1) i))

pub returns-then-not-s : goal.returns-then-not-s
returns-then-not-s c = blank _ _ _ (not-true _ c.if-not-s.true)

pub returns : goal.returns
unfolding xor
returns c =
    shown c.args.s _ _ (not-false _ c.if-not-s.false)
    _ (rw (c.has-5.ensures, c.has-4.ensures))
    c.table_1-found.result
    (c.table_1-found.ensures
    ∙ rw (c.has-3.ensures, c.has-2.ensures, c.has.ensures, c.has-highlight.ensures))
