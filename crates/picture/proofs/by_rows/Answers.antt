-- Rests on made_of and sheet-of: the three tables that were filled are those that draw_rows asks for.
use native.Mathlib.Omega.{arith}
use borrow.Author.Rules.{rules}
use Rattle.picture.specs.Agree.{plan-scans, plan-size, made_of, sheet-of, pictured}
use Rattle.picture.proofs.by_rows.Goals as goal

pub fill_words-requires : goal.fill_words-requires
fill_words-requires c =
    let l = plan-scans _ _ c.requires.page_in_bounds.1 in
    (c.requires.lent.words-all, c.requires.lent.flags-all, l, omega (arith, l))

pub fill_looks-requires : goal.fill_looks-requires
fill_looks-requires c =
    let l = plan-scans _ _ c.requires.page_in_bounds.1 in
    (l, omega (arith, l))

pub invariant_of-t : goal.invariant_of-t
invariant_of-t c =
    let q = c.requires.page_in_bounds.1 in
    let made = made_of c.args.b _ _ c.args.lines c.args.field _ _ _ _ _ q (rw c.places-d.ensures at c.fill_words.ensures) c.fill_looks.ensures in
    record { fit = sheet-of c.args.b _ _ c.args.lines c.args.field _ _ _ c.requires.lent.page made (search rules) (search rules) c.inks.ensures _ q }

pub draw_rows-requires : goal.draw_rows-requires
draw_rows-requires c =
    let q = c.requires.page_in_bounds.1 in
    record {
      memories = (c.requires.lent.chars-all, c.requires.lent.attrs-all);
      accepted = (c.requires.lent.page, q, rw (plan-size _ _ q) c.requires.page_in_bounds.0);
    }

pub returns : goal.returns
returns c =
    let q = c.requires.page_in_bounds.1 in
    let made = made_of c.args.b _ _ c.args.lines c.args.field _ _ _ _ _ q (rw c.places-d.ensures at c.fill_words.ensures) c.fill_looks.ensures in
    pictured c.args.b _ _ _ _ c.args.lines c.args.field _ _ c.requires.lent.page made
    (λ i. omega (arith, c.type_inv.chars i))
    _ _ _ q c.draw_rows.ensures
