-- Rests on mate-fours: the search goes on four by four; mate-all ends it.
use Rattle.std.proofs.Common.{◌≡◌, ℕ, ◌+◌, ◌*◌, List, length, ap, ◌∙◌, arith}
use Rattle.records.specs.declared.Phrase.{Phrase}
use Rattle.records.specs.Folds.{mate_to}
use Rattle.phrases.specs.Laws.{mate-fours, mate-all}
use Rattle.phrases.proofs.mate_of.Goals as goal

pub loop-four-preserved : goal.loop-four-preserved
loop-four-preserved g c =
    let kept : List Phrase = g.I.Index.kept c.args.index.now in
    let i : ℕ = c.fours_from-from.result + 4 * c.loop-four.four in
    let next : i + 4 ≡ c.fours_from-from.result + 4 * (c.loop-four.four + 1) = omega arith in
    c.visit_four-s.ensures
    ∙ rw (
      c.loop-four.invariant,
      c.at.ensures,
      c.at-in-loop-four.ensures,
      c.at-in-loop-four-2.ensures,
      c.at-in-loop-four-3.ensures,
      c.at-o.ensures,
    )
    (mate-fours kept c.args.after i (omega arith))
    ∙ ap (mate_to kept c.args.after) next

pub returns : goal.returns
returns g c =
    let kept : List Phrase = g.I.Index.kept c.args.index.now in
    let all : c.fours_from-from.result + 4 * c.loop-four.four ≡ length kept = omega arith in
    c.loop-four.invariant ∙ ap (mate_to kept c.args.after) all ∙ mate-all _ _
