-- Rests on mate-begins and mate-turn: the search begins behind the record and goes on one by one.
use Rattle.std.proofs.Common.{ap, ◌∙◌, add-one, arith}
use Rattle.records.specs.Folds.{mate_start}
use Rattle.phrases.specs.Laws.{mate-begins, mate-turn}
use Rattle.phrases.proofs.mate_near.Goals as goal

pub loop-i-init : goal.loop-i-init
loop-i-init g c = c.start_mate-s.ensures ∙ ap mate_start c.at-o.ensures ∙ mate-begins _ _

pub loop-i-preserved : goal.loop-i-preserved
loop-i-preserved g c =
    c.visit_mate-s.ensures
    ∙ rw (c.loop-i.invariant, c.at.ensures, c.at-o.ensures, add-one c.loop-i.i)
    (mate-turn (g.I.Index.kept c.args.index.now) c.args.after c.loop-i.i (omega arith))
