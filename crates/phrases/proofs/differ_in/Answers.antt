-- Rests on pairs-all: the answer after all records is the one that the contract cites.
use Rattle.std.proofs.Common.{◌≡◌, List, length, arith, ap, ◌∙◌}
use Rattle.records.specs.declared.Phrase.{Phrase}
use Rattle.records.specs.Folds.{pairs_to}
use Rattle.phrases.specs.Laws.{pairs-all}
use Rattle.phrases.proofs.differ_in.Goals as goal

pub returns : goal.returns
returns g c =
    let kept : List Phrase = g.I.Index.kept c.args.index.now in
    let all : c.loop-i.i ≡ length kept = omega arith in
    c.loop-i.invariant ∙ ap (pairs_to kept) all ∙ pairs-all _
