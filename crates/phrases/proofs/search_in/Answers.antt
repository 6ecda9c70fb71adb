-- Rests on search-all: the search through all records is the one that the contract cites.
use Rattle.std.proofs.Common.{◌≡◌, List, length, arith, ap, ◌∙◌, add-one}
use Rattle.std.proofs.lemmas.Bool.{ne_eqb}
use Rattle.records.specs.declared.Phrase.{Phrase}
use Rattle.records.specs.Folds.{search_to}
use Rattle.phrases.specs.Laws.{search-all, none-searched}
use Rattle.phrases.proofs.search_in.Goals as goal

pub returns-then-asked-ne0 : goal.returns-then-asked-ne0
returns-then-asked-ne0 g c = c.start-s.ensures ∙ none-searched _ _ (ne_eqb _ 0 c.if-asked-ne0.true)

pub loop-i-preserved : goal.loop-i-preserved
loop-i-preserved g c = c.visit-s.ensures ∙ rw (c.loop-i.invariant, c.at.ensures, add-one c.loop-i.i)

pub returns : goal.returns
returns g c =
    let kept : List Phrase = g.I.Index.kept c.args.index.now in
    let all : c.loop-i.i ≡ length kept = omega arith in
    c.loop-i.invariant ∙ ap (search_to kept _) all ∙ search-all _ _
