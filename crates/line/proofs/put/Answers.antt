-- Rests on write_cell, and on by-small: a word has ten bits.
use Rattle.shape.specs.Laws.{by-small}
use Rattle.tables.specs.Tables.{shown_word}
use Rattle.line.specs.Walk.{dots_for}
use Rattle.line.proofs.put.Goals as goal

pub write_cell-requires : goal.write_cell-requires
write_cell-requires c =
    let pre = c.requires.d_value in
    (rw c.word_by-word.ensures (by-small _ _ _ _ _), pre.1, pre.2, pre.3)

pub returns : goal.returns
unfolding dots_for shown_word
returns c =
    rw (c.word_by-word.ensures, c.requires.d_value.0) at c.write_cell.ensures
