-- Rests on read: the nineteen lines, column by column, come to the line decided (by-columns).
use Rattle.video.specs.Table.{table1, read}
use Rattle.video.proofs.table_1.Goals as goal

pub returns : goal.returns
unfolding table1
returns c =
    read _
    c.line-l1.ensures
    c.line-l2.ensures
    c.line-l3.ensures
    c.line-l4.ensures
    c.line-l5.ensures
    c.line-l6.ensures
    c.line-l7.ensures
    c.line-l8.ensures
    c.line-l9.ensures
    c.line-l10.ensures
    c.line-l11.ensures
    c.line-l12.ensures
    c.line-l13.ensures
    c.line-l14.ensures
    c.line-l15.ensures
    c.line-l16.ensures
    c.line-l17.ensures
    c.line-l18.ensures
    c.line-l19.ensures
    c.of_eight-dark.ensures
    c.of_eight-light.ensures
    c.of_two-shown.ensures
    c.of_two-border.ensures
    c.of_two-blanked.ensures
    c.of_two.ensures
