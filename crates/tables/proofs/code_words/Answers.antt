-- Rests on the loop that stores one element a turn (lists Tab).
use native.Mathlib.Omega.{arith}
use Rattle.lists.specs.Tab.{tab-turn}
use Rattle.shape.specs.Laws.{by-small}
use Rattle.tables.specs.Tables.{code_word}
use Rattle.tables.proofs.code_words.Goals as goal

pub wide-requires : goal.wide-requires
wide-requires c = rw c.word_by-word.ensures (by-small _ _ _ _ _)

pub loop-code-preserved : goal.loop-code-preserved
loop-code-preserved c =
    let a = c.args in
    tab-turn (code_word a.words.now a.flags.now a.line a.graphics a.d) a.table.now _ _ c.loop-code.invariant _ (omega arith) (rw (c.wide.ensures, c.word_by-word.ensures))
