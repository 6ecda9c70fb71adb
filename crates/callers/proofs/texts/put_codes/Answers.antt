-- Rests on the loop that stores one code a turn (lists Tab).
use Rattle.std.proofs.Common.{refl, arith}
use Rattle.lists.specs.Tab.{tab, tab-turn}
use Rattle.callers.specs.Texts.{code_by}
use Rattle.callers.proofs.texts.put_codes.Goals as goal

pub loop-c-init : goal.loop-c-init
unfolding tab
loop-c-init c = refl

pub loop-c-preserved : goal.loop-c-preserved
unfolding code_by
loop-c-preserved c =
    tab-turn (code_by c.args.chars.now c.args.cells.now) c.args.text.now _ c.loop-c.c c.loop-c.invariant _
    (omega (arith, c.requires.roomy, c.loop-c-test.true)) refl
