-- Rests on the loop that stores one byte a turn (lists Tab).
use mathlib.Core.Path.{refl}
use native.Mathlib.Omega.{arith}
use Rattle.lists.specs.Tab.{tab, tab-turn}
use Rattle.files.specs.FontFile.{byte_of}
use Rattle.files.proofs.write_words.Goals as goal

pub loop-i-init : goal.loop-i-init
unfolding tab
loop-i-init c = refl

pub loop-i-preserved : goal.loop-i-preserved
loop-i-preserved c =
    tab-turn (byte_of c.args.src.now) c.args.dst.now _ c.loop-i.i c.loop-i.invariant _ (omega arith) c.byte_of.ensures
