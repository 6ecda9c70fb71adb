-- Rests on the loop that stores one word a turn (lists Tab).
use Prim.Native.Nat.{ℕ, ◌*◌}
use mathlib.Core.Path.{refl}
use native.Mathlib.Omega.{arith}
use Rattle.lists.specs.Tab.{tab, tab-turn}
use Rattle.files.specs.Page.{word_at}
use Rattle.files.proofs.read_words.Goals as goal

pub loop-i-init : goal.loop-i-init
unfolding tab
loop-i-init c = refl

pub loop-i-preserved : goal.loop-i-preserved
loop-i-preserved c =
    tab-turn (λ (k : ℕ). word_at c.args.src.now (2 * k)) c.args.dst.now _ c.loop-i.i c.loop-i.invariant _ (omega arith) c.word_at.ensures
