-- Rests on low-bytes: the first bytes of eight are those of the number.
use Prim.Native.Nat.{ℕ}
use mathlib.Core.Path.{ap, ◌∙◌}
use mathlib.Core.List.{List, ◌++◌}
use lib.ListN.{drop}
use Rattle.dots.specs.Overlap.{low-bytes}
use Rattle.dots.proofs.store.Goals as goal

pub returns : goal.returns
returns g c =
    ap (λ (l : List ℕ). l ++ drop g.row.N c.args.out.now) (c.copy_from_slice.ensures.after ∙ rw c.to_le_bytes.ensures (low-bytes g.row.N c.args.v c.requires.0))
