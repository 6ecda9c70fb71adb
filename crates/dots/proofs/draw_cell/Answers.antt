use Prim.Native.Nat.{ℕ}
use mathlib.Core.Path.{ap, ◌∙◌}
use mathlib.Core.List.{List, ◌++◌}
use lib.ListN.{drop}
use Rattle.dots.specs.Width.{cell-shades}
use Rattle.dots.proofs.draw_cell.Goals as goal

pub returns : goal.returns
returns c =
    (rw (c.places.ensures, c.under.ensures) at c.write_cell.ensures)
    ∙ ap (λ (l : List ℕ). l ++ drop c.args.width.0 c.args.out.now) (cell-shades c.args.look c.args.word c.args.width.0 c.requires.0 c.requires.2)
