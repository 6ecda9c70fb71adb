use Rattle.tables.specs.Halves.{halves}
use Rattle.tables.proofs.looks.Goals as goal

pub returns : goal.returns
returns c =
    halves c.args.s c.args.table.now _ _ c.requires.0 c.half.ensures c.half-2.ensures
