use native.Mathlib.Omega.{arith}
use Rattle.board.specs.Laws.{layout-fits}
use Rattle.numbers.specs.Laws.{numbers-put}
use Rattle.numbers.proofs.put_numbers.Goals as goal

pub put_front-requires : goal.put_front-requires
put_front-requires c = omega (arith, c.requires.0, (layout-fits c.args.version).page-most)

pub returns : goal.returns
returns c = numbers-put c.args.version c.args.page.now c.requires.0 c.clear.ensures c.put_front.ensures
