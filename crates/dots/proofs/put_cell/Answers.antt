-- Rests on the three ways to store a cell, chosen by its width and by whether it is stored tight.
use native.Mathlib.Omega.{arith}
use Rattle.dots.specs.Inks.{reach-broad, reach-tight, reach-eight, put-broad, put-narrow}
use Rattle.dots.proofs.put_cell.Goals as goal

pub returns-then-d-gt8 : goal.returns-then-d-gt8
returns-then-d-gt8 c =
    put-broad c.args.levels c.args.word c.requires.1 c.blend-first.ensures c.args.out.now (reach-broad c.args.tight c.args.d c.if-d-gt8.true) c.if-d-gt8.true c.requires.3
    c.blend-last.ensures c.ends.ensures

pub returns-then-tight : goal.returns-then-tight
returns-then-tight c =
    put-narrow c.args.levels c.args.word c.requires.1 c.blend-first.ensures c.args.out.now (reach-tight c.if-tight.true c.args.d) (omega (arith, c.if-d-gt8.false)) c.narrow.ensures

pub returns-else-tight : goal.returns-else-tight
returns-else-tight c =
    put-narrow c.args.levels c.args.word c.requires.1 c.blend-first.ensures c.args.out.now (reach-eight c.if-tight.false c.args.d (omega (arith, c.if-d-gt8.false))) (omega arith) c.store.ensures
