-- Rests on run-part: in one run the row is a part of attribute memory; else the loop goes round.
use mathlib.Core.Path.{sym, ◌∙◌}
use native.Mathlib.Omega.{arith}
use Rattle.fetch.specs.Run.{run_fits}
use Rattle.latch.specs.Laws.{run-part}
use Rattle.latch.proofs.last_in_row.Goals as goal

pub slice_bounds-last_set-end : goal.slice_bounds-last_set-end
slice_bounds-last_set-end c =
    let side = sym c.one_run.ensures ∙ c.if-one_run.true in
    omega (arith, run_fits c.args.buffer c.args.start.address c.args.n side, c.requires)

pub returns-then-one_run : goal.returns-then-one_run
returns-then-one_run c =
    let a = c.args in
    run-part a.attrs.now a.buffer a.start.address a.n _ (sym c.one_run.ensures ∙ c.if-one_run.true) c.requires c.last_set.ensures
