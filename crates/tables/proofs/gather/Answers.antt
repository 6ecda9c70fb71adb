-- Rests on run-held and run-cells: in one run the buffer is as good as the whole memory.
use Prim.Native.Nat.{ℕ}
use mathlib.Core.Path.{sym, ap, ◌∙◌}
use mathlib.Core.List.{List, ◌++◌}
use native.Mathlib.Omega.{arith}
use lib.ListN.{drop}
use Rattle.fetch.specs.Run.{run_fits}
use Rattle.tables.specs.Run.{run-held, run-cells}
use Rattle.tables.proofs.gather.Goals as goal

pub gather_run-requires : goal.gather_run-requires
gather_run-requires c =
    let side = sym c.one_run.ensures ∙ c.if-one_run.true in
    (c.requires.0, c.requires.1, c.requires.2, run_fits c.args.buffer c.args.start.address c.args.n side, c.requires.4)

pub returns-then-one_run : goal.returns-then-one_run
returns-then-one_run c =
    let a = c.args in
    let side = sym c.one_run.ensures ∙ c.if-one_run.true in (
      c.gather_run.ensures.0 ∙ run-held a.k a.chars.now a.attrs.now a.buffer a.held a.start.address a.n side a.n (omega arith),
      c.gather_run.ensures.1
          ∙ ap (λ (t : List ℕ). t ++ drop a.n a.cells.now) (run-cells a.k a.chars.now a.attrs.now a.buffer a.held a.start.address a.n side),
    )
