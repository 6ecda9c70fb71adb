-- Rests on run_inside: the part lies in memory; run_is and start_is say which it is.
use mathlib.Core.Path.{refl}
use native.Mathlib.Nat.{add_comm}
use native.Mathlib.Omega.{arith}
use Rattle.callers.specs.Runs.{run_inside, run_is, start_is}
use Rattle.callers.proofs.runs.run_taken.Goals as goal

pub slice_bounds-result-end : goal.slice_bounds-result-end
slice_bounds-result-end c = omega (arith, (run_inside _ _ _ c.feldrime_row_run-asked.ensures).1)

pub returns : goal.returns
returns c =
    let asked = c.feldrime_row_run-asked.ensures in
    (run_is _ _ _ asked, refl, rw (start_is _ _ _ asked) (add_comm _ _))
