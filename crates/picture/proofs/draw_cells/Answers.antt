-- Rests on the loop whose stores run past the stretch of their turn (Spill); the last cell is stored tight.
use Prim.Native.Nat.{ℕ, max, ◌+◌, ◌*◌, ◌-◌, ◌≤◌, ◌<◌}
use mathlib.Core.Path.{◌≡◌, refl, sym, ap, ap₂, ◌∙◌}
use mathlib.Core.List.{◌++◌}
use native.Mathlib.Omega.{arith}
use lib.ListN.{drop, length, take}
use Rattle.std.proofs.Common.{length-take-le, get_or-take}
use Rattle.lists.specs.Join.{joined}
use Rattle.picture.specs.Spill.{spill-turn, spill-ends}
use Rattle.picture.specs.Plan.{cell_from, length-cell, front-cell, length-stored, as-cell}
use Rattle.picture.proofs.draw_cells.Goals as goal

pub loop-i-preserved : goal.loop-i-preserved
loop-i-preserved c =
    let all : c.args.n - 1 + 1 ≡ c.args.n = omega (arith, c.requires.scan_lt_scans.1) in
    let whole : c.args.n * c.places-d.result ≤ length c.args.out.now = omega (arith, ap (λ (d : ℕ). c.args.n * d) c.places-d.ensures, c.requires.scan_lt_scans.3) in
    let a = c.args in
    let d = c.places-d.result in
    let turn : c.loop-i.i < a.n - 1 = omega (arith, length-take-le (a.n - 1) a.cells.now (omega arith)) in
    let reach : (d ≤ max d 8) × (max d 8 ≤ d + d) = (omega arith, omega (arith, c.places-d.ensures, c.args.t.fit.least)) in
    spill-turn _ d (length-cell _ _ _ _ _) _ _ _ _ (max d 8) c.loop-i.invariant (omega (arith, turn)) (rw all whole)
    (front-cell a.cells.now a.t.shown.now a.t.looks.now d _ _ _ reach.0) (length-stored a.t.shown.now a.t.looks.now _ _ _) reach.0 reach.1
    (rw (sym c.places-d.ensures, get_or-take (a.n - 1) a.cells.now c.loop-i.i 0 turn) at c.put.ensures)

pub returns : goal.returns
returns c =
    let all : c.args.n - 1 + 1 ≡ c.args.n = omega (arith, c.requires.scan_lt_scans.1) in
    let whole : c.args.n * c.places-d.result ≤ length c.args.out.now = omega (arith, ap (λ (d : ℕ). c.args.n * d) c.places-d.ensures, c.requires.scan_lt_scans.3) in
    let a = c.args in
    let long : length (take (a.n - 1) a.cells.now) ≡ a.n - 1 = length-take-le (a.n - 1) a.cells.now (omega arith) in
    let at : c.loop-i.i ≡ a.n - 1 = omega arith in
    spill-ends _ _ (length-cell _ _ _ _ _) _ _ _ (rw at at c.loop-i.invariant) refl (rw all whole) (as-cell a.cells.now a.t.shown.now a.t.looks.now _ _ _ _ _ (rw (sym c.places-d.ensures) at c.put-2.ensures))
    ∙ ap₂ (λ (n d : ℕ). joined 0 n (cell_from a.cells.now a.t.shown.now a.t.looks.now d a.scan.0) ++ drop (n * d) a.out.now) all c.places-d.ensures
