-- Rests on the loop that lends each turn its own stretch (lists Join), one cell a turn.
use Prim.Native.Nat.{ℕ, ◌≤◌, ◌<◌, ◌*◌}
use mathlib.Core.Path.{◌≡◌, sym, ap, ◌∙◌}
use native.Mathlib.Omega.{arith}
use lib.ListN.{length, take}
use Rattle.std.proofs.Common.{length-take-le, get_or-take}
use Rattle.lists.specs.Join.{join-turn, join-ends}
use Rattle.line.specs.Walk.{column_for, length-column, as-column}
use Rattle.line.proofs.cells.Goals as goal

pub loop-c-preserved : goal.loop-c-preserved
loop-c-preserved c =
    let wide : (i : ℕ)
    → length (column_for c.args.w c.args.row.now c.args.looks.now c.args.words.now c.args.flags.now i) ≡ c.places-d.result = λ i. length-column _ _ _ _ _ i ∙ sym c.places-d.ensures in
    let whole : c.args.n * c.places-d.result ≤ length c.args.out.now = omega (arith, ap (λ (d : ℕ). c.args.n * d) c.places-d.ensures, c.requires.width_in_bounds) in
    let turn : c.loop-c.c < c.args.n = omega (arith, length-take-le c.args.n c.args.row.now c.requires.ready.few) in
    join-turn _ _ wide _ _ _ c.loop-c.invariant turn whole
    (as-column _ _ _ _ _ _ _ _ c.places-d.ensures (rw (get_or-take c.args.n c.args.row.now c.loop-c.c 0 turn) at c.put.ensures))

pub returns : goal.returns
returns c =
    let wide : (i : ℕ)
    → length (column_for c.args.w c.args.row.now c.args.looks.now c.args.words.now c.args.flags.now i) ≡ c.places-d.result = λ i. length-column _ _ _ _ _ i ∙ sym c.places-d.ensures in
    let all : length (take c.args.n c.args.row.now) ≡ c.args.n = length-take-le c.args.n c.args.row.now c.requires.ready.few in
    rw c.places-d.ensures at (join-ends _ _ wide _ _ c.loop-c.invariant (omega arith) (omega arith))
