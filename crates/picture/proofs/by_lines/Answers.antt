-- Rests on the loop that lends each turn its own stretch (lists Join), one line a turn.
use Prim.Native.Nat.{ℕ, ◌+◌, ◌*◌, ◌≤◌, ◌<◌}
use mathlib.Core.Path.{◌≡◌, ap}
use mathlib.Core.List.{List}
use native.Mathlib.Omega.{arith}
use lib.ListN.{length, length-take, length-drop}
use Rattle.lists.specs.Join.{stretch-inside, join-turn, join-ends}
use Rattle.timing.specs.Fields.{rows_of}
use Rattle.line.specs.Line.{row_for}
use Rattle.picture.specs.Agree.{scan-few, shaped_at, plan-visible, plan-small, line_row, line-room, line-width, as-line-at, lined}
use Rattle.picture.proofs.by_lines.Goals as goal
use Rattle.picture.proofs.by_lines.Goals.{In-loop-l}

-- so many lines as the picture has, and this one's stretch is in the buffer
counted : (c : In-loop-l) → c.places-l-end.result ≡ c.args.p.rows * c.args.p.lines.0
counted c = rw c.times.ensures at c.places-l-end.ensures

whole : (c : In-loop-l) → c.places-l-end.result * c.args.p.width ≤ length c.args.out.now
whole c =
    let room : c.args.p.rows * c.args.p.lines.0 * c.args.p.width ≤ length c.args.out.now =
    rw (plan-visible _ _ c.requires.page_in_bounds.1) c.requires.page_in_bounds.0 in
    omega (arith, ap (λ (n : ℕ). n * c.args.p.width) (counted c), room)

stretch : (c : In-loop-l) → c.loop-l.l * c.args.p.width + c.args.p.width ≤ length c.loop-l.out
stretch c = omega (arith, c.loop-l.invariant.same, stretch-inside c.loop-l.l _ c.args.p.width _ c.loop-l-test.true (whole c))

visible : (c : In-loop-l) → row_for c.args.b c.loop-l.l < rows_of c.args.b.page
visible c = line_row c.args.b c.args.p c.requires.page_in_bounds.1 _ (omega (arith, c.loop-l-test.true, counted c))

pub times-requires : goal.times-requires
times-requires c =
    omega (arith, plan-small _ _ c.requires.page_in_bounds.1 c.requires.lent.page)

pub overflow_mul-stretch : goal.overflow_mul-stretch
overflow_mul-stretch c = omega (arith, stretch (goal.at.overflow_mul-stretch c).In-loop-l)

pub scan_for-scan-requires : goal.scan_for-scan-requires
scan_for-scan-requires c = (c.requires.lent.chars-all, visible (goal.at.scan_for-scan-requires c).In-loop-l)

pub font_line_at-font-requires : goal.font_line_at-font-requires
font_line_at-font-requires c = rw c.scan_for-scan.ensures (scan-few c.args.b _ _)

pub slice_bounds-stretch-count : goal.slice_bounds-stretch-count
slice_bounds-stretch-count c = omega (arith, stretch (goal.at.slice_bounds-stretch-count c).In-loop-l)

pub slice_bounds-stretch-start : goal.slice_bounds-stretch-start
slice_bounds-stretch-start c = omega (arith, stretch (goal.at.slice_bounds-stretch-start c).In-loop-l)

pub whole_line-requires : goal.whole_line-requires
whole_line-requires c =
    let turn = (goal.at.whole_line-requires c).In-loop-l in
    record { lent = c.requires.lent; scan_value = (c.scan_for-scan.ensures, visible turn, line-room c.args.b c.args.p c.requires.page_in_bounds.1 _ (simp (length-take, length-drop) (omega (arith, stretch turn)))) }

pub loop-l-preserved : goal.loop-l-preserved
loop-l-preserved c =
    let drawn_at : ℕ → List ℕ = shaped_at c.args.b c.args.chars.now c.args.attrs.now c.args.words.now c.args.flags.now c.args.lines c.args.field in
    let wide : (l : ℕ) → length (drawn_at l) ≡ c.args.p.width = line-width c.args.b _ _ _ _ c.args.lines c.args.field _ c.requires.page_in_bounds.1 c.requires.lent.page in
    join-turn drawn_at _ wide _ _ _ c.loop-l.invariant c.loop-l-test.true (whole (goal.at.loop-l-preserved c).In-loop-l)
    (as-line-at c.args.b _ _ _ _ c.args.lines c.args.field _ c.requires.page_in_bounds.1 _ _ _
    (rw (c.font_line_at-font.ensures, c.scan_for-scan.ensures) at c.whole_line.ensures))

pub returns : goal.returns
returns c =
    let drawn_at : ℕ → List ℕ = shaped_at c.args.b c.args.chars.now c.args.attrs.now c.args.words.now c.args.flags.now c.args.lines c.args.field in
    let wide : (l : ℕ) → length (drawn_at l) ≡ c.args.p.width = line-width c.args.b _ _ _ _ c.args.lines c.args.field _ c.requires.page_in_bounds.1 c.requires.lent.page in
    let counted : c.places-l-end.result ≡ c.args.p.rows * c.args.p.lines.0 = rw c.times.ensures at c.places-l-end.ensures in
    lined c.args.b _ _ _ _ c.args.lines c.args.field _ c.requires.page_in_bounds.1 _ _
    (rw counted at (join-ends drawn_at _ wide _ _ c.loop-l.invariant (omega arith) (omega arith)))
