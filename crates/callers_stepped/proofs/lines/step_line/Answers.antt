-- Rests on the loop that lends each turn its own stretch (lists Join), one step a turn from the state.
use Prim.Native.Nat.{ℕ, ◌+◌, ◌≤◌, ◌<◌, ◌-◌, ◌*◌}
use mathlib.Core.Path.{◌≡◌}
use mathlib.Core.List.{List, ◌++◌, append-nil}
use Rattle.std.proofs.Common.{take_all}
use Rattle.std.proofs.Math.Seq.{take-length}
use native.Mathlib.Omega.{arith}
use lib.ListN.{take, drop, length, length-take, length-drop, drop_of_length-le}
use Rattle.lists.specs.Join.{stretch-inside, join-begins, join-turn, join-ends}
use Rattle.line.specs.Line.{line_dots}
use Rattle.timing.specs.Fields.{hact_of}
use Rattle.timing.specs.Decoded.{hact-is}
use Rattle.callers_stepped.specs.Lines.{turns_fit, each, line-begins, goes_on, wide, enough, copied}
use Rattle.callers_stepped.proofs.lines.step_line.Goals as goal

-- a part that was put, with what stood behind it up to the end of the buffer
put : (new rest : List ℕ) (d n : ℕ) → length rest ≤ n → (new ++ drop d (take n rest)) ++ drop n rest ≡ new ++ drop d rest
put new rest d n h = rw (take_all n rest h, drop_of_length-le rest {i = n} h, append-nil)

pub loop-c-init : goal.loop-c-init
loop-c-init c = (
  line-begins c.requires _ c.ranges.field.fits c.clock_of-first.ensures c.feldrime_state_at-asked.ensures,
  join-begins _ _ (each c.requires _ c.ranges.field.fits) _ _,
)

pub slice_bounds-copy_from_slice-end : goal.slice_bounds-copy_from_slice-end
slice_bounds-copy_from_slice-end c =
    let hact : c.timing_of-t.result.counts.hact.0 ≡ hact_of c.args.b.page = hact-is _ _ c.timing_of-t.ensures in
    let roomy : c.timing_of-t.result.counts.hact.0 * c.args.b.page.video.dots.0 ≤ length c.args.out.now = turns_fit c.requires hact in
    omega (arith, c.loop-c.invariant.1.same, stretch-inside c.loop-c.c c.timing_of-t.result.counts.hact.0 c.args.b.page.video.dots.0 _ c.loop-c-test.true roomy)

pub slice_bounds-dots-end : goal.slice_bounds-dots-end
slice_bounds-dots-end c =
    let hact : c.timing_of-t.result.counts.hact.0 ≡ hact_of c.args.b.page = hact-is _ _ c.timing_of-t.ensures in
    let shown : c.loop-c.c < hact_of c.args.b.page = omega (arith, hact, c.loop-c-test.true) in
    enough c.requires _ c.ranges.field.fits _ c.loop-c.invariant.0 c.step_numbers-s.ensures shown

pub slice_bounds-copy_from_slice-end-in-loop-c : goal.slice_bounds-copy_from_slice-end-in-loop-c
slice_bounds-copy_from_slice-end-in-loop-c c =
    let hact : c.timing_of-t.result.counts.hact.0 ≡ hact_of c.args.b.page = hact-is _ _ c.timing_of-t.ensures in
    let shown : c.loop-c.c < hact_of c.args.b.page = omega (arith, hact, c.loop-c-test.true) in
    wide c.requires _ c.ranges.field.fits _ c.loop-c.invariant.0 c.step_numbers-s.ensures shown

pub copy_from_slice-requires : goal.copy_from_slice-requires
copy_from_slice-requires c =
    let hact : c.timing_of-t.result.counts.hact.0 ≡ hact_of c.args.b.page = hact-is _ _ c.timing_of-t.ensures in
    let roomy : c.timing_of-t.result.counts.hact.0 * c.args.b.page.video.dots.0 ≤ length c.args.out.now = turns_fit c.requires hact in
    let shown : c.loop-c.c < hact_of c.args.b.page = omega (arith, hact, c.loop-c-test.true) in
    simp (length-take, length-drop)
    (omega (
      arith,
      c.loop-c.invariant.1.same,
      enough c.requires _ c.ranges.field.fits _ c.loop-c.invariant.0 c.step_numbers-s.ensures shown,
      stretch-inside c.loop-c.c c.timing_of-t.result.counts.hact.0 c.args.b.page.video.dots.0 _ c.loop-c-test.true roomy,
    ))

pub loop-c-preserved : goal.loop-c-preserved
loop-c-preserved c =
    let d = c.args.b.page.video.dots.0 in
    let at = c.loop-c.c * d in
    let hact : c.timing_of-t.result.counts.hact.0 ≡ hact_of c.args.b.page = hact-is _ _ c.timing_of-t.ensures in
    let roomy : c.timing_of-t.result.counts.hact.0 * d ≤ length c.args.out.now = turns_fit c.requires hact in
    let shown : c.loop-c.c < hact_of c.args.b.page = omega (arith, hact, c.loop-c-test.true) in
    let step = c.step_numbers-s.ensures in
    let inv = c.loop-c.invariant in
    let k : at + d - at ≡ d = omega arith in
    let rest = drop at c.loop-c.out in
    let all : length rest ≤ length c.loop-c.out - at = simp length-drop (omega arith) in
    let part = take (length c.loop-c.out - at) rest in
    let wide' : d ≡ length (take d c.step_numbers-s.result.answer.dots) = wide c.requires _ c.ranges.field.fits _ inv.0 step shown in
    let turn = join-turn _ _ (each c.requires _ c.ranges.field.fits) (c.copy_from_slice.new.self ++ drop d part) _ _ inv.1 c.loop-c-test.true roomy
    (copied c.requires _ c.ranges.field.fits _ inv.0 step shown part (rw (c.copy_from_slice.ensures.after, take-length (take d c.step_numbers-s.result.answer.dots), ← wide'))) in (
      goes_on c.requires _ c.ranges.field.fits _ inv.0 step,
      rw k (rw (put c.copy_from_slice.new.self rest d (length c.loop-c.out - at) all) at turn),
    )

pub returns : goal.returns
unfolding line_dots
returns c =
    let turns : ℕ = c.timing_of-t.result.counts.hact.0 in
    let hact : turns ≡ hact_of c.args.b.page = hact-is _ _ c.timing_of-t.ensures in
    rw hact at
    (join-ends _ _ (each c.requires _ c.ranges.field.fits) _ _ c.loop-c.invariant.1 (omega arith) (omega arith))
