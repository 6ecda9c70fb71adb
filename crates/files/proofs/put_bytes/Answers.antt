-- Rests on bytes-put: the IRs, then what stands behind them.
use Prim.Native.Nat.{◌≤◌}
use mathlib.Core.Path.{◌≡◌, sym}
use native.Mathlib.Omega.{arith}
use borrow.Author.Rules.{rules}
use lib.ListN.{length}
use lib.Seq.{length-take-le}
use Rattle.board.specs.Laws.{layout-fits}
use Rattle.files.specs.Laws.{tail-long, bytes-put}
use Rattle.files.proofs.put_bytes.Goals as goal

pub slice_bounds-irs-end : goal.slice_bounds-irs-end
slice_bounds-irs-end c =
    let fits = layout-fits c.args.p.version in
    let most : c.layout_of-layout.result.irs ≤ 15 = rw c.layout_of-layout.ensures fits.irs-most in
    let irs-all : length c.args.p.irs ≡ 15 = search rules in
    omega (arith, most, irs-all)

pub slice_bounds-put-end : goal.slice_bounds-put-end
slice_bounds-put-end c =
    let fits = layout-fits c.args.p.version in
    let most : c.layout_of-layout.result.irs ≤ 15 = rw c.layout_of-layout.ensures fits.irs-most in
    let irs-all : length c.args.p.irs ≡ 15 = search rules in
    sym (length-take-le c.layout_of-layout.result.irs c.args.p.irs (omega (arith, most, irs-all)))

pub slice_bounds-tail-end : goal.slice_bounds-tail-end
slice_bounds-tail-end c =
    let fits = layout-fits c.args.p.version in
    let most : c.layout_of-layout.result.rest ≤ 10 = rw c.layout_of-layout.ensures fits.rest-most in
    rw (c.tail_of-tail.ensures, tail-long c.args.p) most

pub slice_bounds-put-end-2 : goal.slice_bounds-put-end-2
slice_bounds-put-end-2 c =
    let fits = layout-fits c.args.p.version in
    let most : c.layout_of-layout.result.rest ≤ 10 = rw c.layout_of-layout.ensures fits.rest-most in
    sym (length-take-le c.layout_of-layout.result.rest c.tail_of-tail.result (rw (c.tail_of-tail.ensures, tail-long c.args.p) most))

pub returns : goal.returns
returns c =
    let irs-all : length c.args.p.irs ≡ 15 = search rules in
    bytes-put c.args.p irs-all c.args.out.now c.args.at (omega arith) c.layout_of-layout.result c.layout_of-layout.ensures c.tail_of-tail.ensures c.put.ensures c.put-2.ensures
