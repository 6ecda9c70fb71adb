-- Rests on the definition: each field is read at its place, behind the IRs that the version has.
use Prim.Native.Nat.{ℕ, ◌+◌}
use mathlib.Core.Path.{ap, ◌∙◌}
use native.Mathlib.Omega.{arith}
use lib.ListN.{get_or}
use Rattle.board.specs.Laws.{layout-fits}
use Rattle.files.specs.Page.{starts_at, video_of, version_in, irs_at, chip_at, page_at}
use Rattle.files.specs.Laws.{chip-there}
use Rattle.files.proofs.page_at.Goals as goal

pub bounds-bytes-0 : goal.bounds-bytes-0
bounds-bytes-0 c = omega (arith, (layout-fits (version_in c.args.bytes.now)).rest_some)

pub irs_at-requires : goal.irs_at-requires
irs_at-requires c =
    let fits = layout-fits (version_in c.args.bytes.now) in
    (omega (arith, c.irs_of-n.ensures), omega (arith, c.irs_of-n.ensures, fits.irs-most))

pub starts_at-requires : goal.starts_at-requires
starts_at-requires c = omega (arith, c.irs_of-n.ensures, (layout-fits (version_in c.args.bytes.now)).rest_some)

pub bounds-bytes-rest : goal.bounds-bytes-rest
bounds-bytes-rest c = omega (arith, c.irs_of-n.ensures, (layout-fits (version_in c.args.bytes.now)).rest_some)

pub bounds-bytes-rest-2 : goal.bounds-bytes-rest-2
bounds-bytes-rest-2 c = omega (arith, c.irs_of-n.ensures, (layout-fits (version_in c.args.bytes.now)).rest_some)

pub bounds-bytes-rest-3 : goal.bounds-bytes-rest-3
bounds-bytes-rest-3 c = omega (arith, c.irs_of-n.ensures, (layout-fits (version_in c.args.bytes.now)).rest_some)

pub chip_at-requires : goal.chip_at-requires
chip_at-requires c v = omega (arith, c.irs_of-n.ensures, chip-there (version_in c.args.bytes.now) v)

pub returns : goal.returns
unfolding page_at
returns c =
    let bytes = c.args.bytes.now in
    let at = c.args.at in
    let n = c.irs_of-n.ensures in
    λ i. record {
      version = version_in bytes;
      irs = (c.irs_at.ensures ∙ ap (λ (k : ℕ). irs_at k bytes at) n) i;
      starts = (c.starts_at.ensures ∙ ap (λ (k : ℕ). starts_at bytes (at + k)) n) i;
      switches = get_or bytes (at + n i + 6) 0;
      video =
          (c.video.ensures
          ∙ ap (video_of _ _) c.chip_at.ensures
          ∙ ap (λ (k : ℕ). video_of (get_or bytes (at + k + 7) 0) (get_or bytes (at + k + 8) 0) (chip_at (version_in bytes) bytes (at + k + 9))) n) i;
    }
