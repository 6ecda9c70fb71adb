-- Rests on the definition: each byte stands at its place.
use Rattle.std.proofs.Common.{◌≡◌, ℕ, ◌<◌, ◌/◌, ◌%◌, arith, rules}
use Rattle.files.specs.Page.{tail_of}
use Rattle.files.proofs.tail_of.Goals as goal

high-small : (x : ℕ) → x < 65536 → x / 256 % 256 ≡ x / 256
high-small x h = omega (arith, h)

pub returns : goal.returns
unfolding tail_of
returns c =
    let s = c.args.p.starts in
    let start1 : s.start1 < 65536 = search rules in
    let cursor : s.cursor < 65536 = search rules in
    let start2 : s.start2 < 65536 = search rules in
    rw (
      c.to_be_bytes-start1.ensures,
      c.to_be_bytes-cursor.ensures,
      c.to_be_bytes-start2.ensures,
      high-small s.start1 start1,
      high-small s.cursor cursor,
      high-small s.start2 start2,
    )
