use Rattle.std.proofs.Common.{◌≡◌, ◌+◌, arith}
use Rattle.files.specs.Page.{word_at}
use Rattle.files.specs.File.{long_at}
use Rattle.files.proofs.long_at.Goals as goal

pub returns : goal.returns
unfolding long_at word_at
returns c =
    let last : c.args.i + 2 + 1 ≡ c.args.i + 3 = omega arith in
    rw (c.from_be_bytes.ensures, last) (omega arith)
