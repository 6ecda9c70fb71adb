-- Rests on page-put: the parts, one behind the other, are the file.
use mathlib.Core.Path.{◌≡◌}
use borrow.Author.Rules.{rules}
use lib.ListN.{length}
use Rattle.files.specs.Laws.{page-put}
use Rattle.files.proofs.put_file.Goals as goal

pub returns : goal.returns
returns c =
    let irs-all : length c.args.p.irs ≡ 15 = search rules in
    let place = c.chars_place-start in
    page-put c.args.p irs-all c.args.chars.now c.args.attrs.now c.args.out.now c.requires.1 c.requires.2 place.result place.ensures
    c.head_of-head.ensures c.put.ensures c.put_bytes.ensures
    c.put-2.ensures c.put-3.ensures
