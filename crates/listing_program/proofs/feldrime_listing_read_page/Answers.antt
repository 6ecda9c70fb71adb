-- Rests on file-most: no page file is longer than the buffer.
use Rattle.std.proofs.Common.{List, ◌++◌, ℕ, ◌≤◌, length, drop, length-append, length-take, length-drop, arith}
use Rattle.files.specs.Page.{version_in}
use Rattle.files.specs.Laws.{file-most}
use Rattle.listing_program.proofs.feldrime_listing_read_page.Goals as goal

pub slice_bounds-feldrime_listing_read-end-3 : goal.slice_bounds-feldrime_listing_read-end-3
slice_bounds-feldrime_listing_read-end-3 c =
    let file : List ℕ = c.feldrime_listing_read-first.new.buf ++ drop 1 c.args.file.now in
    let as_long : 32798 ≤ length file =
    rw (length-append c.feldrime_listing_read-first.new.buf (drop 1 c.args.file.now), c.feldrime_listing_read-first.auto.buf)
    (simp (length-take, length-drop) (omega (arith, c.requires))) in
    omega (arith, c.file_size-size.ensures, file-most (version_in file), as_long)
