-- Rests on numbers-passed: accepted numbers have a page at their front.
use Rattle.std.proofs.Common.{sym}
use Rattle.numbers.specs.Laws.{numbers-room, numbers-passed}
use Rattle.feldrime.proofs.board_in.Goals as goal

pub board_at-requires : goal.board_at-requires
board_at-requires c = numbers-room c.args.numbers.now (numbers-passed _ (sym c.in_ok-numbers_check.ensures))
