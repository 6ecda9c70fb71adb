use Rattle.callers.specs.Sizes.{calls-agree}
use Rattle.callers.proofs.sizes.numbers_agree.Goals as goal

pub returns : goal.returns
returns c =
    calls-agree _ _ _ _ c.feldrime_page_check-checked.ensures c.feldrime_page_size-size.ensures c.feldrime_board_of-made.ensures
