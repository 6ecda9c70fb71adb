use Rattle.board.proofs.BoardDefault.default.Goals as goal

pub returns : goal.returns
returns c = c.power.ensures
