-- Rests on line_answer for the refusals and on step_line for the dots.
use Rattle.callers_stepped.specs.Asked.{kept, steppable, stepped}
use Rattle.callers_stepped.proofs.lines.line_by_steps.Goals as goal

pub step_line-requires : goal.step_line-requires
step_line-requires c =
    steppable _ _ _ _ _ c.args.out.now c.line_answer-answer.ensures c.if-answer-eq0.true c.feldrime_board_of-made.ensures

pub returns-then-answer-eq0 : goal.returns-then-answer-eq0
returns-then-answer-eq0 c =
    stepped _ _ _ _ _ c.args.out.now c.line_answer-answer.ensures c.if-answer-eq0.true c.feldrime_board_of-made.ensures _ c.step_line.ensures

pub returns-else-answer-eq0 : goal.returns-else-answer-eq0
returns-else-answer-eq0 c = kept _ _ _ _ _ _ c.line_answer-answer.ensures c.if-answer-eq0.false _
