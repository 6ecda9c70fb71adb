-- Rests on the definition: graphics by the group, else CA7, then the position that the flag chooses.
use mathlib.Core.Path.{ap, ◌∙◌}
use Prim.Native.Nat.{◌%◌}
use native.Mathlib.Omega.{arith}
use borrow.Author.Tests.{le-ltb}
use Rattle.lists.specs.Choice.{pass}
use Rattle.shape.specs.Font.{font_word, word_by}
use Rattle.std.proofs.Common.{rules}
use Rattle.shape.proofs.word_by.Goals as goal

pub returns : goal.returns
unfolding word_by
returns c =
    let code = c.args.code in
    pass {t = c.args.graphics} _ (search rules) (pass _ (le-ltb code 128 (omega arith)) (c.font_word.ensures ∙ ap (font_word c.args.words.now (code % 128)) c.chosen.ensures))
