-- Rests on begun and ended, the codes below 128, and on signs: the codes in character mode, then in graphics mode.
use Prim.Native.Nat.{ℕ}
use mathlib.Core.Path.{◌≡◌, refl, sym, ap, ◌∙◌}
use mathlib.Core.List.{◌++◌}
use native.Mathlib.Omega.{arith}
use lib.ListN.{replicate, drop}
use Rattle.std.proofs.Common.{length-take-le}
use Rattle.lists.specs.Tab.{tab}
use Rattle.tables.specs.Halves.{begun, ended, signs}
use Rattle.tables.proofs.shown_words.Goals as goal
use Rattle.tables.proofs.shown_words.Goals.{After-fill}

low : (c : After-fill) → c.fill.new.self ≡ replicate 128 0
low c = c.fill.ensures.after (λ y h. h) ∙ ap (λ (n : ℕ). replicate n 0) (length-take-le 128 c.args.table.now (omega arith))

pub slice_bounds-fill-end-2 : goal.slice_bounds-fill-end-2
slice_bounds-fill-end-2 c = sym (length-take-le 128 c.args.table.now (omega arith))

pub code_words-requires-clause-begun : goal.code_words-requires-clause-begun
code_words-requires-clause-begun c =
    begun c.args.words.now c.args.flags.now c.args.line c.args.d c.args.table.now c.fill.new.self (omega arith) (low (goal.at.code_words-requires-clause-begun c).After-fill)

pub code_words-requires-2-clause-begun : goal.code_words-requires-2-clause-begun
unfolding tab
code_words-requires-2-clause-begun c = refl

pub returns : goal.returns
returns c =
    let a = c.args in
    let back : drop 256 (c.fill.new.self ++ drop 128 a.table.now) ≡ drop 256 a.table.now =
    ended a.words.now a.flags.now a.line a.d a.table.now c.fill.new.self (omega arith) (low (goal.at.returns c).After-fill) in
    signs a.words.now a.flags.now a.line a.d a.table.now _ _ c.requires.2 (rw back at c.code_words.ensures) c.code_words-2.ensures
