-- Rests on stored-shades for the first eight dots, and on eight-last for those beyond.
use Prim.Native.Nat.{ℕ, ◌≤◌}
use mathlib.Core.Path.{◌≡◌, ap, ◌∙◌}
use mathlib.Core.List.{List, ◌++◌}
use native.Mathlib.Omega.{arith}
use borrow.Author.Rules.{rules}
use lib.ListN.{drop}
use Rattle.dots.specs.Stores.{bytes_of}
use Rattle.dots.specs.Width.{shades}
use Rattle.dots.specs.Bytes.{spread-ones}
use Rattle.dots.specs.Spread.{stored-shades}
use Rattle.dots.specs.Last.{eight-last}
use Rattle.dots.proofs.write_cell.Goals as goal

pub mix-first-requires : goal.mix-first-requires
mix-first-requires c = rw c.spread.ensures (spread-ones _)

pub returns-then-d-eq8 : goal.returns-then-d-eq8
returns-then-d-eq8 c =
    let stored : (n : ℕ) → n ≤ 8
    → bytes_of n c.mix-first.result ≡ shades c.args.symbol c.args.surround n c.wide-w.result = λ n h. stored-shades _ _ (search rules) (search rules) _ n _ (rw c.spread.ensures at c.mix-first.ensures) h in
    c.store.ensures
    ∙ rw (← c.wide-w.ensures, c.if-d-eq8.true) (ap (λ (l : List ℕ). l ++ drop 8 c.args.out.now) (stored 8 (omega arith)))

pub returns-then-d-lt8 : goal.returns-then-d-lt8
returns-then-d-lt8 c =
    let stored : (n : ℕ) → n ≤ 8
    → bytes_of n c.mix-first.result ≡ shades c.args.symbol c.args.surround n c.wide-w.result = λ n h. stored-shades _ _ (search rules) (search rules) _ n _ (rw c.spread.ensures at c.mix-first.ensures) h in
    rw (← c.wide-w.ensures)
    (c.narrow.ensures ∙ ap (λ (l : List ℕ). l ++ drop c.args.d c.args.out.now) (stored c.args.d (omega arith)))

pub returns-else-d-lt8 : goal.returns-else-d-lt8
returns-else-d-lt8 c =
    let over : 8 ≤ c.args.d = omega (arith, c.if-d-eq8.false, c.if-d-lt8.false) in
    let stored : (n : ℕ) → n ≤ 8
    → bytes_of n c.mix-first.result ≡ shades c.args.symbol c.args.surround n c.wide-w.result = λ n h. stored-shades _ _ (search rules) (search rules) _ n _ (rw c.spread.ensures at c.mix-first.ensures) h in
    rw (← c.wide-w.ensures)
    (eight-last c.args.symbol c.args.surround c.args.d c.wide-w.result c.args.out.now _ _ over c.requires.2 c.requires.3
    (c.store-else-d-lt8.ensures ∙ ap (λ (l : List ℕ). l ++ drop 8 c.args.out.now) (stored 8 (omega arith)))
    c.last_four.ensures)
