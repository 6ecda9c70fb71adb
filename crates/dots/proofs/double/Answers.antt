-- Rests on the pairs before it; with an odd count first-put adds the last dot.
use Prim.Native.Nat.{ℕ, ◌+◌, ◌*◌, ◌/◌}
use mathlib.Core.Path.{◌≡◌, ap, ◌∙◌}
use mathlib.Core.List.{◌++◌}
use native.Mathlib.Omega.{arith}
use lib.ListN.{drop}
use Rattle.lists.specs.Tab.{tab}
use Rattle.dots.specs.Half.{half_by, first-put}
use Rattle.dots.proofs.double.Goals as goal

pub returns-then-n-eq1 : goal.returns-then-n-eq1
returns-then-n-eq1 c =
    let all : 2 * (c.args.n / 2) + 1 ≡ c.args.n = omega (arith, c.if-n-eq1.true) in
    first-put _ _ _ _ c.pairs.ensures (omega (arith, c.requires.0, all))
    ∙ ap (λ (k : ℕ). tab k (half_by c.args.dots.now 0) ++ drop k c.args.out.now) all
