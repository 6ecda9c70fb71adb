-- Rests on own_put: the version, and the page's bytes behind it.
use Rattle.std.proofs.Common.{◌≡◌, ℕ, ◌<◌, List, [], ◌∷◌, length, set, refl, arith, rules, length-set}
use Rattle.copies.specs.Put.{put_at}
use Rattle.board.specs.Laws.{layout-fits}
use Rattle.numbers.specs.Laws.{own_put}
use Rattle.numbers.proofs.put_own.Goals as goal

-- a first number stored is a part put at the front
first-set : (out : List ℕ) (v : ℕ) → 0 < length out → set out 0 v ≡ put_at 0 (v ∷ []) out
first-set [] v h = absurd (omega (arith, h))
first-set (x ∷ out) v h = refl

pub put_bytes-requires : goal.put_bytes-requires
put_bytes-requires c =
    (c.requires.0, rw (length-set c.args.numbers.now 0 c.version_of.result) (omega (arith, (layout-fits c.args.p.version).page-most)))

pub returns : goal.returns
returns c =
    let irs-all : length c.args.p.irs ≡ 15 = search rules in
    own_put c.args.p irs-all c.args.numbers.now c.version_of.ensures (first-set _ _ (omega arith)) c.put_bytes.ensures
