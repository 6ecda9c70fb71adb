-- Rests on the place of a byte in its word, 0 or 1.
use Rattle.std.proofs.Common.{◌≡◌, ℕ, ◌<◌, ◌/◌, ◌%◌, ◌∷◌, [], get_or, arith, rules, eqb}
use Rattle.std.proofs.Math.Decide.{ℕ_discrete}
use Rattle.lists.specs.Choice.{pick}
use Rattle.files.specs.FontFile.{byte_of}
use Rattle.files.proofs.byte_of.Goals as goal

at-place : (w r : ℕ) → w < 65536 → r < 2 → get_or ((w / 256 % 256) ∷ (w % 256) ∷ []) r 0 ≡ pick (eqb r 0) (w / 256) (w % 256)
at-place w r h l = go (ℕ_discrete r 0)
  where
    go : Dec (r ≡ 0) → get_or ((w / 256 % 256) ∷ (w % 256) ∷ []) r 0 ≡ pick (eqb r 0) (w / 256) (w % 256)
    go (yes e) = rw e (omega (arith, h))
    go (no f) = let e : r ≡ 1 = omega (arith, l, f) in rw e

pub returns : goal.returns
unfolding byte_of
returns c = rw c.to_be_bytes.ensures (at-place _ _ (search rules) (omega arith))
