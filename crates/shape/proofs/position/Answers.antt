-- The first place at which the test passes, or the list's length, is what the definition counts.
use Prim.Native.Nat.{ℕ, suc, ◌+◌, ◌%◌, ◌<◌}
use mathlib.Core.Path.{◌≡◌, refl}
use mathlib.Core.Bool.{Bool, true, false, cond, not}
use mathlib.Core.List.{List}
use lib.Dec.{eqb}
use lib.ListN.{length}
use Rattle.std.proofs.Common.{rules, tests, arith, lt-ltb, le-ltb}
use Rattle.std.proofs.Math.Decide.{dec_lt}
use Rattle.std.specs.Option.{unwrap_or}
use Rattle.std.specs.List.{position_or_len, position}
use Rattle.std.proofs.lemmas.List.Sums.{prefix_len-le-length}
use Rattle.std.proofs.lemmas.List.Recursion.{is_position_or_len}
use Rattle.std.proofs.lemmas.Iterator.{YieldsList-from_slice}
use Rattle.std.proofs.lemmas.Iterator.Search.{position_from_yields_List}
use Rattle.lists.specs.Choice.{pick}
use Rattle.shape.specs.Font.{position_of}
use Rattle.shape.proofs.position.Goals as goal

or_all : (p : ℕ → Bool) (xs : List ℕ) → unwrap_or (position p xs) (length xs) ≡ position_or_len p xs
or_all p xs = go (dec_lt (position_or_len p xs) (length xs))
  where
    go : Dec (position_or_len p xs < length xs) → unwrap_or (position p xs) (length xs) ≡ position_or_len p xs
    go (yes l) = rw (lt-ltb _ _ l)
    go (no f) =
        let e : length xs ≡ position_or_len p xs = omega (arith, f, prefix_len-le-length (λ x. not (p x)) xs) in
        rw (le-ltb (position_or_len p xs) (length xs) (omega arith)) e

same : (k : ℕ) (xs : List ℕ) → position_of xs k ≡ position_or_len (λ x. eqb (x % 16) k) xs
unfolding position_of
same k xs = is_position_or_len (λ ys. position_of ys k) (λ x. eqb (x % 16) k) refl (λ x ys. go (eqb (x % 16) k) (position_of ys k)) xs
  where
    go : (b : Bool) (n : ℕ) → pick b 0 (suc n) ≡ cond b 0 (1 + n)
    go true n = refl
    go false n = omega arith

pub returns : goal.returns
returns c =
    let p : ℕ → Bool = λ x. eqb (x % 16) c.args.scan.0 in
    let xs : List ℕ = c.args.list.now in
    let first : c.position.result ≡ position p xs =
    position_from_yields_List p _ _ _ c.position.ensures.ran (YieldsList-from_slice xs c.iter.ensures.rest) (λ x b q k. search (rules, tests)) in
    rw (c.unwrap_or.ensures, first, same c.args.scan.0 xs) (or_all p xs)
