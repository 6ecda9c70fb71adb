-- Rests on found-last: the first byte with AFLG from the end is what is latched.
use Rattle.std.specs.Prelude.{leb}
use Rattle.std.specs.List.{find}
use Rattle.std.specs.Option.{unwrap_or}
use Rattle.std.proofs.Common.{◌≡◌, ℕ, ◌<◌, List, [], ◌∷◌, length, get_or, reverse, refl, sym, ap, ap₂, ◌∙◌, arith, rules, tests, lt-ltb, le-ltb, le-leb}
use Rattle.std.proofs.Math.Decide.{dec_lt}
use Rattle.std.proofs.Math.ListN.{get_or-append}
use Rattle.std.proofs.lemmas.Bool.{lt-leb}
use Rattle.std.proofs.lemmas.List.{get_or_at, length-reverse, reverse-append, reverse-reverse}
use Rattle.std.proofs.lemmas.Iterator.Adapters.{YieldsList-from_rev_slice, option_map_id}
use Rattle.std.proofs.lemmas.Iterator.Consumers.{YieldsList-from_copied}
use Rattle.std.proofs.lemmas.Iterator.Search.{find_from_yields_List}
use Rattle.raster.specs.Latch.{latched, last_set, last_none, same-last}
use Rattle.latch.proofs.last_set.Goals as goal

-- from the last byte on
found-last : (ys : List ℕ) → unwrap_or (find (λ x. leb 128 x) ys) 0 ≡ last_set (λ i. get_or (reverse ys) i 0) 0 (length ys)
unfolding last_set
found-last [] = refl
found-last (y ∷ ys) =
    go (dec_lt y 128)
    ∙ ap₂ latched (sym (get_or_at (reverse ys) y [] 0 _ (length-reverse ys)))
    (found-last ys ∙ same-last _ _ 0 _ (λ i l. sym (get_or-append (reverse ys) (y ∷ []) 0 i (rw length-reverse l))))
    ∙ rw (← reverse-append (y ∷ []) ys) refl
  where
    go : Dec (y < 128) → unwrap_or (find (λ x. leb 128 x) (y ∷ ys)) 0 ≡ latched y (unwrap_or (find (λ x. leb 128 x) ys) 0)
    go (yes l) = rw (lt-ltb y 128 l, lt-leb 128 y l) refl
    go (no f) = rw (le-ltb y 128 (omega (arith, f)), le-leb 128 y (omega (arith, f))) refl

pub returns-then-highest-lt128 : goal.returns-then-highest-lt128
returns-then-highest-lt128 c = sym (last_none _ 0 _ (λ i l. omega (arith, c.highest.ensures i l, c.if-highest-lt128.true)))

pub returns : goal.returns
returns c =
    let found = find_from_yields_List (λ x. leb 128 x) _ _ c.find.result c.find.ensures.ran
    (YieldsList-from_copied (YieldsList-from_rev_slice c.args.bytes.now (cc))) (λ x b q k. search (rules, tests)) in
    c.unwrap_or.ensures ∙ ap (λ o. unwrap_or o 0) (sym (option_map_id _) ∙ found)
    ∙ (rw (reverse-reverse c.args.bytes.now, length-reverse c.args.bytes.now) at (found-last (reverse c.args.bytes.now)))
