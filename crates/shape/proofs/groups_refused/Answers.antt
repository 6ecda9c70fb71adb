-- What was seen so far, and what is left, decide.
use Prim.Native.Nat.{ℕ, ◌≤◌, ◌<◌, ◌+◌}
use mathlib.Core.Path.{◌≡◌, sym, ◌∙◌}
use mathlib.Core.Bool.{Bool, ◌||◌, or-false, or_assoc}
use mathlib.Core.List.{List}
use native.Mathlib.Numerals.{add-one}
use lib.Dec.{ltb}
use lib.ListN.{length, get_or, drop, drop_of_length-le}
use lib.Seq.{drop-cons}
use Rattle.shape.specs.Font.{groups_refused}
use Rattle.shape.proofs.groups_refused.Goals as goal

module _ (gs : List ℕ) (i : ℕ) (above : Bool) (inv : (above || groups_refused (drop i gs)) ≡ groups_refused gs) where
  on : i < length gs → ((above || ltb 4 (get_or gs i 0)) || groups_refused (drop (i + 1) gs)) ≡ groups_refused gs
  unfolding groups_refused
  on h = or_assoc above (ltb 4 (get_or gs i 0)) (groups_refused (drop (i + 1) gs)) ∙ rw (add-one i) (rw (drop-cons gs i 0) at inv)

  end : length gs ≤ i → above ≡ groups_refused gs
  unfolding groups_refused
  end h = sym (or-false above) ∙ (rw (drop_of_length-le gs h) at inv)

pub loop-group-preserved : goal.loop-group-preserved
loop-group-preserved c = on _ _ c.loop-group.above c.loop-group.invariant c.loop-group-test.true

pub returns : goal.returns
returns c = end _ _ _ c.loop-group.invariant c.loop-group-test.false
