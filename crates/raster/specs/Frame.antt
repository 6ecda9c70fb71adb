-- A frame takes exactly HT * VT clocks, whatever is carried. Assumes nothing.
use Rattle.std.specs.Prelude.{◌≡◌, ℕ, ◌*◌, ◌%◌}
use Rattle.raster.specs.declared.Counts.{Counts}
use Rattle.raster.specs.Tick.{origin→, origin←}
use Rattle.raster.specs.Raster.{HT, VT, Good, clocks-some, frame-some, Rows, at_once}

module _ {D : Type 0} (g : Counts) (w : Rows D) (s : Good g) (z : D) where
  -- after a whole number of frames line and clock are 0, and at no other clock
  pub frame→ : (n : ℕ) → n % (HT g * VT g) ≡ 0 → ((at_once g w z n).line ≡ 0) × ((at_once g w z n).clock ≡ 0)
  unfolding at_once
  frame→ n e = origin← n (clocks-some g s) (frame-some g s) e

  pub frame← : (n : ℕ) → (at_once g w z n).line ≡ 0 → (at_once g w z n).clock ≡ 0 → n % (HT g * VT g) ≡ 0
  unfolding at_once
  frame← n p q = origin→ n (clocks-some g s) (frame-some g s) p q
