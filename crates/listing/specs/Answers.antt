-- What a call answers and leaves, where it refuses and where it does not. Assumes nothing.
use Rattle.std.specs.Prelude.{ℕ, ◌≤◌, ◌≡◌, refl, List, ◌++◌, length, drop, Ok, Err}
use Rattle.std.proofs.Common.{zero-le}
use Rattle.refusal.specs.declared.Refusal.{Refusal}
use Rattle.refusal.specs.Number.{Checked, unrefused, given, value_or}
use Rattle.listing.specs.Listing.{listed_of, listed_count, listed_in}

module _ (x : Checked) (bytes out₀ : List ℕ) where
  pub refused-so : {why : Refusal} → x ≡ Err why → (Err why ≡ listed_of x bytes) × (out₀ ≡ listed_in x bytes out₀)
  unfolding listed_of listed_in
  refused-so e = rw e (refl, refl)

  pub done-so : x ≡ unrefused → (out : List ℕ) (n : ℕ) → length bytes ≡ n → out ≡ bytes ++ drop n out₀
      → (Ok n ≡ listed_of x bytes) × (out ≡ listed_in x bytes out₀)
  unfolding listed_of listed_in
  done-so e out n l q = rw (e, l) (refl, q)

-- what was written lies in the buffer
pub listed-within : (x : Checked) (bytes : List ℕ) (room : ℕ) → (x ≡ unrefused → length bytes ≤ room) → listed_count x bytes ≤ room
unfolding listed_of
listed-within x bytes room h = go x refl
  where
    go : (t : Checked) → x ≡ t → value_or 0 (given t (length bytes)) ≤ room
    go (Ok tt) e = h e
    go (Err why) e = zero-le
