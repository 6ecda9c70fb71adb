-- The order of counts, which Rattle derives, is that of their numbers. Assumes nothing.
--     is-below, is-at_most, is-least   what a comparison answers
--     if-below, if-at_most             what a test of it gives
use Rattle.std.specs.Prelude.{ℕ, ◌≡◌, Bool, ltb, leb, min}
use Rattle.std.specs.Ordering.{is_lt, is_le, nat_cmp, on, ord_min}
use Rattle.std.proofs.Common.{sym, ◌∙◌, rules}
use Rattle.units.specs.declared.Clocks.{Clocks}
use Rattle.units.specs.Units.{clocks}

pub is-below : (a b : ℕ) → is_lt (nat_cmp a b) ≡ ltb a b
is-below a b = search rules

pub is-at_most : (a b : ℕ) → is_le (nat_cmp a b) ≡ leb a b
is-at_most a b = search rules

pub is-least : (a b : Clocks) → ord_min (on (λ (n : Clocks). n.0) nat_cmp) a b ≡ clocks (min a.0 b.0)
is-least a b = search rules

pub if-below : (a b : ℕ) {r t : Bool} → r ≡ is_lt (nat_cmp a b) → r ≡ t → ltb a b ≡ t
if-below a b answer test = sym (answer ∙ is-below a b) ∙ test

pub if-at_most : (a b : ℕ) {r t : Bool} → r ≡ is_le (nat_cmp a b) → r ≡ t → leb a b ≡ t
if-at_most a b answer test = sym (answer ∙ is-at_most a b) ∙ test
