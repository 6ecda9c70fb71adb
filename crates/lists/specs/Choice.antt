-- Decisions: a choice by a test, the first of several tests that holds, and how a proof walks through them. Assumes nothing.
use Rattle.std.specs.Prelude.{Bool, true, false, ◌&&◌, ◌||◌, List, [], ◌∷◌, ◌≡◌, refl, ℕ, ◌/◌, ◌%◌, ◌≤◌, ◌<◌, eqb, leb}
use Rattle.std.proofs.Math.Bool.{and-false}
use Rattle.std.proofs.Common.{true≢false, sym, le-leb}
use Rattle.std.proofs.lemmas.Bool.{lt-leb}

-- a where the test holds, else b
abbrev pub pick : {A : Type 0} → Bool → A → A → A
pick true a b = a
pick false a b = b

-- what stands beside the first test that holds, or the last word where none does: 01's order of refusals is one such list
abbrev pub first_of : {A : Type 0} → List (Bool × A) → A → A
first_of [] last = last
first_of (t ∷ ts) last = pick t.0 t.1 (first_of ts last)

-- lo to hi, both counted
abbrev pub within : ℕ → ℕ → ℕ → Bool
within lo hi a = leb lo a && leb a hi

-- the bit of a weight, of switches or of attributes
abbrev pub has_bit : (byte weight : ℕ) → Bool
has_bit byte weight = eqb (byte / weight % 2) 1

-- a proof that the test holds, or does not, and of the branch that is left; `_` stands for the other branch
pub stop : {A : Type 0} {t : Bool} {a x : A} (b : A) → t ≡ true → x ≡ a → x ≡ pick t a b
stop b p e = rw p e

pub pass : {A : Type 0} {t : Bool} {b x : A} (a : A) → t ≡ false → x ≡ b → x ≡ pick t a b
pass a p e = rw p e

-- a number and a range: in it, below it, above it
pub inside : (lo hi a : ℕ) → lo ≤ a → a ≤ hi → within lo hi a ≡ true
inside lo hi a p q = simp (le-leb lo a p, le-leb a hi q)

pub under : (lo hi a : ℕ) → a < lo → within lo hi a ≡ false
under lo hi a p = simp (lt-leb lo a p)

pub over : (lo hi a : ℕ) → hi < a → within lo hi a ≡ false
over lo hi a p = simp (lt-leb a hi p, and-false)

-- an `and` that holds: both sides do
pub both : (s t : Bool) → (s && t) ≡ true → (s ≡ true) × (t ≡ true)
both true t e = (refl, e)
both false t e = absurd (true≢false (sym e))

-- an `or` that does not hold: neither side does
pub neither : (s t : Bool) → (s || t) ≡ false → (s ≡ false) × (t ≡ false)
neither true t e = (e, absurd (true≢false e))
neither false t e = (refl, e)

-- a bound that both branches meet
pub pick-le : (k : ℕ) (t : Bool) (a b : ℕ) → a ≤ k → b ≤ k → pick t a b ≤ k
pick-le k true a b p q = p
pick-le k false a b p q = q

pub pick-lt : (k : ℕ) (t : Bool) (a b : ℕ) → a < k → b < k → pick t a b < k
pick-lt k true a b p q = p
pick-lt k false a b p q = q
