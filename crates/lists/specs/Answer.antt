-- A contract that leaves one answer only. Assumes nothing.
use Rattle.std.specs.Prelude.{◌≡◌}
use Rattle.std.proofs.Common.{sym, ◌∙◌}

-- [demand takes] every call takes any bytes and numbers, ends, and asks nothing; bad input gets its number
-- any two answers that meet the contract are the same answer
abbrev pub OneAnswer : {A : Type 0} → (A → Type 0) → Type 0
OneAnswer {A} Meets = (r s : A) → Meets r → Meets s → r ≡ s

-- a contract that names its answer is one of these
pub only : {A : Type 0} (x : A) → OneAnswer (λ r. r ≡ x)
only x r s p q = p ∙ sym q

-- the same of a contract that names its result and what each lent buffer holds afterwards
pub only-both : {A B : Type 0} (x : A) (y : B) → OneAnswer {A = A × B} (λ r. (r.0 ≡ x) × (r.1 ≡ y))
only-both x y r s p q = λ i. (only x r.0 s.0 p.0 q.0 i, only y r.1 s.1 p.1 q.1 i)

pub only-three : {A B C : Type 0} (x : A) (y : B) (z : C) → OneAnswer {A = A × B × C} (λ r. (r.0 ≡ x) × (r.1 ≡ y) × (r.2 ≡ z))
only-three x y z r s p q = λ i. (only x r.0 s.0 p.0 q.0 i, only y r.1 s.1 p.1 q.1 i, only z r.2 s.2 p.2 q.2 i)

pub only-four : {A B C D : Type 0} (x : A) (y : B) (z : C) (w : D) → OneAnswer {A = A × B × C × D} (λ r. (r.0 ≡ x) × (r.1 ≡ y) × (r.2 ≡ z) × (r.3 ≡ w))
only-four x y z w r s p q = λ i. (only x r.0 s.0 p.0 q.0 i, only y r.1 s.1 p.1 q.1 i, only z r.2 s.2 p.2 q.2 i, only w r.3 s.3 p.3 q.3 i)
