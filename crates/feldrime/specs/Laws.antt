-- What the proofs of the calls for C use. Assumes nothing.
use Rattle.std.specs.Prelude.{ℕ, ◌≡◌, refl, Bool, true, false, List, Err}
use Rattle.std.proofs.Common.{ap, ◌∙◌}
use Rattle.lists.specs.Choice.{pick}
use Rattle.refusal.specs.Number.{Checked}
use Rattle.refusal.specs.declared.Refusal.TheVariants.{Size}
use Rattle.feldrime.specs.declared.Answer.{Answer}
use Rattle.feldrime.specs.Answers.{answer_of}

-- a call that answers 3 where a test holds, and else what another call answers and leaves in a buffer
module _ (t : Bool) (x : Checked) (out₀ y : List ℕ) (a : Answer) where
  pub three : t ≡ true → a ≡ answer_of (Err Size) → (a ≡ answer_of (pick t (Err Size) x)) × (out₀ ≡ pick t out₀ y)
  three e q = rw e (q, refl)

  pub taken : t ≡ false → (r : Checked) (out : List ℕ) → (r ≡ x) × (out ≡ y) → a ≡ answer_of r → (a ≡ answer_of (pick t (Err Size) x)) × (out ≡ pick t out₀ y)
  taken e r out q p = rw e (p ∙ ap answer_of q.0, q.1)
