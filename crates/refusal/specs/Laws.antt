-- What callers use of a check's answer: which test was passed where nothing is refused. Assumes nothing.
use Rattle.std.specs.Prelude.{◌≡◌, refl, Bool, true, false, not, eqb, is_ok, Result, IsErrAnd, Ok, Err}
use Rattle.std.proofs.Common.{sym, ap, ◌∙◌, true≢false, eq-eqb}
use Rattle.lists.specs.Choice.{pick}
use Rattle.std.proofs.lemmas.Bool.{ne_eqb}
use Rattle.std.proofs.lemmas.Result.{err_from_is_err_and}
use Rattle.refusal.specs.declared.Refusal.{Refusal}
use Rattle.refusal.specs.declared.Refusal.TheVariants.{Version, Length, Size, Reserved, BackPorch, LineShort, FrontPorch, Width, Range, Room, Register, Command, Address, Kind, Stretch, Apart, Coded}
use Rattle.refusal.specs.Number.{Checked, unrefused, given, after, check_of, number_of, wrong_size}

pub done-is : (r : Checked) → is_ok r ≡ true → r ≡ unrefused
done-is (Ok tt) e = refl
done-is (Err why) e = absurd (true≢false (sym e))

-- the check of what a call answers is the check that it was given by
pub check-given : {A : Type 0} (r : Checked) (a : A) → check_of (given r a) ≡ r
check-given (Ok tt) a = refl
check-given (Err why) a = refl

-- [refusal numbers]
-- the number is 0 where nothing is refused, and there only
pub number-ok : (r : Checked) → eqb (number_of r) 0 ≡ is_ok r
number-ok (Ok tt) = refl
number-ok (Err Version) = refl
number-ok (Err Length) = refl
number-ok (Err Size) = refl
number-ok (Err Reserved) = refl
number-ok (Err BackPorch) = refl
number-ok (Err (LineShort missing)) = refl
number-ok (Err (FrontPorch missing)) = refl
number-ok (Err Width) = refl
number-ok (Err Range) = refl
number-ok (Err Room) = refl
number-ok (Err Register) = refl
number-ok (Err Command) = refl
number-ok (Err Address) = refl
number-ok (Err Kind) = refl
number-ok (Err Stretch) = refl
number-ok (Err Apart) = refl
number-ok (Err Coded) = refl

pub zero-done : (r : Checked) → number_of r ≡ 0 → r ≡ unrefused
zero-done r e = done-is r (sym (number-ok r) ∙ eq-eqb (number_of r) 0 e)

pub some-refused : (r : Checked) → (number_of r ≡ 0 → ⊥) → is_ok r ≡ false
some-refused r f = sym (number-ok r) ∙ ne_eqb (number_of r) 0 f

-- a choice of a refusal x, which came out as unrefused, was not taken; so a list of tests is gone through one by one
pub passed : (t : Bool) (x r : Checked) → is_ok x ≡ false → pick t x r ≡ unrefused → (t ≡ false) × (r ≡ unrefused)
passed true x r q e = absurd (true≢false (sym (ap is_ok e) ∙ q))
passed false x r q e = (refl, e)

pub size-right : (wrong : Bool) → wrong_size wrong ≡ unrefused → wrong ≡ false
size-right wrong e = (passed wrong (Err Size) unrefused refl e).0

-- the same for another check's answer x, which is given where it refuses
pub not-refused : (x r : Checked) → pick (not (is_ok x)) x r ≡ unrefused → (x ≡ unrefused) × (r ≡ unrefused)
not-refused x r e = go (is_ok x) refl e
  where
    go : (t : Bool) → is_ok x ≡ t → pick (not t) x r ≡ unrefused → (x ≡ unrefused) × (r ≡ unrefused)
    go true d q = (done-is x d, q)
    go false d q = absurd (true≢false (sym (ap is_ok q) ∙ d))

-- a call that comes after a check: where nothing is refused, neither refuses
pub after-passed : (x r : Checked) → after x r ≡ unrefused → (x ≡ unrefused) × (r ≡ unrefused)
after-passed (Ok tt) r e = (refl, e)
after-passed (Err why) r e = absurd (true≢false (sym (ap is_ok e)))

-- a refusal that a `?` sends on
pub sent-on : {A : Type 0} (r : Result A Refusal) {why : Refusal} → IsErrAnd r (λ y. y ≡ why) → r ≡ Err why
sent-on r told = let p = err_from_is_err_and r told in p.1 ∙ ap Err p.2

-- the usual way into a call: r is what the check x gave, and t whether that is Ok
pub checked : {r x : Checked} {t b : Bool} → r ≡ x → t ≡ is_ok r → t ≡ b → is_ok x ≡ b
checked e d q = ap is_ok (sym e) ∙ sym d ∙ q
