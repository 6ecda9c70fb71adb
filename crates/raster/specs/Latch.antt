-- 000, field mode (02, R-1): attributes latched at a cell with AFLG hold until the next such cell. Assumes nothing.
--     latched       what is valid at a cell
--     last_set       what is valid after some cells
--     last_found    it is the byte of the last of them with AFLG
--     last_none     or, where none has it, what was valid before
--     last-split    after some cells, and some more
--     last-over     none of them, or some, over what was valid before
--     last-kept     a byte without AFLG is never latched
--     columns-cells what a row's columns set is what the cells set that it has fetched by then
use Rattle.std.specs.Prelude.{◌≡◌, refl, Bool, true, false, ◌&&◌, List, ltb, eqb, get_or}
use Rattle.std.proofs.Common.{sym, ap, ap₂, ◌∙◌, add-zero, lt-ltb, le-ltb, ltb-false, eq-eqb, ne_eqb}
use Prim.Native.Nat.{ℕ, zero, suc, ◌+◌, ◌-◌, ◌/◌, ◌%◌, ◌≤◌, ◌<◌}
use Rattle.std.proofs.Math.Decide.{dec_lt, ℕ_discrete}
use native.Mathlib.Omega.{arith}
use Rattle.lists.specs.Choice.{pick}
use Rattle.raster.specs.declared.Code.{Code}
use Rattle.raster.specs.Wide.{is_wide, again_at}

-- [dots attributes] the attribute byte; with AFLG 0 the cell has none
-- AFLG is bit 7: where it is set a cell's own byte, else what was valid before
abbrev pub latched : (byte held : ℕ) → ℕ
latched byte held = pick (ltb byte 128) held byte

-- the byte that the cell at an address sets; in character mode no cell sets any
abbrev pub sets_of : (runs : Bool) → (attrs : List ℕ) → (address : ℕ) → ℕ
sets_of runs attrs a = pick runs (get_or attrs a 0) 0

-- [R-1 latch]
-- of n cells, looked at from the last one back: the byte of the first with AFLG that is met, or what was valid before them all
unfoldable pub last_set : (byte : ℕ → ℕ) → (held n : ℕ) → ℕ
last_set byte held zero = held
last_set byte held (suc n) = latched (byte n) (last_set byte held n)

pub last_none : (byte : ℕ → ℕ) (held n : ℕ) → ((i : ℕ) → i < n → byte i < 128) → last_set byte held n ≡ held
unfolding last_set
last_none byte held zero h = refl
last_none byte held (suc n) h = rw (lt-ltb (byte n) 128 (h n (omega arith))) (last_none byte held n (λ i l. h i (omega arith)))

pub last_found : (byte : ℕ → ℕ) (held n j : ℕ) → j < n → 128 ≤ byte j → ((i : ℕ) → j < i → i < n → byte i < 128) → last_set byte held n ≡ byte j
unfolding last_set
last_found byte held zero j l a h = absurd (omega arith)
last_found byte held (suc n) j l a h = go (λ m. last_found byte held n j m a (λ i p q. h i p (omega arith))) (dec_lt j n)
  where
    go : (j < n → last_set byte held n ≡ byte j) → Dec (j < n) → last_set byte held (suc n) ≡ byte j
    go before (yes m) = rw (lt-ltb (byte n) 128 (h n m (omega arith))) (before m)
    go before (no f) =
        let e : n ≡ j = omega arith in
        rw (e, le-ltb (byte j) 128 a)

pub last-split : (byte : ℕ → ℕ) (held m n : ℕ) → last_set byte held (m + n) ≡ last_set (λ i. byte (m + i)) (last_set byte held m) n
unfolding last_set
last-split byte held m zero = ap (last_set byte held) (add-zero m)
last-split byte held m (suc n) =
    let e : m + suc n ≡ suc (m + n) = omega arith in
    rw e (ap (latched (byte (m + n))) (last-split byte held m n))

pub same-last : (f g : ℕ → ℕ) (held n : ℕ) → ((i : ℕ) → i < n → f i ≡ g i) → last_set f held n ≡ last_set g held n
unfolding last_set
same-last f g held zero h = refl
same-last f g held (suc n) h = ap₂ latched (h n (omega arith)) (same-last f g held n (λ i l. h i (omega arith)))

-- what a latch byte counts as stays as it is
pub kept-twice : (byte : ℕ) → latched (latched byte 0) 0 ≡ latched byte 0
kept-twice byte = go (ltb byte 128) refl
  where
    go : (t : Bool) → ltb byte 128 ≡ t → latched (pick t 0 byte) 0 ≡ pick t 0 byte
    go true e = refl
    go false e = rw e

pub latched-kept : (byte held : ℕ) → latched held 0 ≡ held → latched (latched byte held) 0 ≡ latched byte held
latched-kept byte held h = go (ltb byte 128) refl
  where
    go : (t : Bool) → ltb byte 128 ≡ t → latched (pick t held byte) 0 ≡ pick t held byte
    go true e = h
    go false e = rw e

pub last-kept : (byte : ℕ → ℕ) (held n : ℕ) → latched held 0 ≡ held → latched (last_set byte held n) 0 ≡ last_set byte held n
unfolding last_set
last-kept byte held zero h = h
last-kept byte held (suc n) h = latched-kept (byte n) (last_set byte held n) (last-kept byte held n h)

-- a search that starts from nothing tells what there is over anything
pub last-over : (byte : ℕ → ℕ) (held n : ℕ) → (last_set byte 0 n ≡ 0 → last_set byte held n ≡ held) × ((last_set byte 0 n ≡ 0 → ⊥) → last_set byte held n ≡ last_set byte 0 n)
unfolding last_set
last-over byte held zero = ((λ e. refl), (λ f. absurd (f refl)))
last-over byte held (suc n) = go (ltb (byte n) 128) refl (last-over byte held n)
  where
    go : (t : Bool) → ltb (byte n) 128 ≡ t
        → (last_set byte 0 n ≡ 0 → last_set byte held n ≡ held) × ((last_set byte 0 n ≡ 0 → ⊥) → last_set byte held n ≡ last_set byte 0 n)
        → (pick t (last_set byte 0 n) (byte n) ≡ 0 → pick t (last_set byte held n) (byte n) ≡ held)
        × ((pick t (last_set byte 0 n) (byte n) ≡ 0 → ⊥) → pick t (last_set byte held n) (byte n) ≡ pick t (last_set byte 0 n) (byte n))
    go true e before = before
    go false e before = ((λ z. let h : 128 ≤ byte n = ltb-false _ _ e in absurd (omega (arith, h, z))), (λ f. refl))

-- a search back from the last cell: it is over where a byte has AFLG, else it goes on from the cell before
module _ (byte : ℕ → ℕ) (held n left v : ℕ) (same : last_set byte held left ≡ last_set byte held n) (some : 0 < left) (e : v ≡ byte (left - 1)) where
  one-back : (k : ℕ) → k ≡ left → last_set byte held k ≡ latched (byte (k - 1)) (last_set byte held (k - 1))
  unfolding last_set
  one-back zero q = absurd (omega (arith, q, some))
  one-back (suc k) q = let z : suc k - 1 ≡ k = omega arith in rw z

  pub search-over : 128 ≤ v → v ≡ last_set byte held n
  search-over h = sym (one-back left refl ∙ rw (← e, le-ltb v 128 h)) ∙ same

  pub search-on : v < 128 → last_set byte held (left - 1) ≡ last_set byte held n
  search-on h = sym (one-back left refl ∙ rw (← e, lt-ltb v 128 h)) ∙ same

pub search-none : (byte : ℕ → ℕ) (held n left : ℕ) → last_set byte held left ≡ last_set byte held n → left ≤ 0 → held ≡ last_set byte held n
unfolding last_set
search-none byte held n zero same z = same
search-none byte held n (suc left) same z = absurd (omega arith)

-- a cell's own byte first, then whether it counts in this mode
pub sets-or : (runs : Bool) (byte held : ℕ) → latched (pick runs byte 0) held ≡ pick runs (latched byte held) held
sets-or true byte held = refl
sets-or false byte held = refl

-- where no byte has AFLG nothing is ever latched
pub last-zero : (n : ℕ) → last_set (λ _. 0) 0 n ≡ 0
last-zero n = last_none (λ _. 0) 0 n (λ i h. omega arith)

-- a row's columns, of which an odd one of double width fetches nothing, and the cells that it has fetched by then
unfoldable pub fetched_by : Code → (c : ℕ) → ℕ
fetched_by k c = pick (is_wide k) ((c + 1) / 2) c

pub columns-cells : (k : Code) (byte : ℕ → ℕ) (held c : ℕ)
    → last_set (λ i. pick (again_at k i) 0 (byte (pick (is_wide k) (i / 2) i))) held c ≡ last_set byte held (fetched_by k c)
unfolding last_set fetched_by
columns-cells k byte held c = go (is_wide k) c
  where
    set : Bool → ℕ → ℕ
    set w i = pick (w && eqb (i % 2) 1) 0 (byte (pick w (i / 2) i))

    next : (c : ℕ) → Dec (c % 2 ≡ 1) → last_set (set true) held c ≡ last_set byte held ((c + 1) / 2) → last_set (set true) held (suc c) ≡ last_set byte held ((suc c + 1) / 2)
    next c (yes o) e =
        let n : (suc c + 1) / 2 ≡ (c + 1) / 2 = omega (arith, o) in
        rw (eq-eqb (c % 2) 1 o, n) e
    next c (no f) e =
        let n : (suc c + 1) / 2 ≡ suc ((c + 1) / 2) = omega (arith, f) in
        let h : c / 2 ≡ (c + 1) / 2 = omega (arith, f) in
        rw (ne_eqb (c % 2) 1 f, n, h) (ap (latched (byte ((c + 1) / 2))) e)

    go : (w : Bool) (c : ℕ) → last_set (set w) held c ≡ last_set byte held (pick w ((c + 1) / 2) c)
    go true zero = refl
    go true (suc c) = next c (ℕ_discrete (c % 2) 1) (go true c)
    go false zero = refl
    go false (suc c) = ap (latched (byte c)) (go false c)
