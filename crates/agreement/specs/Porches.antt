-- 02, R-2: which porch. A page is accepted exactly if neither 12 nor 4 refuses it, its back porch code is not 0, its front
-- porch is at least 2, and 6 does not refuse it. Each of 13, 14 and 15 is answered exactly if its fact holds and none
-- before it does, and the number beside it is what the front porch misses. Assumes nothing.
use Rattle.std.specs.Prelude.{ℕ, ◌+◌, ◌-◌, ◌%◌, ◌≤◌, ◌≡◌, Bool, ◌&&◌, ◌||◌, [], ◌∷◌, ltb, is_ok, Err, Ok}
use Rattle.std.proofs.Math.Path.{refl}
use Rattle.std.proofs.Common.{sym, ap, ◌∙◌, arith, lt-ltb, ltb-true, ltb-false}
use Rattle.std.proofs.Math.Bool.{true, false, not}
use Rattle.std.proofs.lemmas.Bool.{not-true}
use Rattle.std.proofs.Math.Dec.{eqb}
use Rattle.lists.specs.Choice.{pick, first_of, both}
use Rattle.units.specs.declared.Clocks.{Clocks}
use Rattle.refusal.specs.declared.Refusal.TheVariants.{Version, Length, Size, Reserved, BackPorch, LineShort, FrontPorch, Width, Range, Room, Register, Command, Address, Kind, Stretch, Apart, Coded}
use Rattle.refusal.specs.Number.{unrefused, Checked, number_of, beside_of}
use Rattle.board.specs.declared.Page.{Page}
use Rattle.board.specs.Range.{address_refused}
use Rattle.timing.specs.Fields.{ir, rest_of, hfp_of, ht_of}
use Rattle.timing.specs.Check.{reserved_refused, back_porch_refused, line_short, front_porch_refused, missing, width_refused, page_check}

-- 01: HBP code 0, or HFP below 2
abbrev pub porch_refused : Page → Bool
porch_refused p = eqb (ir p 2 % 8) 0 || ltb (hfp_of p) 2

abbrev pub accepted : Page → Bool
accepted p = not (address_refused p) && not (reserved_refused p) && not (porch_refused p) && not (width_refused p.video.dots)

-- the page check by its six facts
abbrev order : (a r b l f w : Bool) → Clocks → Checked
order a r b l f w n = first_of ((a, Err Address) ∷ (r, Err Reserved) ∷ (b, Err BackPorch) ∷ (l, Err (LineShort n)) ∷ (f, Err (FrontPorch n)) ∷ (w, Err Width) ∷ []) unrefused

module _ (p : Page) where
  by-facts : page_check p ≡ order (address_refused p) (reserved_refused p) (back_porch_refused p) (line_short p) (front_porch_refused p) (width_refused p.video.dots) (missing p)
  unfolding page_check
  by-facts = refl

  -- a line that is too short has no front porch
  short-porch : line_short p ≡ true → front_porch_refused p ≡ true
  short-porch e = lt-ltb (hfp_of p) 2 (omega (arith, ltb-true (ht_of p) (rest_of p) e))

  -- [R-2 accepted] which pages are accepted doesn't change; A2 is 15, one clock short
  -- accepted: neither 12 nor 4 nor 6 refuses, the HBP code is not 0, and HFP is at least 2
  pub accepted-exactly : is_ok (page_check p) ≡ accepted p
  accepted-exactly =
      ap is_ok by-facts ∙ go (address_refused p) (reserved_refused p) (back_porch_refused p) (line_short p) (front_porch_refused p) (width_refused p.video.dots) short-porch
    where
      go : (a r b l f w : Bool) → (l ≡ true → f ≡ true)
          → is_ok (order a r b l f w (missing p)) ≡ not a && not r && not (b || f) && not w
      go true r b l f w s = refl
      go false true b l f w s = refl
      go false false true l f w s = refl
      go false false false true f w s = rw (s refl)
      go false false false false true w s = refl
      go false false false false false true s = refl
      go false false false false false false s = refl

  abbrev number : ℕ
  number = number_of (page_check p)

  -- neither 12 nor 4, which come before a porch
  abbrev pub clear : Bool
  clear = not (address_refused p) && not (reserved_refused p)

  -- nor 13
  abbrev pub reached : Bool
  reached = clear && not (back_porch_refused p)

  -- [R-2 porches]
  -- each exactly where its fact holds and none before it does, and what stands beside it
  pub told : (eqb number 13 ≡ clear && back_porch_refused p)
      × (eqb number 14 ≡ reached && line_short p)
      × (eqb number 15 ≡ reached && not (line_short p) && front_porch_refused p)
      × (beside_of (page_check p) ≡ pick (eqb number 14 || eqb number 15) (rest_of p + 2 - ht_of p) 0)
  unfolding page_check
  told = go (address_refused p) (reserved_refused p) (back_porch_refused p) (line_short p) (front_porch_refused p) (width_refused p.video.dots)
    where
      go : (a r b l f w : Bool) → (eqb (number_of (order a r b l f w (missing p))) 13 ≡ not a && not r && b)
          × (eqb (number_of (order a r b l f w (missing p))) 14 ≡ not a && not r && not b && l)
          × (eqb (number_of (order a r b l f w (missing p))) 15 ≡ not a && not r && not b && not l && f)
          × (beside_of (order a r b l f w (missing p))
          ≡ pick (eqb (number_of (order a r b l f w (missing p))) 14 || eqb (number_of (order a r b l f w (missing p))) 15) (rest_of p + 2 - ht_of p) 0)
      go true r b l f w = (refl, refl, refl, refl)
      go false true b l f w = (refl, refl, refl, refl)
      go false false true l f w = (refl, refl, refl, refl)
      go false false false true f w = (refl, refl, refl, refl)
      go false false false false true w = (refl, refl, refl, refl)
      go false false false false false true = (refl, refl, refl, refl)
      go false false false false false false = (refl, refl, refl, refl)

  -- [R-2 missing]
  -- with 14 at least 3 clocks are missed
  pub missed-14 : number ≡ 14 → 3 ≤ beside_of (page_check p)
  missed-14 e =
      let short = (both reached (line_short p) (sym told.1 ∙ rw e)).1 in
      rw (told.3, e) (omega (arith, ltb-true (ht_of p) (rest_of p) short))

  -- [R-2 missing]
  -- with 15 one or two
  pub missed-15 : number ≡ 15 → (1 ≤ beside_of (page_check p)) × (beside_of (page_check p) ≤ 2)
  missed-15 e =
      let f = both (reached && not (line_short p)) (front_porch_refused p) (sym told.2 ∙ rw e) in
      let long = ltb-false (ht_of p) (rest_of p) (not-true _ (both reached (not (line_short p)) f.0).1) in
      let low = ltb-true (hfp_of p) 2 f.1 in
      rw (told.3, e) (omega (arith, long, low), omega (arith, long, low))

-- [R-2 missing]
-- no other refusal has a number beside it
pub beside_none : (r : Checked) → (number_of r ≡ 14 → ⊥) → (number_of r ≡ 15 → ⊥) → beside_of r ≡ 0
beside_none (Ok tt) s f = refl
beside_none (Err Version) s f = refl
beside_none (Err Length) s f = refl
beside_none (Err Size) s f = refl
beside_none (Err Reserved) s f = refl
beside_none (Err BackPorch) s f = refl
beside_none (Err Width) s f = refl
beside_none (Err Range) s f = refl
beside_none (Err Room) s f = refl
beside_none (Err Register) s f = refl
beside_none (Err Command) s f = refl
beside_none (Err Address) s f = refl
beside_none (Err Kind) s f = refl
beside_none (Err Stretch) s f = refl
beside_none (Err Apart) s f = refl
beside_none (Err Coded) s f = refl
beside_none (Err (LineShort n)) s f = absurd (s refl)
beside_none (Err (FrontPorch n)) s f = absurd (f refl)
