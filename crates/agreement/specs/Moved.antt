-- 02, R-5: 16, 19, 17 and 18 are each answered exactly where their fact holds and none before it does. Assumes nothing.
--     own_below     the page's own refusals are below 16
--     as-table-told    moving there: 16, 17
--     never-coded   and never 19, since 4 comes first
--     no_place      17 is the fact that from every place on some row fetches one of the table's cells
--     as-sheet-told     moving back: 16, 19, 18
use Rattle.std.specs.Prelude.{ℕ, ◌<◌, ◌≡◌, Bool, ◌&&◌, ◌||◌, List, [], ◌∷◌, eqb, ltb, length, is_ok, Err, Ok}
use Rattle.std.proofs.Math.Path.{refl}
use Rattle.std.proofs.Common.{sym, ◌∙◌, true≢false}
use Rattle.std.proofs.Math.Bool.{true, false, not}
use native.Mathlib.Omega.{arith}
use borrow.Author.Tests.{ltb-true, eqb-true, eq-eqb, ne_eqb}
use Rattle.lists.specs.Choice.{first_of}
use Rattle.lists.specs.Search.{first-not, first-none}
use Rattle.refusal.specs.declared.Refusal.TheVariants.{Range, Room, Address, Reserved, BackPorch, LineShort, FrontPorch, Width, Kind, Stretch, Apart, Coded}
use Rattle.refusal.specs.Number.{Checked, unrefused, after, number_of, wrong_size}
use Rattle.refusal.specs.Laws.{done-is}
use Rattle.units.specs.declared.Clocks.{Clocks}
use Rattle.board.specs.declared.Page.{Page}
use Rattle.board.specs.declared.Board.{Board}
use Rattle.board.specs.Range.{memory_refused, address_refused}
use Rattle.timing.specs.Fields.{coded_of, table_of}
use Rattle.timing.specs.Check.{reserved_refused, back_porch_refused, line_short, front_porch_refused, missing, width_refused, page_check, state_refused, call_check}
use Rattle.catalogue.specs.ToTable.{table_places, unfetched_at, table_place, own_check, as_table_check}
use Rattle.catalogue.specs.ToSheet.{rows_apart, as_sheet_check}
use Rattle.catalogue.specs.Marks.{own-passed}

page-below : (p : Page) → number_of (page_check p) < 16
unfolding page_check
page-below p = go (address_refused p) (reserved_refused p) (back_porch_refused p) (line_short p) (front_porch_refused p) (width_refused p.video.dots) (missing p)
  where
    go : (a r b l f w : Bool) (n : Clocks)
        → number_of (first_of ((a, Err Address) ∷ (r, Err Reserved) ∷ (b, Err BackPorch) ∷ (l, Err (LineShort n)) ∷ (f, Err (FrontPorch n)) ∷ (w, Err Width) ∷ []) unrefused) < 16
    go true r b l f w n = omega arith
    go false true b l f w n = omega arith
    go false false true l f w n = omega arith
    go false false false true f w n = omega arith
    go false false false false true w n = omega arith
    go false false false false false true n = omega arith
    go false false false false false false n = omega arith

module _ (b : Board) where
  pub own_below : (n : ℕ) → number_of (own_check b n) < 16
  unfolding own_check call_check
  own_below n = go (memory_refused n) (not (is_ok (page_check b.page))) (state_refused b || false)
    where
      go : (s p t : Bool) → number_of (first_of ((not (is_ok (wrong_size s)), wrong_size s) ∷ (p, page_check b.page) ∷ (t, Err Range) ∷ (false, Err Room) ∷ []) unrefused) < 16
      go true p t = omega arith
      go false true t = page-below b.page
      go false false true = omega arith
      go false false false = omega arith

  -- a number that is none of the page's own
  not_own : (n k : ℕ) → ltb 15 k ≡ true → eqb (number_of (own_check b n)) k ≡ false
  not_own n k h =
      let other : number_of (own_check b n) ≡ k → ⊥ = λ z. omega (arith, z, own_below n, ltb-true 15 k h) in
      ne_eqb (number_of (own_check b n)) k other

  module _ (chars : List ℕ) where
    abbrev own : Bool
    own = is_ok (own_check b (length chars))

    abbrev on : Bool
    on = table_of b.page

    abbrev coded : Bool
    coded = coded_of b.page

    -- no place has a table's cells unfetched
    abbrev none : Bool
    none = eqb (table_place b.page chars) (table_places b.page)

    -- [R-5 refusals]
    -- 16, 19 and 17 are each answered exactly if their fact holds and none before it does
    pub as-table-told : (eqb (number_of (as_table_check b chars)) 16 ≡ own && on)
        × (eqb (number_of (as_table_check b chars)) 19 ≡ own && not on && coded)
        × (eqb (number_of (as_table_check b chars)) 17 ≡ own && not on && not coded && none)
    unfolding as_table_check
    as-table-told = go (own_check b (length chars)) refl on coded none
      where
        go : (r : Checked) → own_check b (length chars) ≡ r → (o c n : Bool)
            → (eqb (number_of (after r (first_of ((o, Err Kind) ∷ (c, Err Coded) ∷ (n, Err Stretch) ∷ []) unrefused))) 16 ≡ is_ok r && o)
            × (eqb (number_of (after r (first_of ((o, Err Kind) ∷ (c, Err Coded) ∷ (n, Err Stretch) ∷ []) unrefused))) 19 ≡ is_ok r && not o && c)
            × (eqb (number_of (after r (first_of ((o, Err Kind) ∷ (c, Err Coded) ∷ (n, Err Stretch) ∷ []) unrefused))) 17 ≡ is_ok r && not o && not c && n)
        go (Err why) e o c n = (rw e at (not_own (length chars) 16 refl), rw e at (not_own (length chars) 19 refl), rw e at (not_own (length chars) 17 refl))
        go (Ok tt) e true c n = (refl, refl, refl)
        go (Ok tt) e false true n = (refl, refl, refl)
        go (Ok tt) e false false true = (refl, refl, refl)
        go (Ok tt) e false false false = (refl, refl, refl)

    -- [R-5 refusals]
    -- 19 is never answered moving there: 4 comes first
    pub never-coded : number_of (as_table_check b chars) ≡ 19 → ⊥
    never-coded e = true≢false (sym (eq-eqb _ _ e) ∙ as-table-told.1 ∙ go own refl on refl)
      where
        go : (t : Bool) → own ≡ t → (o : Bool) → on ≡ o → (t && not o && coded) ≡ false
        go false q o z = refl
        go true q true z = refl
        go true q false z = (own-passed b (length chars) (done-is _ q)).0.coded z

    -- [R-5 lowest]
    -- what 17 says
    pub no_place : (none ≡ true → (a : ℕ) → a < table_places b.page → unfetched_at b.page chars a ≡ false)
        × (((a : ℕ) → a < table_places b.page → unfetched_at b.page chars a ≡ false) → none ≡ true)
    unfolding table_place
    no_place = (
      (λ e. first-not (unfetched_at b.page chars) (table_places b.page) (eqb-true _ _ e)),
      (λ h. eq-eqb _ _ (first-none (unfetched_at b.page chars) (table_places b.page) h)),
    )

    -- [R-5 refusals]
    -- 16, 19 and 18 are each answered exactly if their fact holds and none before it does
    pub as-sheet-told : (eqb (number_of (as_sheet_check b chars)) 16 ≡ own && not on)
        × (eqb (number_of (as_sheet_check b chars)) 19 ≡ own && on && coded)
        × (eqb (number_of (as_sheet_check b chars)) 18 ≡ own && on && not coded && rows_apart b.page chars)
    unfolding as_sheet_check
    as-sheet-told = go (own_check b (length chars)) refl on coded (rows_apart b.page chars)
      where
        go : (r : Checked) → own_check b (length chars) ≡ r → (o c n : Bool)
            → (eqb (number_of (after r (first_of ((not o, Err Kind) ∷ (c, Err Coded) ∷ (n, Err Apart) ∷ []) unrefused))) 16 ≡ is_ok r && not o)
            × (eqb (number_of (after r (first_of ((not o, Err Kind) ∷ (c, Err Coded) ∷ (n, Err Apart) ∷ []) unrefused))) 19 ≡ is_ok r && o && c)
            × (eqb (number_of (after r (first_of ((not o, Err Kind) ∷ (c, Err Coded) ∷ (n, Err Apart) ∷ []) unrefused))) 18 ≡ is_ok r && o && not c && n)
        go (Err why) e o c n = (rw e at (not_own (length chars) 16 refl), rw e at (not_own (length chars) 19 refl), rw e at (not_own (length chars) 18 refl))
        go (Ok tt) e false c n = (refl, refl, refl)
        go (Ok tt) e true true n = (refl, refl, refl)
        go (Ok tt) e true false true = (refl, refl, refl)
        go (Ok tt) e true false false = (refl, refl, refl)
