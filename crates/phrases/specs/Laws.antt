-- The searches answer what `Records.antt` says. Assumes nothing.
--     search-all     the search through all records: the lowest that holds both ends
--     held-refused   what was refused before stays
--     row-held       at what a row asks it is the record of the row
--     mate-begins, mate-turn, mate-fours, mate-all      the search for a later record that disagrees with one
--     pairs-all      and for the first two
use Prim.Native.Nat.{ℕ, zero, suc, ◌+◌, ◌<◌}
use Rattle.std.specs.Prelude.{◌≡◌, Bool, ◌&&◌, ◌||◌, List, Some, None, Ok, Err, length, get_or, is_ok}
use Rattle.std.specs.Option.{is_some, is_none, unwrap_or}
use Rattle.std.proofs.Math.Path.{refl}
use Rattle.std.proofs.Common.{ap, sym, ◌∙◌, arith, eq-eqb, eqb-true, lt-ltb, le-ltb}
use Rattle.std.proofs.Math.Bool.{true, false}
use Rattle.std.proofs.Math.Dec.{eqb}
use Rattle.lists.specs.Choice.{pick}
use Rattle.lists.specs.Search.{any_below, first_below, any_none, first-kept, first-new, same-any, same_first}
use Rattle.refusal.specs.Number.{Checked, given, number_of, beside_of}
use Rattle.refusal.specs.Laws.{number-ok}
use Rattle.board.specs.declared.Board.{Board}
use Rattle.fetch.specs.Rows.{fetched_of, fetch_at}
use Rattle.fetch.specs.Run.{run_check}
use Rattle.records.specs.declared.Phrase.{Phrase}
use Rattle.records.specs.declared.PairAnswer.{PairAnswer}
use Rattle.records.specs.declared.Ends.{Ends}
use Rattle.records.specs.declared.Asked.{Asked}
use Rattle.records.specs.Records.{none, bad_record, holds_row, disagrees, at, among, phrase_answer, phrase_of_row, pair_answer, later_differs, phrases_differ}
use Rattle.records.specs.Ends.{low_to, high_to, ends_of, asked, asked_by, asked_of, holds_ends, holds_row_lem}
use Rattle.records.specs.Folds.{turn, start_of, visit_of, search_to, phrase_among, search_of, mate_on, mate_start, mate_visit, mate_four, mate_to, mate_of, pair_start, pair_visit, pairs_to}

-- a turn more of a search that keeps its whole answer
module _ {A : Type 0} (refused found : ℕ → A) (nothing : A) (bad good : ℕ → Bool) (unrefused unfound : A → Bool)
    (r-r : (i : ℕ) → unrefused (refused i) ≡ false) (r-f : (i : ℕ) → unrefused (found i) ≡ true) (r-n : unrefused nothing ≡ true)
    (f-f : (i : ℕ) → unfound (found i) ≡ false) (f-n : unfound nothing ≡ true) where
  pub among-more : (n : ℕ) {s : A} → s ≡ among refused found nothing bad good n
      → turn (unrefused s) (bad n) (unfound s) (good n) s (refused n) (found n) ≡ among refused found nothing bad good (suc n)
  unfolding among any_below
  among-more n e = rw e (go (any_below bad n) refl (bad n) refl (any_below good n) refl (good n) refl)
    where
      so : (x u : Bool) → A
      so x u = pick x (refused (first_below bad n)) (pick u (found (first_below good n)) nothing)

      go : (x : Bool) → any_below bad n ≡ x → (y : Bool) → bad n ≡ y → (u : Bool) → any_below good n ≡ u → (v : Bool) → good n ≡ v
          → turn (unrefused (so x u)) y (unfound (so x u)) v (so x u) (refused n) (found n)
          ≡ pick (x || y) (refused (first_below bad (suc n))) (pick (u || v) (found (first_below good (suc n))) nothing)
      go true xe y ye u ue v ve = rw (r-r (first_below bad n), first-kept bad n xe)
      go false xe true ye true ue v ve = rw (r-f (first_below good n), first-new bad n xe ye)
      go false xe true ye false ue v ve = rw (r-n, first-new bad n xe ye)
      go false xe false ye true ue v ve = rw (r-f (first_below good n), f-f (first_below good n), first-kept good n ue)
      go false xe false ye false ue true ve = rw (r-n, f-n, first-new good n ue ve)
      go false xe false ye false ue false ve = rw (r-n, f-n)

same-among : {A : Type 0} (refused found : ℕ → A) (nothing : A) (bad t u : ℕ → Bool) (n : ℕ) → ((i : ℕ) → i < n → t i ≡ u i)
    → among refused found nothing bad t n ≡ among refused found nothing bad u n
unfolding among
same-among refused found nothing bad t u n h = rw (same-any t u n h, same_first t u n h)

-- ---- the record of a row

module _ (rs : List Phrase) (a : Asked) where
  before : a.refusal ≡ 0 → (n : ℕ) → search_to rs a n ≡ phrase_among (start_of a) (at rs bad_record) (at rs (holds_ends a.ends)) n
  unfolding visit_of among any_below
  before z zero = refl
  before z (suc n) =
      among-more (phrase_answer 20 0 0) (phrase_answer 0 0 1) (start_of a) (at rs bad_record) (at rs (holds_ends a.ends))
      (λ s. eqb s.refusal 0) (λ s. eqb s.found 0) (λ i. refl) (λ i. refl) (eq-eqb _ _ z) (λ i. refl) refl n (before z n)

  stays : eqb a.refusal 0 ≡ false → (n : ℕ) → search_to rs a n ≡ start_of a
  unfolding visit_of
  stays z zero = refl
  stays z (suc n) = rw (stays z n, z)

  pub search-all : search_to rs a (length rs) ≡ search_of rs a
  unfolding search_of
  search-all = go (eqb a.refusal 0) refl
    where
      go : (t : Bool) → eqb a.refusal 0 ≡ t
          → search_to rs a (length rs) ≡ pick t (phrase_among (start_of a) (at rs bad_record) (at rs (holds_ends a.ends)) (length rs)) (start_of a)
      go true e = before (eqb-true _ _ e) (length rs)
      go false e = stays e (length rs)

  -- nothing is looked at after a refusal
  pub none-searched : eqb a.refusal 0 ≡ false → start_of a ≡ search_of rs a
  unfolding search_of
  none-searched e = rw e

pub held-refused : (rs : List Phrase) (n m : ℕ) → eqb n 0 ≡ false → search_of rs (asked n m 0 0) ≡ phrase_answer n m 0 0
held-refused rs n m e = sym (none-searched rs (asked n m 0 0) e)

module _ (b : Board) (chars : List ℕ) (rs : List Phrase) (row : ℕ) where
  ends : Ends
  ends = ends_of (low_to (fetch_at b.page chars row) (fetched_of b.page chars row)) (high_to (fetch_at b.page chars row) (fetched_of b.page chars row))

  held : search_of rs (asked_by (Ok ends)) ≡ phrase_among (phrase_answer 0 0 0 0) (at rs bad_record) (at rs (holds_row b.page chars row)) (length rs)
  unfolding search_of ends
  held = same-among _ _ _ (at rs bad_record) (at rs (holds_ends ends)) (at rs (holds_row b.page chars row)) (length rs) (λ i l. holds_row_lem b.page chars row (get_or rs i none))

  pub row-held : search_of rs (asked_by (asked_of b chars row)) ≡ phrase_of_row b chars rs row
  unfolding phrase_of_row asked_of ends
  row-held = go (run_check b (length chars) row)
    where
      go : (r : Checked) → search_of rs (asked_by (given r ends))
          ≡ pick (is_ok r) (phrase_among (phrase_answer 0 0 0 0) (at rs bad_record) (at rs (holds_row b.page chars row)) (length rs))
          (phrase_answer (number_of r) (beside_of r) 0 0)
      go (Ok tt) = held
      go (Err why) = held-refused rs _ _ (number-ok (Err why))

-- ---- two records that differ

-- as the search for one of them has it
module _ (rs : List Phrase) (after : ℕ) where
  -- no record up to the position is looked at, and every one after it
  before-none : (n : ℕ) → n < after + 1 → later_differs rs after n ≡ false
  unfolding later_differs
  before-none n l = rw (le-ltb after n (omega (arith, l)))

  after-each : (n : ℕ) → after < n → later_differs rs after n ≡ disagrees (get_or rs after none) (get_or rs n none)
  unfolding later_differs
  after-each n l = rw (lt-ltb after n l)

  pub mate-begins : mate_start (get_or rs after none) ≡ mate_to rs after (after + 1)
  unfolding mate_start
  mate-begins = rw (any_none (later_differs rs after) (after + 1) before-none)

  pub mate-turn : (n : ℕ) → after < n → mate_visit (mate_to rs after n) (get_or rs n none) n (get_or rs after none) ≡ mate_to rs after (suc n)
  unfolding mate_visit any_below
  mate-turn n l = rw (← after-each n l) (go (any_below (later_differs rs after) n) refl (later_differs rs after n) refl)
    where
      go : (x : Bool) → any_below (later_differs rs after) n ≡ x → (d : Bool) → later_differs rs after n ≡ d
          → pick (is_none (pick x (Some (first_below (later_differs rs after) n)) None) && d) (mate_on (at rs bad_record after) (Some n))
          (mate_on (at rs bad_record after) (pick x (Some (first_below (later_differs rs after) n)) None))
          ≡ mate_on (at rs bad_record after) (pick (x || d) (Some (first_below (later_differs rs after) (suc n))) None)
      go true xe d e = rw (first-kept (later_differs rs after) n xe)
      go false xe true e = rw (first-new (later_differs rs after) n xe e)
      go false xe false e = refl

  step : (n m : ℕ) → after < n → m ≡ n + 1 → mate_visit (mate_to rs after n) (get_or rs n none) n (get_or rs after none) ≡ mate_to rs after m
  step n m l e = mate-turn n l ∙ ap (mate_to rs after) (omega (arith, e))

  pub mate-fours : (n : ℕ) → after < n
      → mate_four (mate_to rs after n) (get_or rs n none) (get_or rs (n + 1) none) (get_or rs (n + 2) none) (get_or rs (n + 3) none) n (get_or rs after none) ≡ mate_to rs after (n + 4)
  unfolding mate_four
  mate-fours n l =
      rw (step n (n + 1) l refl, step (n + 1) (n + 2) (omega (arith, l)) (omega arith), step (n + 2) (n + 3) (omega (arith, l)) (omega arith))
      (step (n + 3) (n + 4) (omega (arith, l)) (omega arith))

  pub mate-all : mate_to rs after (length rs) ≡ mate_of rs after
  unfolding mate_of
  mate-all = refl

-- where none is found, it does not matter what would be
not_found : {A : Type 0} (find : ℕ → A) (k : ℕ) (unrefused bad unfound good : Bool) (was refusal : A)
    → turn unrefused bad unfound (is_some (pick good (Some k) None)) was refusal (find (unwrap_or (pick good (Some k) None) 0)) ≡ turn unrefused bad unfound good was refusal (find k)
not_found find k unrefused bad unfound true was refusal = refl
not_found find k true bad true false was refusal = refl
not_found find k true bad false false was refusal = refl
not_found find k false bad unfound false was refusal = refl

module _ (rs : List Phrase) where
  bad : ℕ → PairAnswer
  bad i = pair_answer 20 0 0 i 0

  pair : ℕ → PairAnswer
  pair i = pair_answer 0 0 1 i (first_below (later_differs rs i) (length rs))

  differs : ℕ → Bool
  differs i = any_below (later_differs rs i) (length rs)

  pairs-upto : (n : ℕ) → pairs_to rs n ≡ among bad pair pair_start (at rs bad_record) differs n
  unfolding pair_visit mate_of among any_below bad pair differs
  pairs-upto zero = refl
  pairs-upto (suc n) =
      not_found (pair_answer 0 0 1 n) (first_below (later_differs rs n) (length rs)) (eqb (pairs_to rs n).refusal 0) (at rs bad_record n) (eqb (pairs_to rs n).found 0) (differs n)
      (pairs_to rs n) (bad n)
      ∙ among-more bad pair pair_start (at rs bad_record) differs
      (λ s. eqb s.refusal 0) (λ s. eqb s.found 0) (λ i. refl) (λ i. refl) refl (λ i. refl) refl n (pairs-upto n)

  pub pairs-all : pairs_to rs (length rs) ≡ phrases_differ rs
  unfolding phrases_differ bad pair differs
  pairs-all = pairs-upto (length rs)
