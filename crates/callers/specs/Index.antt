-- An index of phrases, as columns of numbers. Assumes nothing.
use Rattle.std.specs.Prelude.{ℕ, zero, suc, ◌+◌, ◌<◌, ◌≡◌, Bool, true, false, ◌&&◌, ◌||◌, List, [], ◌∷◌, eqb, leb, ltb, length, get_or, replicate, is_ok, Ok}
use Rattle.std.proofs.Math.Path.{refl}
use Rattle.std.proofs.Common.{sym, ap, ◌∙◌, arith, lt-ltb, le-leb, eq-eqb, eqb-true, leb-false}
use Rattle.std.proofs.lemmas.Bool.{eqb-false}
use Rattle.lists.specs.Choice.{pick, first_of, neither}
use Rattle.lists.specs.Search.{any_below, first_below}
use Rattle.refusal.specs.Number.{unrefused, number_of, beside_of}
use Rattle.refusal.specs.Laws.{done-is, zero-done}
use Rattle.raster.specs.Moves.{advance_by-lt}
use Rattle.board.specs.declared.Page.{Page}
use Rattle.board.specs.declared.Board.{Board}
use Rattle.timing.specs.Fields.{buffer_of}
use Rattle.fetch.specs.Rows.{row_start, fetched_of, fetch_at}
use Rattle.fetch.specs.Run.{run_check}
use Rattle.fetch.specs.RowCells.{cells_given, cells_put, cells_count}
use Rattle.fetch.specs.RowLaws.{cells-as-run, cells_at, count_small}
use Rattle.records.specs.declared.Phrase.{Phrase}
use Rattle.records.specs.declared.PhraseAnswer.{PhraseAnswer}
use Rattle.records.specs.declared.PairAnswer.{PairAnswer}
use Rattle.records.specs.Records.{none, bad_record, holds_row, disagrees, at, among, phrase_answer, phrase_of_row, pair_answer, later_differs, phrases_differ}
use Rattle.phrases.specs.Exact.{HoldsEach, holds-each, each_holds, None, Told, told-bad, told-found, told-nothing, phrase-found, phrase-told}
use Rattle.columns.specs.Columns.{phrase_by, records_of}
use Rattle.columns.specs.Laws.{each-column, record_is}

-- a record of all cells: found where the row is not refused
unfoldable pub all_held : Board → (chars : List ℕ) → (row : ℕ) → PhraseAnswer
all_held b chars row = pick (is_ok (run_check b (length chars) row)) (phrase_answer 0 0 1 0) (phrase_answer (number_of (run_check b (length chars) row)) (beside_of (run_check b (length chars) row)) 0 0)

-- of two records
unfoldable pub two_of : Phrase → Phrase → PairAnswer
two_of p q =
    first_of ((bad_record p, pair_answer 20 0 0 0 0) ∷ (bad_record q, pair_answer 20 0 0 1 0) ∷ (disagrees p q, pair_answer 0 0 1 0 1) ∷ []) (pair_answer 0 0 0 0 0)

-- ---- the record that is found

module _ (b : Board) (chars : List ℕ) (rs : List Phrase) (row : ℕ) where
  pub record Found (i : ℕ) : Type 0 where
    pub done : run_check b (length chars) row ≡ unrefused
    pub inside : i < length rs
    pub holds : HoldsEach b.page chars row (get_or rs i none)

  pub found-is : {a : PhraseAnswer} → a ≡ phrase_of_row b chars rs row → (a.found ≡ 0 → ⊥) → Found a.position
  unfolding phrase_of_row
  found-is {a} e f = go (is_ok (run_check b (length chars) row)) refl
    where
      told : run_check b (length chars) row ≡ unrefused → Told (phrase_answer 20 0 0) (phrase_answer 0 0 1) (phrase_answer 0 0 0 0) (at rs bad_record) (at rs (holds_row b.page chars row)) (length rs) (phrase_of_row b chars rs row) → Found a.position
      told d (told-bad k h q) = absurd (f (ap (λ (x : PhraseAnswer). x.found) (e ∙ q)))
      told d (told-found k o h q) = rw (e ∙ q) (record { done = d; inside = h.inside; holds = holds-each b.page chars row (get_or rs k none) h.passes })
      told d (told-nothing o g q) = absurd (f (ap (λ (x : PhraseAnswer). x.found) (e ∙ q)))

      go : (t : Bool) → is_ok (run_check b (length chars) row) ≡ t → Found a.position
      go true t = let d = done-is _ t in told d (phrase-told b chars rs row d)
      go false t = absurd (f (ap (λ (x : PhraseAnswer). x.found) e ∙ rw t))

-- c is the column of a cell that fetch::row_cells put into a buffer of 256 elements
module _ (b : Board) (chars ls ns fs cs : List ℕ) (row : ℕ) {a : PhraseAnswer} (e : a ≡ phrase_of_row b chars (records_of ls ns fs cs) row)
    {n : ℕ} {cells : List ℕ} (p : (Ok n ≡ cells_given b chars row 256) × (cells ≡ cells_put b chars row (replicate 256 0))) (c : ℕ)
    (asked : (eqb a.found 0 || leb n c) ≡ false) where
  tests : (eqb a.found 0 ≡ false) × (leb n c ≡ false)
  tests = neither _ _ asked

  here : Found b chars (records_of ls ns fs cs) row a.position
  here = found-is b chars (records_of ls ns fs cs) row e (eqb-false _ _ tests.0)

  counted : c < cells_count b chars row 256
  counted = rw (← p.0) (leb-false _ _ tests.1)

  pub column-lt : c < 256
  column-lt = omega (arith, counted, count_small b chars row 256)

  pub columns-there : (a.position < length ls) × (a.position < length ns) × (a.position < length fs) × (a.position < length cs)
  columns-there = each-column ls ns fs cs refl here.inside

  fetched : c < fetched_of b.page chars row
  unfolding cells_given
  fetched = rw (cells-as-run b (length chars) row 256 (omega arith), here.done) at counted

  pub covered : (leb (get_or fs a.position 0) (get_or cells c 0) && ltb (get_or cells c 0) (get_or fs a.position 0 + get_or cs a.position 0)) ≡ true
  covered =
      let h : HoldsEach b.page chars row (phrase_by (get_or ls a.position 0) (get_or ns a.position 0) (get_or fs a.position 0) (get_or cs a.position 0))
      = rw (record_is ls ns fs cs a.position here.inside) at here.holds in
      let cell : get_or cells c 0 ≡ fetch_at b.page chars row c = ap (λ (l : List ℕ). get_or l c 0) p.1 ∙ cells_at b chars row (replicate 256 0) c counted in
      rw cell (simp (le-leb _ _ (h c fetched).0, lt-ltb _ _ (h c fetched).1))

-- ---- a record of all cells

-- what refuses a row is told as it is
refused-own : (b : Board) (chars : List ℕ) (rs : List Phrase) (row : ℕ) → is_ok (run_check b (length chars) row) ≡ false
    → phrase_of_row b chars rs row ≡ phrase_answer (number_of (run_check b (length chars) row)) (beside_of (run_check b (length chars) row)) 0 0
unfolding phrase_of_row
refused-own b chars rs row e = rw e

fetch-lt : (p : Page) (chars : List ℕ) (row i : ℕ) → fetch_at p chars row i < 16384
unfolding fetch_at
fetch-lt p chars row i = advance_by-lt (buffer_of p) i (row_start p chars row)

whole-good : (l n : ℕ) → None (at (phrase_by l n 0 16384 ∷ []) bad_record) 1
unfolding bad_record
whole-good l n zero k = refl
whole-good l n (suc i) k = absurd (omega (arith, k))

pub all_held_lem : (b : Board) (chars : List ℕ) (row l n : ℕ) → phrase_of_row b chars (records_of (l ∷ []) (n ∷ []) (0 ∷ 0 ∷ []) (16384 ∷ 0 ∷ [])) row ≡ all_held b chars row
unfolding all_held records_of
all_held_lem b chars row l n = go (is_ok (run_check b (length chars) row)) refl
  where
    rs : List Phrase
    rs = phrase_by l n 0 16384 ∷ []

    holds : holds_row b.page chars row (phrase_by l n 0 16384) ≡ true
    holds = each_holds b.page chars row (phrase_by l n 0 16384) (λ i k. (omega arith, fetch-lt b.page chars row i))

    go : (t : Bool) → is_ok (run_check b (length chars) row) ≡ t
        → phrase_of_row b chars rs row ≡ pick t (phrase_answer 0 0 1 0) (phrase_answer (number_of (run_check b (length chars) row)) (beside_of (run_check b (length chars) row)) 0 0)
    go true e = phrase-found b chars rs row (done-is _ e) 0 (whole-good l n) (record { inside = omega arith; passes = holds; before = λ i k. absurd (omega (arith, k)) })
    go false e = refused-own b chars rs row e

-- ---- both calls

abbrev alike : PhraseAnswer → PairAnswer → Bool
alike one two = ((eqb one.refusal two.refusal && eqb one.beside 0) && eqb two.beside 0) && (eqb one.refusal 0 || eqb one.position two.earlier)

-- x: there is a bad record, the first of them at i
told-alike : (x u v : Bool) (i j k l : ℕ)
    → alike (pick x (phrase_answer 20 0 0 i) (pick u (phrase_answer 0 0 1 j) (phrase_answer 0 0 0 0))) (pick x (pair_answer 20 0 0 i 0) (pick v (pair_answer 0 0 1 k l) (pair_answer 0 0 0 0 0))) ≡ true
told-alike true u v i j k l = eq-eqb i i refl
told-alike false true true i j k l = refl
told-alike false true false i j k l = refl
told-alike false false true i j k l = refl
told-alike false false false i j k l = refl

module _ (b : Board) (chars : List ℕ) (rs : List Phrase) (row : ℕ) {one : PhraseAnswer} (e : one ≡ phrase_of_row b chars rs row) where
  pub own-number : {n m : ℕ} → n ≡ number_of (run_check b (length chars) row) → m ≡ beside_of (run_check b (length chars) row) → (n ≡ 0 → ⊥)
      → ((eqb one.refusal n && eqb one.beside m) && eqb one.found 0) ≡ true
  own-number {n} {m} p q f = go (is_ok (run_check b (length chars) row)) refl
    where
      go : (t : Bool) → is_ok (run_check b (length chars) row) ≡ t → ((eqb one.refusal n && eqb one.beside m) && eqb one.found 0) ≡ true
      go true t = absurd (f (p ∙ ap number_of (done-is _ t)))
      go false t = rw (e ∙ refused-own b chars rs row t) (simp (eq-eqb _ n (sym p), eq-eqb _ m (sym q)))

  pub same-bad : {two : PairAnswer} → two ≡ phrases_differ rs → number_of (run_check b (length chars) row) ≡ 0 → alike one two ≡ true
  unfolding phrase_of_row phrases_differ among
  same-bad k z =
      rw (e, k, zero-done _ z)
      (told-alike (any_below (at rs bad_record) (length rs)) (any_below (at rs (holds_row b.page chars row)) (length rs)) (any_below (λ i. any_below (later_differs rs i) (length rs)) (length rs))
      (first_below (at rs bad_record) (length rs)) _ _ _)

-- ---- two records

pub two-told : (p q : Phrase) → phrases_differ (records_of (p.language ∷ q.language ∷ []) (p.number ∷ q.number ∷ []) (p.first ∷ q.first ∷ []) (p.length ∷ q.length ∷ [])) ≡ two_of p q
unfolding two_of records_of phrases_differ among any_below first_below later_differs
two-told p q = go (bad_record p) refl (bad_record q) refl (disagrees p q) refl
  where
    go : (x : Bool) → bad_record p ≡ x → (y : Bool) → bad_record q ≡ y → (d : Bool) → disagrees p q ≡ d → phrases_differ (p ∷ q ∷ []) ≡ two_of p q
    go true xe y ye d de = rw xe
    go false xe true ye d de = rw (xe, ye)
    go false xe false ye true de = rw (xe, ye, de) (rw de)
    go false xe false ye false de = rw (xe, ye, de)
