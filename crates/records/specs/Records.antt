-- 02, R-6: for a row, the lowest record whose cells hold the whole of what the row fetches; and the first two records with the same language and number that differ in first cell or length.
use Rattle.std.specs.Prelude.{ℕ, ◌+◌, Bool, not, ◌&&◌, ◌||◌, List, [], ◌∷◌, eqb, ltb, leb, length, get_or, is_ok}
use Rattle.lists.specs.Choice.{pick, first_of}
use Rattle.lists.specs.Search.{any_below, first_below}
use Rattle.refusal.specs.Number.{number_of, beside_of}
use Rattle.board.specs.declared.Page.{Page}
use Rattle.board.specs.declared.Board.{Board}
use Rattle.fetch.specs.Rows.{fetched_of, fetch_at}
use Rattle.fetch.specs.Run.{run_check}
use Rattle.records.specs.declared.Phrase.{Phrase}
use Rattle.records.specs.declared.PhraseAnswer.{PhraseAnswer}
use Rattle.records.specs.declared.PairAnswer.{PairAnswer}

-- the record of zeros, where a list has none
abbrev pub none : Phrase
none = record { language = 0; number = 0; first = 0; length = 0 }

-- a record's cells are first to first + length - 1, summed without wrapping: this is the one after them
abbrev pub past_of : Phrase → ℕ
past_of r = r.first + r.length

-- [R-6 refusals] the page's and row's own, then 20 for a record of length 0 or passing 16383, with its position
-- refused 20: of length 0, or with a cell past 16383
unfoldable pub bad_record : Phrase → Bool
bad_record r = eqb r.length 0 || ltb 16384 (past_of r)

-- [R-6 row] the record whose cells hold the whole of what the row fetches
unfoldable pub holds_cell : Phrase → (address : ℕ) → Bool
holds_cell r a = leb r.first a && ltb a (past_of r)

-- [R-6 row]
-- each cell that the row fetches is one of the record's
unfoldable pub holds_row : Page → (chars : List ℕ) → (row : ℕ) → Phrase → Bool
holds_row p chars row r = not (any_below (λ i. not (holds_cell r (fetch_at p chars row i))) (fetched_of p chars row))

-- [R-6 pair] the first two records with the same language and number that differ in first cell or length
-- the same language and number, and another first cell or length
unfoldable pub disagrees : Phrase → Phrase → Bool
disagrees r s = (eqb r.language s.language && eqb r.number s.number) && (not (eqb r.first s.first) || not (eqb r.length s.length))

-- a test of the record at a position
abbrev pub at : List Phrase → (t : Phrase → Bool) → (i : ℕ) → Bool
at rs t i = t (get_or rs i none)

-- [R-6 lowest] the lowest in the list if several do, none exactly if none does
-- of n positions the first bad one is refused; else the first good one is found, where there is one
unfoldable pub among : {A : Type 0} → (refused found : ℕ → A) → (nothing : A) → (bad good : ℕ → Bool) → (n : ℕ) → A
among refused found nothing bad good n = first_of ((any_below bad n, refused (first_below bad n)) ∷ (any_below good n, found (first_below good n)) ∷ []) nothing

-- ---- the record of a row

abbrev pub phrase_answer : (refusal beside found position : ℕ) → PhraseAnswer
phrase_answer r b f i = record { refusal = r; beside = b; found = f; position = i }

-- [R-6 row]
-- the page's and the row's own refusals, then 20 for the first bad record; else the lowest that holds the row
unfoldable pub phrase_of_row : Board → (chars : List ℕ) → List Phrase → (row : ℕ) → PhraseAnswer
phrase_of_row b chars rs row =
    pick (is_ok (run_check b (length chars) row))
    (among (phrase_answer 20 0 0) (phrase_answer 0 0 1) (phrase_answer 0 0 0 0) (at rs bad_record) (at rs (holds_row b.page chars row)) (length rs))
    (phrase_answer (number_of (run_check b (length chars) row)) (beside_of (run_check b (length chars) row)) 0 0)

-- ---- two records that differ

abbrev pub pair_answer : (refusal beside found earlier later : ℕ) → PairAnswer
pair_answer r b f i j = record { refusal = r; beside = b; found = f; earlier = i; later = j }

-- [R-6 pair]
-- the record at j stands after the one at i and disagrees with it
unfoldable pub later_differs : List Phrase → (i j : ℕ) → Bool
later_differs rs i j = ltb i j && disagrees (get_or rs i none) (get_or rs j none)

-- [R-6 pair]
-- 20 for the first bad record; else the first that a later one disagrees with, and the first such
unfoldable pub phrases_differ : List Phrase → PairAnswer
phrases_differ rs =
    among (λ i. pair_answer 20 0 0 i 0) (λ i. pair_answer 0 0 1 i (first_below (later_differs rs i) (length rs))) (pair_answer 0 0 0 0 0)
    (at rs bad_record) (λ i. any_below (later_differs rs i) (length rs)) (length rs)
