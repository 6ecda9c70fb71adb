-- The records that columns make. Assumes nothing.
--     records-length, each-column, record_is      how many there are, that each column goes as far, and each record
--     records-back                   records taken apart into columns are these records again
--     row-alike, differ-alike        so that the columns are answered what the records are
use Rattle.std.specs.Prelude.{ℕ, zero, suc, min, ◌<◌, ◌≡◌, refl, List, [], ◌∷◌, map, length, get_or}
use Rattle.std.proofs.Common.{sym, ap, ◌∙◌, arith}
use Rattle.board.specs.declared.Board.{Board}
use Rattle.records.specs.declared.Phrase.{Phrase}
use Rattle.records.specs.declared.PhraseAnswer.{PhraseAnswer}
use Rattle.records.specs.declared.PairAnswer.{PairAnswer}
use Rattle.records.specs.Records.{none, phrase_of_row, phrases_differ}
use Rattle.columns.specs.Columns.{phrase_by, records_of}

pub records-length : (ls ns fs cs : List ℕ) → length (records_of ls ns fs cs) ≡ min (min (length ls) (length ns)) (min (length fs) (length cs))
unfolding records_of
records-length (l ∷ ls) (n ∷ ns) (f ∷ fs) (c ∷ cs) = omega (arith, records-length ls ns fs cs)
records-length [] ns fs cs = omega arith
records-length (l ∷ ls) [] fs cs = omega arith
records-length (l ∷ ls) (n ∷ ns) [] cs = omega arith
records-length (l ∷ ls) (n ∷ ns) (f ∷ fs) [] = omega arith

pub each-column : (ls ns fs cs : List ℕ) {n i : ℕ} → n ≡ length (records_of ls ns fs cs) → i < n → (i < length ls) × (i < length ns) × (i < length fs) × (i < length cs)
each-column ls ns fs cs p k = let e = records-length ls ns fs cs in (omega (arith, e, p, k), omega (arith, e, p, k), omega (arith, e, p, k), omega (arith, e, p, k))

pub record_is : (ls ns fs cs : List ℕ) (i : ℕ) → i < length (records_of ls ns fs cs) → get_or (records_of ls ns fs cs) i none ≡ phrase_by (get_or ls i 0) (get_or ns i 0) (get_or fs i 0) (get_or cs i 0)
unfolding records_of
record_is (l ∷ ls) (n ∷ ns) (f ∷ fs) (c ∷ cs) zero k = refl
record_is (l ∷ ls) (n ∷ ns) (f ∷ fs) (c ∷ cs) (suc i) k = record_is ls ns fs cs i (omega (arith, k))
record_is [] ns fs cs i k = absurd (omega (arith, k))
record_is (l ∷ ls) [] fs cs i k = absurd (omega (arith, k))
record_is (l ∷ ls) (n ∷ ns) [] cs i k = absurd (omega (arith, k))
record_is (l ∷ ls) (n ∷ ns) (f ∷ fs) [] i k = absurd (omega (arith, k))

-- the columns of records
abbrev pub languages_of : List Phrase → List ℕ
languages_of = map (λ (p : Phrase). p.language)

abbrev pub numbers_of : List Phrase → List ℕ
numbers_of = map (λ (p : Phrase). p.number)

abbrev pub firsts_of : List Phrase → List ℕ
firsts_of = map (λ (p : Phrase). p.first)

abbrev pub lengths_of : List Phrase → List ℕ
lengths_of = map (λ (p : Phrase). p.length)

-- [R-6 columns]
-- records taken apart into four columns are these records again
pub records-back : (rs : List Phrase) → records_of (languages_of rs) (numbers_of rs) (firsts_of rs) (lengths_of rs) ≡ rs
unfolding records_of
records-back [] = refl
records-back (p ∷ rs) = ap {B = List Phrase} (λ qs. p ∷ qs) (records-back rs)

-- [R-6 columns]
-- r is what the core answers on the records' columns, s what the call over records answers
pub row-alike : (b : Board) (chars : List ℕ) (rs : List Phrase) (row : ℕ) {r s : PhraseAnswer}
    → r ≡ phrase_of_row b chars (records_of (languages_of rs) (numbers_of rs) (firsts_of rs) (lengths_of rs)) row → s ≡ phrase_of_row b chars rs row → r ≡ s
row-alike b chars rs row p q = p ∙ ap (λ (x : List Phrase). phrase_of_row b chars x row) (records-back rs) ∙ sym q

-- [R-6 columns]
-- so too of two records that differ
pub differ-alike : (rs : List Phrase) {r s : PairAnswer}
    → r ≡ phrases_differ (records_of (languages_of rs) (numbers_of rs) (firsts_of rs) (lengths_of rs)) → s ≡ phrases_differ rs → r ≡ s
differ-alike rs p q = p ∙ ap phrases_differ (records-back rs) ∙ sym q
