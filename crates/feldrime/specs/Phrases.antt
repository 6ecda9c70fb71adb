-- The record of a row in an index of phrases, from a page's numbers (02, R-6).
use Rattle.std.specs.Prelude.{ℕ, ◌≡◌, refl, Bool, true, false, List, Result, Err}
use Rattle.lists.specs.Choice.{pick}
use Rattle.refusal.specs.declared.Refusal.{Refusal}
use Rattle.refusal.specs.declared.Refusal.TheVariants.{Size}
use Rattle.records.specs.declared.Phrase.{Phrase}
use Rattle.records.specs.declared.PhraseAnswer.{PhraseAnswer}
use Rattle.records.specs.declared.Ends.{Ends}
use Rattle.records.specs.Records.{phrase_answer, phrase_of_row}
use Rattle.records.specs.Ends.{asked_by, asked_of}
use Rattle.records.specs.Folds.{search_of}
use Rattle.phrases.specs.Laws.{held-refused, row-held}
use Rattle.numbers.specs.Numbers.{numbers_refused, numbers_board}

-- [R-6 refusals]
-- 3 for the numbers, then the call's own
unfoldable pub phrase_for : (numbers chars : List ℕ) → List Phrase → (row : ℕ) → PhraseAnswer
phrase_for numbers chars rs row = pick (numbers_refused numbers) (phrase_answer 3 0 0 0) (phrase_of_row (numbers_board numbers) chars rs row)

-- what is asked of each record
unfoldable pub asked_for : (numbers chars : List ℕ) → (row : ℕ) → Result Ends Refusal
asked_for numbers chars row = pick (numbers_refused numbers) (Err Size) (asked_of (numbers_board numbers) chars row)

pub numbers-held : (numbers chars : List ℕ) (rs : List Phrase) (row : ℕ) → search_of rs (asked_by (asked_for numbers chars row)) ≡ phrase_for numbers chars rs row
unfolding phrase_for asked_for
numbers-held numbers chars rs row = go (numbers_refused numbers)
  where
    go : (t : Bool) → search_of rs (asked_by (pick t (Err Size) (asked_of (numbers_board numbers) chars row))) ≡ pick t (phrase_answer 3 0 0 0) (phrase_of_row (numbers_board numbers) chars rs row)
    go true = held-refused rs 3 0 refl
    go false = row-held (numbers_board numbers) chars rs row
