-- 02, R-6: records as four columns of numbers, one for each field.
use Rattle.std.specs.Prelude.{ℕ, List, [], ◌∷◌}
use Rattle.std.specs.Borrow.{Bor}
use denote.Triple.Both.{Both}
use Rattle.records.specs.declared.Phrase.{Phrase}

abbrev pub phrase_by : (language number first length : ℕ) → Phrase
phrase_by l n f c = record { language = l; number = n; first = f; length = c }

-- [R-6 columns] columns of different lengths: the shortest ends the list (our ruling)
-- a record for each position that all four columns have
unfoldable pub records_of : (languages numbers firsts lengths : List ℕ) → List Phrase
records_of (l ∷ ls) (n ∷ ns) (f ∷ fs) (c ∷ cs) = phrase_by l n f c ∷ records_of ls ns fs cs
records_of [] ns fs cs = []
records_of (l ∷ ls) [] fs cs = []
records_of (l ∷ ls) (n ∷ ns) [] cs = []
records_of (l ∷ ls) (n ∷ ns) (f ∷ fs) [] = []

-- for a contract, over the names of the four lent columns: the records where a call is made (in a requires), and as
-- they were lent
abbrev pub records_now : (languages numbers firsts lengths : Bor (List ℕ)) → List Phrase
records_now l n f c = records_of l.now n.now f.now c.now

abbrev pub lent_records : {A B C D : Type 0} → Both (Bor (List ℕ)) A → Both (Bor (List ℕ)) B → Both (Bor (List ℕ)) C → Both (Bor (List ℕ)) D → List Phrase
lent_records l n f c = records_now l.entry n.entry f.entry c.entry
