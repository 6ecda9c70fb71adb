-- The searches as they go from record to record. Assumes nothing.
use Rattle.std.specs.Prelude.{ℕ, zero, suc, ◌+◌, ◌-◌, ◌*◌, ◌/◌, ◌%◌, ◌≤◌, ◌<◌, ◌≡◌, refl, Bool, true, false, not, ◌&&◌, ◌||◌, List, Option, Some, None, eqb, length, get_or}
use Rattle.std.specs.Option.{is_some, is_none, unwrap_or}
use Rattle.std.proofs.Common.{sym, ◌∙◌, arith, eqb-true, eq-eqb, ne_eqb}
use Rattle.std.proofs.Math.Bool.{and-false}
use Rattle.std.proofs.lemmas.Bool.{eqb-false}
use Rattle.lists.specs.Choice.{pick, pass, neither}
use Rattle.lists.specs.Search.{any_below, first_below}
use Rattle.records.specs.declared.Phrase.{Phrase}
use Rattle.records.specs.declared.PhraseAnswer.{PhraseAnswer}
use Rattle.records.specs.declared.PairAnswer.{PairAnswer}
use Rattle.records.specs.declared.Ends.{Ends}
use Rattle.records.specs.declared.Asked.{Asked}
use Rattle.records.specs.declared.Mate.{Mate}
use Rattle.records.specs.Records.{none, bad_record, disagrees, at, among, phrase_answer, pair_answer, later_differs}
use Rattle.records.specs.Ends.{holds_ends}

-- what is answered once a record more is looked at: where nothing was refused a bad record is, and where nothing was found either a good record is found; else the answer stays
abbrev pub turn : {A : Type 0} → (unrefused bad unfound good : Bool) → (was refusal find : A) → A
turn unrefused bad unfound good was refusal find = pick (unrefused && bad) refusal (pick ((unrefused && unfound) && good) find was)

-- ---- the record of a row

-- before any record
abbrev pub start_of : Asked → PhraseAnswer
start_of a = phrase_answer a.refusal a.beside 0 0

-- s is the answer so far, and i the position of the record
unfoldable pub visit_of : PhraseAnswer → Phrase → (i : ℕ) → Ends → PhraseAnswer
visit_of s r i e = turn (eqb s.refusal 0) (bad_record r) (eqb s.found 0) (holds_ends e r) s (phrase_answer 20 0 0 i) (phrase_answer 0 0 1 i)

-- a record that is neither bad nor good alters nothing
pub visit-on : (s : PhraseAnswer) (r : Phrase) (i : ℕ) (e : Ends) → bad_record r ≡ false → holds_ends e r ≡ false → s ≡ visit_of s r i e
unfolding visit_of
visit-on s r i e b g = simp (b, g, and-false)

-- after n records
abbrev pub search_to : List Phrase → Asked → (n : ℕ) → PhraseAnswer
search_to rs a zero = start_of a
search_to rs a (suc n) = visit_of (search_to rs a n) (get_or rs n none) n a.ends

abbrev pub phrase_among : (nothing : PhraseAnswer) → (bad good : ℕ → Bool) → (n : ℕ) → PhraseAnswer
phrase_among = among (phrase_answer 20 0 0) (phrase_answer 0 0 1)

-- the lowest record that holds both ends, after what was refused before
unfoldable pub search_of : List Phrase → Asked → PhraseAnswer
search_of rs a = pick (eqb a.refusal 0) (phrase_among (start_of a) (at rs bad_record) (at rs (holds_ends a.ends)) (length rs)) (start_of a)

-- ---- two records that differ

-- whether a record is bad, and the first after it that disagrees with it, where one does
abbrev pub mate_on : (bad : Bool) → (at : Option ℕ) → Mate
mate_on b o = record { bad = b; at = o }

unfoldable pub mate_start : Phrase → Mate
mate_start o = mate_on (bad_record o) None

unfoldable pub mate_visit : Mate → Phrase → (i : ℕ) → Phrase → Mate
mate_visit s r i o = pick (is_none s.at && disagrees o r) (mate_on s.bad (Some i)) s

-- language and number in one
abbrev pub label_of : Phrase → ℕ
label_of r = r.number * 4294967296 + r.language

-- a record with another label alters nothing
pub mate-on : (s : Mate) (r : Phrase) (i : ℕ) (o : Phrase) → (label_of o ≡ label_of r → ⊥) → s ≡ mate_visit s r i o
unfolding mate_visit disagrees
mate-on s r i o f = simp (unlike (eqb o.language r.language) refl (eqb o.number r.number) refl, and-false)
  where
    unlike : (x : Bool) → eqb o.language r.language ≡ x → (y : Bool) → eqb o.number r.number ≡ y → (x && y) ≡ false
    unlike true l true n = absurd (f (omega (arith, eqb-true o.language r.language l, eqb-true o.number r.number n)))
    unlike true l false n = refl
    unlike false l y n = refl

-- the same language and number, and another first cell or length: the two parts of `disagrees`
abbrev pub same_label : (o r : Phrase) → Bool
same_label o r = eqb o.language r.language && eqb o.number r.number

abbrev pub unequal : (o r : Phrase) → Bool
unequal o r = not (eqb o.first r.first) || not (eqb o.length r.length)

pub both-parts : {l u : Bool} (o r : Phrase) → l ≡ same_label o r → u ≡ unequal o r → (l && u) ≡ disagrees o r
unfolding disagrees
both-parts o r p q = rw (p, q)

-- that is so exactly if the labels are the same, since a language is a number of 32 bits
pub label_same : (o r : Phrase) → o.language < 4294967296 → r.language < 4294967296 → eqb (label_of o) (label_of r) ≡ same_label o r
label_same o r p q = go (eqb o.language r.language) refl (eqb o.number r.number) refl
  where
    go : (x : Bool) → eqb o.language r.language ≡ x → (y : Bool) → eqb o.number r.number ≡ y → eqb (label_of o) (label_of r) ≡ (x && y)
    go true l true n = eq-eqb (label_of o) (label_of r) (omega (arith, eqb-true o.language r.language l, eqb-true o.number r.number n))
    go true l false n = ne_eqb (label_of o) (label_of r) (λ e. eqb-false o.number r.number n (omega (arith, e, eqb-true o.language r.language l)))
    go false l y n = ne_eqb (label_of o) (label_of r) (λ e. eqb-false o.language r.language l (omega (arith, e, p, q)))

-- four records in a row, the first at i
unfoldable pub mate_four : Mate → (a b c d : Phrase) → (i : ℕ) → Phrase → Mate
mate_four s a b c d i o = mate_visit (mate_visit (mate_visit (mate_visit s a i o) b (i + 1) o) c (i + 2) o) d (i + 3) o

-- the first of four places in a row whose test holds, where one does
unfoldable pub first_four : (a b c : Bool) → (i : ℕ) → ℕ
first_four a b c i = pick a i (pick b (i + 1) (pick c (i + 2) (i + 3)))

-- of four records the first that disagrees is found
pub four_is : (s : Mate) (a b c d : Phrase) (i : ℕ) (o : Phrase) {x y z w : Bool} → x ≡ disagrees o a → y ≡ disagrees o b → z ≡ disagrees o c → w ≡ disagrees o d
    → pick (is_none s.at && (((x || y) || z) || w)) (mate_on s.bad (Some (first_four x y z i))) s ≡ mate_four s a b c d i o
unfolding mate_four mate_visit first_four
four_is s a b c d i o {x} {y} {z} {w} p q r t = rw (← p, ← q, ← r, ← t) (go (is_none s.at) refl x y z w)
  where
    on : Mate → Bool → ℕ → Mate
    on m x k = pick (is_none m.at && x) (mate_on m.bad (Some k)) m

    go : (f : Bool) → is_none s.at ≡ f → (x y z w : Bool)
        → pick (is_none s.at && (((x || y) || z) || w)) (mate_on s.bad (Some (pick x i (pick y (i + 1) (pick z (i + 2) (i + 3)))))) s
        ≡ on (on (on (on s x i) y (i + 1)) z (i + 2)) w (i + 3)
    go false e x y z w = simp e
    go true e true y z w = simp e
    go true e false true z w = simp e
    go true e false false true w = simp e
    go true e false false false w = simp e

-- four of which none has the same label alter nothing
pub four-on : (s : Mate) (a b c d : Phrase) (i : ℕ) (o : Phrase) {w x y z : Bool} → w ≡ same_label o a → x ≡ same_label o b → y ≡ same_label o c → z ≡ same_label o d
    → (((w || x) || y) || z) ≡ false → s ≡ mate_four s a b c d i o
four-on s a b c d i o p q r t e =
    let three = neither _ _ e in
    let two = neither _ _ three.0 in
    let one = neither _ _ two.0 in
    pass _ (and-false (is_none s.at)) refl
    ∙ four_is s a b c d i o (unlike a p one.0) (unlike b q one.1) (unlike c r two.1) (unlike d t three.1)
  where
    unlike : (m : Phrase) {l : Bool} → l ≡ same_label o m → l ≡ false → false ≡ disagrees o m
    unlike m h n = both-parts o m (sym n ∙ h) refl

-- where the records after a position go on in fours to the end of n records
abbrev pub fours_from : (after n : ℕ) → ℕ
fours_from after n = n - (n - after - 1) / 4 * 4

pub fours-within : (after n : ℕ) → after < n → (after < fours_from after n) × (fours_from after n ≤ n) × ((n - fours_from after n) % 4 ≡ 0)
fours-within after n l = (omega (arith, l), omega (arith, l), omega (arith, l))

-- of the record at a position, among the first n records
abbrev pub mate_to : List Phrase → (after n : ℕ) → Mate
mate_to rs after n =
    mate_on (at rs bad_record after) (pick (any_below (later_differs rs after) n) (Some (first_below (later_differs rs after) n)) None)

unfoldable pub mate_of : List Phrase → (after : ℕ) → Mate
mate_of rs after = mate_to rs after (length rs)

abbrev pub pair_start : PairAnswer
pair_start = pair_answer 0 0 0 0 0

unfoldable pub pair_visit : PairAnswer → Mate → (i : ℕ) → PairAnswer
pair_visit s m i = turn (eqb s.refusal 0) m.bad (eqb s.found 0) (is_some m.at) s (pair_answer 20 0 0 i 0) (pair_answer 0 0 1 i (unwrap_or m.at 0))

abbrev pub pairs_to : List Phrase → (n : ℕ) → PairAnswer
pairs_to rs zero = pair_start
pairs_to rs (suc n) = pair_visit (pairs_to rs n) (mate_of rs n) n
