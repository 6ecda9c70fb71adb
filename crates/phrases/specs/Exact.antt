-- What the two answers mean, said by each record and each cell. Assumes nothing.
--     holds-each, each_holds               a record holds a row exactly where it holds each cell that the row fetches
--     phrase-bad, phrase-found, phrase-none      the three answers of an accepted row
--     phrase-told                          each answer is given there only
--     differ-bad, differ-found, differ-none, differ-told      the same of two records that differ
--     differ-first                         no two come before the two that are told
use Rattle.std.specs.Prelude.{ℕ, ◌≤◌, ◌<◌, ◌≡◌, refl, Bool, true, false, List, ◌⊎◌, length}
use Rattle.std.proofs.Common.{sym, ◌∙◌, true≢false, inl, inr, arith}
use Rattle.std.proofs.Math.Path.{ap}
use Rattle.std.proofs.Math.Bool.{not}
use Rattle.std.proofs.Math.Decide.{dec_lt}
use borrow.Author.Tests.{lt-ltb, le-leb, ltb-true, leb-true, not-true, not-false}
use Rattle.lists.specs.Choice.{both}
use Rattle.lists.specs.Search.{any_below, first_below, any_none, any_some, none_of, first-at, first-is, first-lt}
use Rattle.refusal.specs.Number.{unrefused}
use Rattle.board.specs.declared.Page.{Page}
use Rattle.board.specs.declared.Board.{Board}
use Rattle.fetch.specs.Rows.{fetched_of, fetch_at}
use Rattle.fetch.specs.Run.{run_check}
use Rattle.records.specs.declared.Phrase.{Phrase}
use Rattle.records.specs.declared.PairAnswer.{PairAnswer}
use Rattle.records.specs.Records.{past_of, bad_record, holds_cell, holds_row, at, among, phrase_answer, phrase_of_row, pair_answer, later_differs, phrases_differ}

-- every cell of the row is one of the record's
abbrev pub HoldsEach : Page → List ℕ → ℕ → Phrase → Type 0
HoldsEach p chars row r = (i : ℕ) → i < fetched_of p chars row → (r.first ≤ fetch_at p chars row i) × (fetch_at p chars row i < past_of r)

module _ (p : Page) (chars : List ℕ) (row : ℕ) (r : Phrase) where
  -- [R-6 row]
  -- a record that holds a row has each cell that the row fetches
  pub holds-each : holds_row p chars row r ≡ true → HoldsEach p chars row r
  unfolding holds_row holds_cell
  holds-each e i l =
      let q = both _ _ (not-false _ (none_of (λ i. not (holds_cell r (fetch_at p chars row i))) (fetched_of p chars row) (not-true _ e) i l)) in
      (leb-true _ _ q.0, ltb-true _ _ q.1)

  -- [R-6 row]
  -- a record that has each cell that the row fetches holds the row
  pub each_holds : HoldsEach p chars row r → holds_row p chars row r ≡ true
  unfolding holds_row holds_cell
  each_holds h = ap not (any_none (λ i. not (holds_cell r (fetch_at p chars row i))) (fetched_of p chars row)
      (λ i l. simp (le-leb r.first (fetch_at p chars row i) (h i l).0, lt-ltb (fetch_at p chars row i) (past_of r) (h i l).1)))

-- the first of n numbers that passes a test
pub record First (t : ℕ → Bool) (n k : ℕ) : Type 0 where
  pub inside : k < n
  pub passes : t k ≡ true
  pub before : (i : ℕ) → i < k → t i ≡ false

abbrev pub None : (t : ℕ → Bool) → (n : ℕ) → Type 0
None t n = (i : ℕ) → i < n → t i ≡ false

first_of : (t : ℕ → Bool) (n : ℕ) → any_below t n ≡ true → First t n (first_below t n)
first_of t n e =
    let l = first-lt t n e in
    let f = first-is t n l in
    record { inside = l; passes = f.0; before = f.1 }

zero≢one : ◌≡◌ {A = ℕ} 0 1 → ⊥
zero≢one e = omega (arith, e)

-- one of the three: a bad one, a good one and no bad one, or neither
pub data Told {A : Type 0} (refused found : ℕ → A) (nothing : A) (bad good : ℕ → Bool) (n : ℕ) (a : A) : Type 0 where
  told-bad : (k : ℕ) → First bad n k → a ≡ refused k → Told refused found nothing bad good n a
  told-found : (k : ℕ) → None bad n → First good n k → a ≡ found k → Told refused found nothing bad good n a
  told-nothing : None bad n → None good n → a ≡ nothing → Told refused found nothing bad good n a

module _ {A : Type 0} (refused found : ℕ → A) (nothing : A) (bad good : ℕ → Bool) (n : ℕ) where
  among-bad : (k : ℕ) → First bad n k → among refused found nothing bad good n ≡ refused k
  unfolding among
  among-bad k f = rw (any_some bad n k f.inside f.passes, first-at bad n k f.inside f.passes f.before)

  among-found : (k : ℕ) → None bad n → First good n k → among refused found nothing bad good n ≡ found k
  unfolding among
  among-found k b f = rw (any_none bad n b, any_some good n k f.inside f.passes, first-at good n k f.inside f.passes f.before)

  among_none : None bad n → None good n → among refused found nothing bad good n ≡ nothing
  unfolding among
  among_none b g = rw (any_none bad n b, any_none good n g)

  among-told : Told refused found nothing bad good n (among refused found nothing bad good n)
  among-told = go (any_below bad n) refl (any_below good n) refl
    where
      go : (x : Bool) → any_below bad n ≡ x → (y : Bool) → any_below good n ≡ y → Told refused found nothing bad good n (among refused found nothing bad good n)
      go true x y g = let f = first_of bad n x in told-bad (first_below bad n) f (among-bad (first_below bad n) f)
      go false x true g = let f = first_of good n g in told-found (first_below good n) (none_of bad n x) f (among-found (first_below good n) (none_of bad n x) f)
      go false x false g = told-nothing (none_of bad n x) (none_of good n g) (among_none (none_of bad n x) (none_of good n g))

-- ---- the record of a row that is accepted

module _ (b : Board) (chars : List ℕ) (rs : List Phrase) (row : ℕ) (done : run_check b (length chars) row ≡ unrefused) where
  holding : Phrase → Bool
  holding = holds_row b.page chars row

  -- [R-6 refusals]
  -- if k is the first bad record the answer is 20, with k
  pub phrase-bad : (k : ℕ) → First (at rs bad_record) (length rs) k → phrase_of_row b chars rs row ≡ phrase_answer 20 0 0 k
  unfolding phrase_of_row holding
  phrase-bad k f = rw done (among-bad _ _ _ _ (at rs holding) _ k f)

  -- [R-6 lowest]
  -- if no record is bad and k is the lowest that holds the row, the answer is k
  pub phrase-found : (k : ℕ) → None (at rs bad_record) (length rs) → First (at rs (holds_row b.page chars row)) (length rs) k → phrase_of_row b chars rs row ≡ phrase_answer 0 0 1 k
  unfolding phrase_of_row
  phrase-found k o f = rw done (among-found _ _ _ _ _ _ k o f)

  -- [R-6 lowest]
  -- if no record is bad and none holds the row, the answer is none
  pub phrase-none : None (at rs bad_record) (length rs) → None (at rs (holds_row b.page chars row)) (length rs) → phrase_of_row b chars rs row ≡ phrase_answer 0 0 0 0
  unfolding phrase_of_row
  phrase-none o f = rw done (among_none _ _ _ _ _ _ o f)

  -- [R-6 lowest]
  -- one of the three holds, for every row that is not refused
  pub phrase-told : Told (phrase_answer 20 0 0) (phrase_answer 0 0 1) (phrase_answer 0 0 0 0) (at rs bad_record) (at rs (holds_row b.page chars row)) (length rs) (phrase_of_row b chars rs row)
  unfolding phrase_of_row
  phrase-told = rw done (among-told _ _ _ _ _ _)

-- ---- two records that differ

module _ (rs : List Phrase) where
  -- the record at i, and a later one
  abbrev Differs : (i : ℕ) → Bool
  Differs i = any_below (later_differs rs i) (length rs)

  abbrev pair_of : (i : ℕ) → PairAnswer
  pair_of i = pair_answer 0 0 1 i (first_below (later_differs rs i) (length rs))

  -- [R-6 refusals]
  -- if k is the first bad record the answer is 20, with k
  pub differ-bad : (k : ℕ) → First (at rs bad_record) (length rs) k → phrases_differ rs ≡ pair_answer 20 0 0 k 0
  unfolding phrases_differ
  differ-bad k f = among-bad (λ i. pair_answer 20 0 0 i 0) pair_of (pair_answer 0 0 0 0 0) (at rs bad_record) Differs (length rs) k f

  -- [R-6 pair]
  -- if no record is bad, i is the first from which a later one differs and j the first such one, the answer is i and j
  pub differ-found : (i j : ℕ) → None (at rs bad_record) (length rs) → First Differs (length rs) i → First (later_differs rs i) (length rs) j → phrases_differ rs ≡ pair_answer 0 0 1 i j
  unfolding phrases_differ
  differ-found i j o f g =
      among-found (λ i. pair_answer 20 0 0 i 0) pair_of (pair_answer 0 0 0 0 0) (at rs bad_record) Differs (length rs) i o f
      ∙ ap (pair_answer 0 0 1 i) (first-at (later_differs rs i) (length rs) j g.inside g.passes g.before)

  -- [R-6 pair]
  -- if no record is bad and no two differ, the answer is none
  pub differ-none : None (at rs bad_record) (length rs) → ((i j : ℕ) → j < length rs → later_differs rs i j ≡ false) → phrases_differ rs ≡ pair_answer 0 0 0 0 0
  unfolding phrases_differ
  differ-none o h =
      among_none (λ i. pair_answer 20 0 0 i 0) pair_of (pair_answer 0 0 0 0 0) (at rs bad_record) Differs (length rs) o (λ i l. any_none (later_differs rs i) (length rs) (h i))

  -- [R-6 pair]
  -- one of the three holds, for every list
  pub differ-told : Told (λ i. pair_answer 20 0 0 i 0) pair_of (pair_answer 0 0 0 0 0) (at rs bad_record) Differs (length rs) (phrases_differ rs)
  unfolding phrases_differ
  differ-told = among-told (λ i. pair_answer 20 0 0 i 0) pair_of (pair_answer 0 0 0 0 0) (at rs bad_record) Differs (length rs)

  -- the two at i and j are not told before the two at k and the first that it disagrees with
  after : (k i j : ℕ) → First Differs (length rs) k → j < length rs → later_differs rs i j ≡ true → (k < i) ⊎ ((k ≡ i) × (first_below (later_differs rs k) (length rs) ≤ j))
  after k i j f l e = go (dec_lt k i) (dec_lt i k)
    where
      any : Differs i ≡ true
      any = any_some (later_differs rs i) (length rs) j l e

      least : Dec (j < first_below (later_differs rs i) (length rs)) → first_below (later_differs rs i) (length rs) ≤ j
      least (yes h) = absurd (true≢false (sym e ∙ (first_of (later_differs rs i) (length rs) any).before j h))
      least (no h) = omega (arith, h)

      go : Dec (k < i) → Dec (i < k) → (k < i) ⊎ ((k ≡ i) × (first_below (later_differs rs k) (length rs) ≤ j))
      go (yes h) x = inl h
      go (no h) (yes g) = absurd (true≢false (sym any ∙ f.before i g))
      go (no h) (no g) = let q : k ≡ i = omega (arith, h, g) in inr (q, rw q (least (dec_lt j _)))

  -- [R-6 pair]
  -- no two that differ come before them
  pub differ-first : (phrases_differ rs).found ≡ 1 → (i j : ℕ) → j < length rs → later_differs rs i j ≡ true
      → ((phrases_differ rs).earlier < i) ⊎ (((phrases_differ rs).earlier ≡ i) × ((phrases_differ rs).later ≤ j))
  differ-first e i j l q = go differ-told
    where
      go : Told (λ i. pair_answer 20 0 0 i 0) pair_of (pair_answer 0 0 0 0 0) (at rs bad_record) Differs (length rs) (phrases_differ rs)
          → ((phrases_differ rs).earlier < i) ⊎ (((phrases_differ rs).earlier ≡ i) × ((phrases_differ rs).later ≤ j))
      go (told-bad k f a) = absurd (zero≢one (sym (ap (λ (x : PairAnswer). x.found) a) ∙ e))
      go (told-found k o f a) = rw a (after k i j f l q)
      go (told-nothing o g a) = absurd (zero≢one (sym (ap (λ (x : PairAnswer). x.found) a) ∙ e))
