-- What the proofs use of the listing's first line. Assumes nothing.
use Rattle.std.specs.Prelude.{ℕ, ◌+◌, ◌-◌, ◌≤◌, ◌<◌, ◌≡◌, refl, List, [], ◌∷◌, ◌++◌, length, take, drop, ltb, Ok, Err}
use Rattle.std.proofs.Math.Path.{sym}
use Rattle.std.proofs.Common.{ap, ◌∙◌, arith, length-append}
use borrow.Author.Tests.{lt-ltb, le-ltb, ltb-false}
use Rattle.lists.specs.Choice.{pick}
use Rattle.refusal.specs.declared.Refusal.{Refusal}
use Rattle.refusal.specs.declared.Refusal.TheVariants.{Room}
use Rattle.refusal.specs.Number.{Checked, unrefused, check_of}
use Rattle.refusal.specs.Laws.{passed, not-refused}
use Rattle.board.specs.declared.Page.{Page}
use Rattle.timing.specs.declared.PageSize.{PageSize}
use Rattle.timing.specs.Check.{page_check, size_of, size_in}
use Rattle.timing.specs.Laws.{size-refusal}
use Rattle.listing.specs.Decimal.{decimal}
use Rattle.listing.specs.Listing.{line_feed, space, listing_head, head_check, listed_of, listed_count, listed_in}
use Rattle.listing.specs.Bytes.{two-parts}
use Rattle.listing.specs.Answers.{refused-so, done-so, listed-within}

pub head-fits : (p : Page) (room : ℕ) → page_check p ≡ unrefused → length (listing_head p) ≤ room → head_check p room ≡ unrefused
unfolding head_check
head-fits p room e h = rw (e, le-ltb room (length (listing_head p)) h)

pub head-within : (p : Page) (room : ℕ) → listed_count (head_check p room) (listing_head p) ≤ room
unfolding head_check
head-within p room =
    let t = ltb room (length (listing_head p)) in
    listed-within (head_check p room) (listing_head p) room
    (λ e. ltb-false room (length (listing_head p)) (passed t (Err Room) unrefused refl (not-refused (page_check p) (pick t (Err Room) unrefused) e).1).0)

-- an accepted page's size, and its two numbers in digits
pub record Measured (p : Page) (size : PageSize) (l d : List ℕ) : Type 0 where
  pub page : page_check p ≡ unrefused
  pub whole : size ≡ size_in p
  pub lines : l ≡ decimal size.lines.0
  pub dots : d ≡ decimal size.dots.0

module _ (p : Page) (out : List ℕ) where
  abbrev check : Checked
  check = head_check p (length out)

  pub head-refused : (why : Refusal) → Err why ≡ size_of p → (Err why ≡ listed_of check (listing_head p)) × (out ≡ listed_in check (listing_head p) out)
  unfolding head_check
  head-refused why e =
      let own : page_check p ≡ Err why = sym (size-refusal p) ∙ ap check_of (sym e) in
      refused-so check (listing_head p) out (rw own)

  module _ (size : PageSize) (l d : List ℕ) (m : Measured p size l d) where
    abbrev first : List ℕ
    first = l ++ (space ∷ [])

    abbrev second : List ℕ
    second = d ++ (line_feed ∷ [])

    abbrev a : ℕ
    a = length l + 1

    abbrev n : ℕ
    n = length l + 1 + length d + 1

    is-head : first ++ second ≡ listing_head p
    unfolding listing_head
    is-head = rw (m.lines, m.dots, m.whole)

    length-first : length first ≡ a
    length-first = length-append l (space ∷ [])

    length-second : length second ≡ length d + 1
    length-second = length-append d (line_feed ∷ [])

    length-head : length (listing_head p) ≡ n
    length-head = rw (← is-head, length-append first second, length-first, length-second) (omega arith)

    pub head-short : length out < n → (Err Room ≡ listed_of check (listing_head p)) × (out ≡ listed_in check (listing_head p) out)
    unfolding head_check
    head-short h =
        let short : check ≡ Err Room = rw (m.page, lt-ltb (length out) (length (listing_head p)) (omega (arith, length-head))) in
        refused-so check (listing_head p) out short

    pub head-put : (x y : List ℕ) → n ≤ length out
        → x ≡ first ++ drop a out → y ≡ second ++ drop (length d + 1) (take (length x - a) (drop a x))
        → (Ok n ≡ listed_of check (listing_head p)) × (take a x ++ (y ++ drop (length x - a) (drop a x)) ≡ listed_in check (listing_head p) out)
    head-put x y h ex ey =
        let fits : check ≡ unrefused = head-fits p (length out) m.page (omega (arith, length-head)) in
        let same : a + (length d + 1) ≡ n = omega arith in
        done-so check (listing_head p) out fits _ n length-head
        (two-parts out x y first second a (length d + 1) length-first (omega arith) ex ey ∙ rw (is-head, same))
