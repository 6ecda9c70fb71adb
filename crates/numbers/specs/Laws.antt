-- A page's numbers. Assumes nothing.
--     numbers-room   the page's bytes lie inside
--     front-put, own_put, clear-put, numbers-put, page-put    version, page and zeros, put into a buffer part by part
--     numbers-page   the numbers of a file are the file's page
--     file-read, numbers-kept        what a read leaves
--     saved-page, saved-numbers      a page as numbers is the page that is kept, and numbers come back
--     put-fine, put-page, put_rest   numbers with a page in the place of their own
use Rattle.std.specs.Prelude.{ℕ, ◌+◌, ◌-◌, ◌*◌, ◌<◌, ◌≤◌, ◌≡◌, refl, Bool, true, false, not, List, [], ◌∷◌, ◌++◌, eqb, length, get_or, take, drop, replicate, is_ok, Err}
use Rattle.std.proofs.Common.{sym, ap₂, true≢false, ◌∙◌, arith, length-append, take-take, take-add, drop-cons, drop-drop, drop_at, get_or-take, get_or-drop}
use Rattle.std.proofs.Math.Path.{ap}
use borrow.Author.Tests.{eqb-true, ne_eqb, not-false}
use Rattle.std.proofs.Math.ListN.{length-drop, length-replicate, get_or-append}
use Rattle.std.proofs.lemmas.List.{take-append-le}
use Rattle.lists.specs.Choice.{pick, neither}
use Rattle.units.specs.Units.{dots}
use Rattle.refusal.specs.declared.Refusal.{Refusal}
use Rattle.refusal.specs.declared.Refusal.TheVariants.{Size}
use Rattle.refusal.specs.Number.{unrefused, Checked}
use Rattle.refusal.specs.Laws.{passed}
use Rattle.board.specs.declared.Page.{Page}
use Rattle.board.specs.declared.Board.{Board}
use Rattle.board.specs.Layout.{newest_version, page_length, length_field, chars_place, file_size}
use Rattle.board.specs.Modes.{version_of}
use Rattle.board.specs.Range.{memories_refused}
use Rattle.board.specs.Laws.{layout-fits}
use Rattle.timing.specs.Check.{page_check}
use Rattle.copies.specs.Put.{length_part, put_at, laid_none, put_on, laid-all, drop-same}
use Rattle.files.specs.Page.{word_at, version_in, irs_in, irs_at, page_at, page_bytes, kept_page}
use Rattle.files.specs.File.{version_refused, read_check, read_page_of, chars_read, attrs_read}
use Rattle.files.specs.Laws.{version-known, file-sized, FilePassed, file-passed, bytes-all, chip-there}
use Rattle.files.specs.Round.{Bytes, byte, bytes-again, version-again, written_known, page-kept, kept_same}
use Rattle.numbers.specs.Numbers.{numbers_refused, numbers_check, counted, zeros_after, numbers_front, numbers_in, page_numbers, page_in, cleared, numbers_of_check, numbers_of}
use Rattle.numbers.specs.Files.{page_read_size, numbers_read}

pub numbers-all : (numbers : List ℕ) → numbers_refused numbers ≡ false → length numbers ≡ 32
unfolding numbers_refused
numbers-all numbers e = eqb-true _ _ (not-false _ (neither _ _ e).0)

pub numbers-passed : (numbers : List ℕ) → numbers_check numbers ≡ unrefused → numbers_refused numbers ≡ false
unfolding numbers_check
numbers-passed numbers e = (passed (numbers_refused numbers) (Err Size) _ refl e).0

-- the page's bytes lie inside
pub numbers-room : (numbers : List ℕ) → numbers_refused numbers ≡ false → 1 + page_length (version_in numbers) ≤ length numbers
numbers-room numbers e = omega (arith, numbers-all numbers e, (layout-fits (version_in numbers)).page-most)

-- ---- parts put one behind the other

pub front-put : (v : ℕ) (page out : List ℕ) {one two : List ℕ} → one ≡ put_at 0 (v ∷ []) out → two ≡ put_at 1 page one → two ≡ numbers_front v page (drop (1 + length page) out)
front-put v page out e₁ e₂ = (put_on (v ∷ []) page out 1 (length page) (put_on [] (v ∷ []) out 0 1 (laid_none out) refl e₁) refl e₂).1

pub own_put : (p : Page) → length p.irs ≡ 15 → (out : List ℕ) {v : ℕ} {one two : List ℕ} → v ≡ version_of p → one ≡ put_at 0 (v ∷ []) out → two ≡ put_at 1 (page_bytes p) one → two ≡ page_in p out
own_put p n out {v} e e₁ e₂ =
    front-put v (page_bytes p) out e₁ e₂ ∙ ap₂ (λ (x k : ℕ). numbers_front x (page_bytes p) (drop (1 + k) out)) e (bytes-all p n)

pub clear-put : (out : List ℕ) → length out ≡ 32 → {all : List ℕ} → all ≡ put_at 0 (replicate 32 0) out → all ≡ replicate 32 0
clear-put out room e = laid-all (replicate 32 0) out 32 (put_on [] (replicate 32 0) out 0 32 (laid_none out) refl e) room

zeros-left : (version : ℕ) → drop (counted version) (replicate 32 0) ≡ zeros_after version
zeros-left version = drop-same (counted version) 32 0 (omega (arith, (layout-fits version).page-most))

pub numbers-put : (v : ℕ) (page : List ℕ) → length page ≡ page_length v → {zeros all : List ℕ} → zeros ≡ replicate 32 0
    → all ≡ numbers_front v page (drop (1 + length page) zeros) → all ≡ numbers_front v page (zeros_after v)
numbers-put v page n z e = e ∙ ap₂ (λ (k : ℕ) (l : List ℕ). numbers_front v page (drop (1 + k) l)) n z ∙ ap (numbers_front v page) (zeros-left v)

pub page-put : (p : Page) {zeros all : List ℕ} → zeros ≡ replicate 32 0 → all ≡ page_in p zeros → all ≡ page_numbers p
page-put p z e = e ∙ ap (page_in p) z ∙ ap (numbers_front (version_of p) (page_bytes p)) (zeros-left p.version)

-- ---- a page file's numbers

pub numbers-long : (file : List ℕ) → chars_place (version_in file) ≤ length file → length (numbers_in file) ≡ 32
numbers-long file l =
    let v = version_in file in
    let both = length-append (take (page_length v) (drop 5 file)) (zeros_after v) in
    omega (arith, both, length_part file 5 (page_length v) (omega (arith, l)), length-replicate {A = ℕ} (32 - counted v) 0, (layout-fits v).page-most)

pub numbers-page : (file : List ℕ) → chars_place (version_in file) ≤ length file → page_at (numbers_in file) 1 ≡ page_at file 5
unfolding page_at word_at
numbers-page file l = λ i. record {
  version = version_in file;
  irs = irs-same i;
  starts = record {
    start1 = both n (1 + n) (5 + n) (omega (arith, rest)) (omega arith) (omega arith) i;
    cursor = both (n + 2) (1 + n + 2) (5 + n + 2) (omega (arith, rest)) (omega arith) (omega arith) i;
    start2 = both (n + 4) (1 + n + 4) (5 + n + 4) (omega (arith, rest)) (omega arith) (omega arith) i;
  };
  switches = same (n + 6) (1 + n + 6) (5 + n + 6) (omega (arith, rest)) (omega arith) (omega arith) i;
  video = record {
    dots = dots (same (n + 7) (1 + n + 7) (5 + n + 7) (omega (arith, rest)) (omega arith) (omega arith) i);
    strike = same (n + 8) (1 + n + 8) (5 + n + 8) (omega (arith, rest)) (omega arith) (omega arith) i;
    chip = chip-same (eqb (version_in file) 3) refl i;
  };
}
  where
    n : ℕ
    n = irs_in file

    size : ℕ
    size = page_length (version_in file)

    rest : n + 9 ≤ size
    rest = omega (arith, (layout-fits (version_in file)).rest_some)

    part : List ℕ
    part = take size (drop 5 file)

    zeros : List ℕ
    zeros = zeros_after (version_in file)

    all : length part ≡ size
    all = length_part file 5 size (omega (arith, l))

    same : (k j m : ℕ) → k < size → j ≡ 1 + k → m ≡ 5 + k → get_or (numbers_in file) j 0 ≡ get_or file m 0
    same k j m h q r =
        byte (numbers_in file) 1 k j q ∙ get_or-append part zeros 0 k (rw all h) ∙ get_or-take size (drop 5 file) k 0 h ∙ get_or-drop 5 file k 0
        ∙ ap (λ (x : ℕ). get_or file x 0) (sym r)

    both : (k j m : ℕ) → k + 1 < size → j ≡ 1 + k → m ≡ 5 + k → get_or (numbers_in file) j 0 * 256 + get_or (numbers_in file) (j + 1) 0 ≡ get_or file m 0 * 256 + get_or file (m + 1) 0
    both k j m h q r = rw (same k j m (omega (arith, h)) q r, same (k + 1) (j + 1) (m + 1) h (omega (arith, q)) (omega (arith, r)))

    chip-same : (t : Bool) → eqb (version_in file) 3 ≡ t → pick t (get_or (numbers_in file) (1 + n + 9) 0) 0 ≡ pick t (get_or file (5 + n + 9) 0) 0
    chip-same true e = same (n + 9) (1 + n + 9) (5 + n + 9) (omega (arith, chip-there (version_in file) (eqb-true _ _ e))) (omega arith) (omega arith)
    chip-same false e = refl

    irs-same : irs_at n (numbers_in file) 1 ≡ irs_at n file 5
    irs-same =
        ap (λ (x : List ℕ). x ++ replicate (15 - n) 0) (take-append-le n part zeros (omega (arith, all, rest)) ∙ take-take n size (drop 5 file) (omega (arith, rest)))

-- a page that is read: the sizes are right, and they are those that the memories are read by
module _ (file : List ℕ) (n c a : ℕ) (ok : read_check file (page_read_size n c a) ≡ unrefused) where
  read-passed : FilePassed file newest_version (length_field (version_in file)) (page_read_size n c a) (page_check (page_at file 5))
  unfolding read_check
  read-passed = file-passed file newest_version (length_field (version_in file)) (page_read_size n c a) (page_check (page_at file 5)) ok

  pub read_fits : (length file ≡ file_size (version_in file)) × (n ≡ 32)
  read_fits =
      (file-sized file (length_field (version_in file)) read-passed.length-ok, eqb-true _ _ (not-false _ (neither (memories_refused c a) (not (eqb n 32)) read-passed.size_ok).1))

  same_size : memories_refused c a ≡ page_read_size n c a
  same_size = (neither (memories_refused c a) (not (eqb n 32)) read-passed.size_ok).0 ∙ sym read-passed.size_ok

  -- the read of the page, which judges the memories alone, is not refused
  pub page-not-refused : {why : Refusal} → Err why ≡ read_page_of file (memories_refused c a) → ⊥
  unfolding read_page_of
  page-not-refused e =
      let check : read_check file (memories_refused c a) ≡ unrefused = ap (read_check file) same_size ∙ ok in
      true≢false (sym (ap is_ok (rw check at e)))

  -- what such a read leaves
  pub file-read : (numbers₀ chars₀ attrs₀ : List ℕ) {numbers chars attrs : List ℕ} → numbers ≡ numbers_in file
      → chars ≡ chars_read file (memories_refused c a) chars₀ → attrs ≡ attrs_read file (memories_refused c a) attrs₀
      → (numbers ≡ numbers_read file (page_read_size n c a) numbers₀)
      × (chars ≡ chars_read file (page_read_size n c a) chars₀)
      × (attrs ≡ attrs_read file (page_read_size n c a) attrs₀)
  unfolding numbers_read
  file-read numbers₀ chars₀ attrs₀ e f g =
      (rw ok e, f ∙ ap (λ (s : Bool). chars_read file s chars₀) same_size, g ∙ ap (λ (s : Bool). attrs_read file s attrs₀) same_size)

pub numbers-kept : (file : List ℕ) (size : Bool) (numbers₀ : List ℕ) → is_ok (read_check file size) ≡ false → numbers₀ ≡ numbers_read file size numbers₀
unfolding numbers_read
numbers-kept file size numbers₀ t = rw t

-- ---- a board's page as numbers

pub numbers-version : (numbers : List ℕ) → numbers_refused numbers ≡ false → version_refused numbers newest_version ≡ false
unfolding numbers_refused
numbers-version numbers e = (neither (not (eqb (length numbers) 32)) (version_refused numbers newest_version) e).1

-- numbers of a page are refused by nothing, and are the page that is kept
module _ (p : Page) (n : length p.irs ≡ 15) where
  -- as long as what stands behind the page makes them
  front_long : (rest : List ℕ) → counted p.version + length rest ≡ 32 → length (numbers_front (version_of p) (page_bytes p) rest) ≡ 32
  front_long rest e = let k = length-append (page_bytes p) rest in omega (arith, k, bytes-all p n, e)

  pub saved-fine : numbers_refused (page_numbers p) ≡ false
  unfolding numbers_refused
  saved-fine =
      let k = length-replicate {A = ℕ} (32 - counted p.version) 0 in
      rw (front_long (zeros_after p.version) (omega (arith, k, (layout-fits p.version).page-most))) (written_known p)

  pub saved-page : page_at (page_numbers p) 1 ≡ kept_page p
  saved-page = page-kept p (zeros_after p.version) n (page_numbers p) 1 refl refl

-- numbers with a page in the place of their own: refused by nothing, and that page
module _ (numbers : List ℕ) (fine : numbers_refused numbers ≡ false) (p : Page) (n : length p.irs ≡ 15) where
  pub put-fine : numbers_refused (page_in p numbers) ≡ false
  unfolding numbers_refused
  put-fine =
      let k = length-drop (counted p.version) numbers in
      rw (front_long p n (drop (counted p.version) numbers) (omega (arith, k, numbers-all numbers fine, (layout-fits p.version).page-most))) (written_known p)

  pub put-page : p.version ≡ get_or numbers 0 0 → (eqb p.version 3 ≡ false → p.video.chip ≡ 0) → page_at (page_in p numbers) 1 ≡ p
  put-page e chip =
      let known = version-known numbers newest_version (numbers-version numbers fine) in
      page-kept p (drop (counted p.version) numbers) n (page_in p numbers) 1 refl refl ∙ kept_same p (omega (arith, e, known.0)) (omega (arith, e, known.1)) chip

  -- the bytes that are ignored stay
  pub put_rest : drop (counted p.version) (page_in p numbers) ≡ drop (counted p.version) numbers
  put_rest =
      sym (drop-drop (page_length p.version) 1 (page_in p numbers))
      ∙ drop_at (page_bytes p) (drop (counted p.version) numbers) (page_length p.version) (bytes-all p n)

-- the page of numbers, as numbers: those, with zeros where numbers are ignored
pub saved-numbers : (numbers : List ℕ) → Bytes numbers → numbers_refused numbers ≡ false → page_numbers (page_at numbers 1) ≡ cleared numbers
unfolding page_at
saved-numbers numbers fits fine =
    ap₂ (λ (x : ℕ) (l : List ℕ). numbers_front x l zeros) (version-again numbers 1 (numbers-version numbers fine)) (bytes-again numbers fits 1 (numbers-room numbers fine))
    ∙ ap (λ (l : List ℕ). l ++ zeros) (sym front)
  where
    zeros : List ℕ
    zeros = zeros_after (version_in numbers)

    front : take (counted (version_in numbers)) numbers ≡ version_in numbers ∷ take (page_length (version_in numbers)) (drop 1 numbers)
    front =
        take-add 1 (page_length (version_in numbers)) numbers
        ∙ ap (λ (l : List ℕ). take 1 l ++ take (page_length (version_in numbers)) (drop 1 numbers)) (drop-cons numbers 0 0 (omega (arith, numbers-room numbers fine)))

-- what the call leaves
module _ (b : Board) (numbers₀ : List ℕ) where
  pub not-room : (length numbers₀ ≡ 32 → ⊥) → (Err Size ≡ numbers_of_check b (length numbers₀)) × (numbers₀ ≡ numbers_of b numbers₀)
  unfolding numbers_of_check numbers_of
  not-room e = let t = ne_eqb _ _ e in (rw t, rw t)

  module _ (room : length numbers₀ ≡ 32) {r : Checked} (e : r ≡ page_check b.page) where
    pub saved : is_ok (page_check b.page) ≡ true → {numbers : List ℕ} → numbers ≡ page_numbers b.page → (r ≡ numbers_of_check b (length numbers₀)) × (numbers ≡ numbers_of b numbers₀)
    unfolding numbers_of_check numbers_of
    saved t q = (rw room e, rw (room, t) q)

    pub not_saved : is_ok (page_check b.page) ≡ false → (r ≡ numbers_of_check b (length numbers₀)) × (numbers₀ ≡ numbers_of b numbers₀)
    unfolding numbers_of_check numbers_of
    not_saved t = (rw room e, rw (room, t))
