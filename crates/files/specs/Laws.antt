-- What the proofs of the file calls use. Assumes nothing.
use Rattle.std.specs.Prelude.{ℕ, ◌+◌, ◌-◌, ◌/◌, ◌%◌, ◌≤◌, ◌<◌, ◌≡◌, refl, Bool, true, false, ◌||◌, not, List, [], ◌∷◌, ◌++◌, eqb, leb, ltb, length, take, drop, replicate, is_ok, Ok, Err}
use Rattle.std.proofs.Common.{sym, ap, ap₂, ◌∙◌, true≢false, append_assoc, append-nil, arith, eqb-true, leb-true, ltb-false, length-append, take_all, length-take-le}
use Rattle.std.proofs.lemmas.Bool.{not-false}
use Rattle.std.proofs.lemmas.List.{length-replicate}
use Rattle.lists.specs.Choice.{pick, first_of, both, neither}
use Rattle.refusal.specs.declared.Refusal.{Refusal}
use Rattle.refusal.specs.declared.Refusal.TheVariants.{Version, Length, Size}
use Rattle.refusal.specs.Number.{unrefused, Checked, wrong_size}
use Rattle.refusal.specs.Laws.{done-is, passed, size-right}
use Rattle.board.specs.declared.Page.{Page}
use Rattle.board.specs.declared.Layout.{Layout}
use Rattle.board.specs.declared.Board.{Board}
use Rattle.board.specs.Layout.{newest_version, layout_of, page_length, length_field, chars_place, attrs_place, file_size}
use Rattle.board.specs.Range.{memories_refused}
use Rattle.board.specs.Laws.{memories-all, layout-fits}
use Rattle.timing.specs.Check.{page_check}
use Rattle.timing.specs.Laws.{call-passed}
use Rattle.files.specs.Page.{version_in, irs_in, irs_at, page_at, board_at, long_bytes, tail_of, page_bytes}
use Rattle.copies.specs.Put.{length_part, taken_from, put_at, laid_none, put_on, put_both, drop-same}
use Rattle.files.specs.File.{long_at, version_refused, length_refused, file_check, read_check, read_page_of, chars_read, attrs_read, page_head, head_of, file_of, write_check, written}

-- an empty file has no version
pub no-version : (file : List ℕ) (newest : ℕ) → length file ≡ 0 → true ≡ version_refused file newest
no-version [] newest e = refl
no-version (x ∷ file) newest e = absurd (omega arith)

pub empty-version : (file : List ℕ) → length file ≡ 0 → 0 ≡ version_in file
empty-version [] e = refl
empty-version (x ∷ file) e = absurd (omega arith)

-- a version that is known
pub version-known : (file : List ℕ) (newest : ℕ) → version_refused file newest ≡ false → (1 ≤ version_in file) × (version_in file ≤ newest)
version-known file newest e =
    let k = both (leb 1 (version_in file)) (leb (version_in file) newest) (not-false _ e) in
    (leb-true _ _ k.0, leb-true _ _ k.1)

-- a file of the right length
pub file-sized : (file : List ℕ) (n : ℕ) → length_refused file n ≡ false → length file ≡ n + 5
unfolding length_refused
file-sized file n e = eqb-true _ _ (not-false _ (neither (not (eqb (length file) (n + 5))) (not (eqb (long_at file 1) n)) e).0)

-- a file that 1, 2 and 3 pass
pub record FilePassed (file : List ℕ) (newest n : ℕ) (size : Bool) (rest : Checked) : Type 0 where
  pub version-ok : version_refused file newest ≡ false
  pub length-ok : length_refused file n ≡ false
  pub size_ok : size ≡ false
  pub rest_ok : rest ≡ unrefused

pub file-passed : (file : List ℕ) (newest n : ℕ) (size : Bool) (rest : Checked) → file_check file newest n size rest ≡ unrefused → FilePassed file newest n size rest
unfolding file_check
file-passed file newest n size rest e =
    let v = passed (version_refused file newest) (Err Version) _ refl e in
    let l = passed (length_refused file n) (Err Length) _ refl v.1 in
    let s = passed size (Err Size) _ refl l.1 in
    record { version-ok = v.0; length-ok = l.0; size_ok = s.0; rest_ok = s.1 }

-- the rest counts where 1, 2 and 3 pass, and only there
module _ (file : List ℕ) (newest n : ℕ) (size : Bool) (rest : Checked) where
  pub file-rest : is_ok (file_check file newest n size unrefused) ≡ true → rest ≡ file_check file newest n size rest
  unfolding file_check
  file-rest e =
      let p = file-passed file newest n size unrefused (done-is _ e) in
      rw (p.version-ok, p.length-ok, p.size_ok)

  pub file-first : is_ok (file_check file newest n size unrefused) ≡ false → file_check file newest n size unrefused ≡ file_check file newest n size rest
  unfolding file_check
  file-first = go (version_refused file newest) (length_refused file n) size
    where
      order : (v l s : Bool) → Checked → Checked
      order v l s last = first_of ((v, Err Version) ∷ (l, Err Length) ∷ (s, Err Size) ∷ []) last

      go : (v l s : Bool) → is_ok (order v l s unrefused) ≡ false → order v l s unrefused ≡ order v l s rest
      go true l s q = refl
      go false true s q = refl
      go false false true q = refl
      go false false false q = absurd (true≢false q)

-- a page file that nothing refuses, and the memories that it goes to
pub record Taken (file : List ℕ) (chars attrs : ℕ) : Type 0 where
  pub file-all : length file ≡ file_size (version_in file)
  pub chars-all : chars ≡ 16384
  pub attrs-all : attrs ≡ 16384

pub read-passed : (file : List ℕ) (chars attrs : ℕ) → read_check file (memories_refused chars attrs) ≡ unrefused → Taken file chars attrs
unfolding read_check
read-passed file chars attrs e =
    let p = file-passed file newest_version (length_field (version_in file)) (memories_refused chars attrs) (page_check (page_at file 5)) e in
    let m = memories-all chars attrs p.size_ok in
    record { file-all = file-sized file (length_field (version_in file)) p.length-ok; chars-all = m.0; attrs-all = m.1 }

-- what a read leaves
module _ (file : List ℕ) (size : Bool) (chars attrs : List ℕ) where
  pub read_done : read_check file size ≡ unrefused → (b : Board) → b ≡ board_at file 5 → (c a : List ℕ)
      → c ≡ take 16384 (drop (chars_place (version_in file)) file) → a ≡ take 16384 (drop (attrs_place (version_in file)) file)
      → (Ok b ≡ read_page_of file size) × (c ≡ chars_read file size chars) × (a ≡ attrs_read file size attrs)
  unfolding read_page_of chars_read attrs_read
  read_done t b eb c a ec ea = (rw (t, eb), rw t ec, rw t ea)

  pub read-refused : is_ok (read_check file size) ≡ false → (chars ≡ chars_read file size chars) × (attrs ≡ attrs_read file size attrs)
  unfolding chars_read attrs_read
  read-refused t = (rw t, rw t)

  pub read-why : {why : Refusal} → Err why ≡ read_check file size → Err why ≡ read_page_of file size
  unfolding read_page_of
  read-why e = rw (← e) refl

-- ---- a page's bytes

-- the longest page file
pub file-most : (version : ℕ) → file_size version ≤ 32798
unfolding layout_of
file-most version = go (eqb version 3)
  where
    go : (t : Bool) → 15 + pick t 10 9 + 32768 + 5 ≤ 32798
    go true = omega arith
    go false = omega arith

-- what stands behind the IRs in the longest layout
pub tail-long : (p : Page) → length (tail_of p) ≡ 10
unfolding tail_of
tail-long p = refl

pub chip-there : (version : ℕ) → version ≡ 3 → (layout_of version).rest ≡ 10
unfolding layout_of
chip-there version e = rw e

-- as much of it as the version has
pub tail_all : (p : Page) → length (take (layout_of p.version).rest (tail_of p)) ≡ (layout_of p.version).rest
tail_all p = length-take-le (layout_of p.version).rest (tail_of p) (rw (tail-long p) (layout-fits p.version).rest-most)

pub irs-whole : (version : ℕ) (irs : List ℕ) → length irs ≡ 15 → irs_at (layout_of version).irs irs 0 ≡ irs
unfolding layout_of
irs-whole version irs n = append-nil (take 15 irs) ∙ take_all 15 irs (omega (arith, n))

-- IRs taken into a record of zeros
pub irs-taken : (n : ℕ) (bytes : List ℕ) (at : ℕ) → n ≤ 15 → {ys : List ℕ} → ys ≡ taken_from at bytes (take n (replicate 15 0)) → ys ++ drop n (replicate 15 0) ≡ irs_at n bytes at
irs-taken n bytes at l e =
    ap₂ (λ (x y : List ℕ). x ++ y) (e ∙ ap (λ (k : ℕ). take k (drop at bytes)) (length-take-le n (replicate 15 0) l)) (drop-same n 15 0 l)

-- they are as many as a record has
pub irs-at-all : (n : ℕ) (bytes : List ℕ) (at : ℕ) → n ≤ 15 → at + n ≤ length bytes → length (irs_at n bytes at) ≡ 15
irs-at-all n bytes at l room =
    length-append (take n (drop at bytes)) (replicate (15 - n) 0) ∙ rw (length_part bytes at n room, length-replicate {A = ℕ} (15 - n) 0) (omega arith)

pub page-irs : (bytes : List ℕ) (at : ℕ) → at + page_length (version_in bytes) ≤ length bytes → length (page_at bytes at).irs ≡ 15
unfolding page_at
page-irs bytes at room = irs-at-all (irs_in bytes) bytes at (layout-fits (version_in bytes)).irs-most (omega (arith, room))

-- the IRs that a page's version has
pub front-all : (p : Page) → length p.irs ≡ 15 → length (take (layout_of p.version).irs p.irs) ≡ (layout_of p.version).irs
front-all p n = length-take-le (layout_of p.version).irs p.irs (omega (arith, n, (layout-fits p.version).irs-most))

pub bytes-all : (p : Page) → length p.irs ≡ 15 → length (page_bytes p) ≡ page_length p.version
bytes-all p n = length-append (take (layout_of p.version).irs p.irs) (take (layout_of p.version).rest (tail_of p)) ∙ rw (front-all p n, tail_all p)

-- the IRs and what stands behind them, put one behind the other
pub bytes-put : (p : Page) → length p.irs ≡ 15 → (out : List ℕ) (at : ℕ) → at ≤ length out → (l : Layout) → l ≡ layout_of p.version
    → {tail one two : List ℕ} → tail ≡ tail_of p → one ≡ put_at at (take l.irs p.irs) out → two ≡ put_at (at + l.irs) (take l.rest tail) one → two ≡ put_at at (page_bytes p) out
bytes-put p all out at room l e t e₁ e₂ =
    put_both (take (layout_of p.version).irs p.irs) (take (layout_of p.version).rest (tail_of p)) out at (layout_of p.version).irs room (front-all p all) (rw e at e₁) (rw (e, t) at e₂)

pub head-all : (p : Page) → length p.irs ≡ 15 → length (head_of p) ≡ chars_place p.version
unfolding head_of
head-all p n = length-append (page_head p) (page_bytes p) ∙ rw (bytes-all p n) (omega arith)

-- a length in four bytes, of which the upper two are zeros
pub long-small : (n : ℕ) → n < 65536 → long_bytes n ≡ 0 ∷ 0 ∷ n / 256 ∷ n % 256 ∷ []
long-small n l =
    let upper : n / 65536 ≡ 0 = omega (arith, l) in
    let lower : n % 65536 ≡ n = omega (arith, l) in
    rw (upper, lower)

-- a version and a length in four bytes
pub head-is : (version n : ℕ) {v m : ℕ} → v ≡ version → m ≡ n → m < 65536
    → v ∷ (m / 16777216 % 256) ∷ (m / 65536 % 256) ∷ (m / 256 % 256) ∷ (m % 256) ∷ [] ≡ version ∷ long_bytes n
head-is version n {v} {m} ev em small =
    let first : m / 16777216 % 256 ≡ 0 = omega (arith, small) in
    let second : m / 65536 % 256 ≡ 0 = omega (arith, small) in
    let third : m / 256 % 256 ≡ m / 256 = omega (arith, small) in
    rw (first, second, third, ev) (ap (λ (t : List ℕ). version ∷ t) (sym (long-small m small)) ∙ ap (λ (k : ℕ). version ∷ long_bytes k) em)

-- a page file put into a buffer part by part
pub page-put : (p : Page) → length p.irs ≡ 15 → (chars attrs out : List ℕ) → length chars ≡ 16384 → length attrs ≡ 16384
    → (place : ℕ) → place ≡ chars_place p.version → {head one two three four : List ℕ} → head ≡ page_head p
    → one ≡ put_at 0 head out → two ≡ put_at 5 (page_bytes p) one → three ≡ put_at place chars two → four ≡ put_at (place + 16384) attrs three
    → four ≡ file_of p chars attrs ++ drop (file_size p.version) out
unfolding file_of head_of
page-put p n chars attrs out nc na place q v e₁ e₂ e₃ e₄ =
    let at : 5 + page_length p.version ≡ chars_place p.version = omega arith in
    let end : attrs_place p.version + 16384 ≡ file_size p.version = omega arith in
    let l₁ = put_on [] (page_head p) out 0 5 (laid_none out) refl (rw v at e₁) in
    let l₂ = put_on (page_head p) (page_bytes p) out 5 (page_length p.version) l₁ (bytes-all p n) e₂ in
    let l₃ = put_on (page_head p ++ page_bytes p) chars out (chars_place p.version) 16384 (rw at at l₂) nc (rw q at e₃) in
    let l₄ = put_on ((page_head p ++ page_bytes p) ++ chars) attrs out (attrs_place p.version) 16384 l₃ na (rw q at e₄) in
    rw end at l₄.1 ∙ ap (λ (x : List ℕ). x ++ drop (file_size p.version) out) (append_assoc (page_head p ++ page_bytes p) chars attrs)

-- a write that nothing refuses
pub write-passed : (b : Board) (chars attrs out : ℕ) → write_check b chars attrs out ≡ unrefused
    → (b.page.video.dots.0 ≤ 12) × (chars ≡ 16384) × (attrs ≡ 16384) × (file_size b.page.version ≤ out)
unfolding write_check
write-passed b chars attrs out e =
    let q = call-passed b (wrong_size (memories_refused chars attrs || ltb out (file_size b.page.version))) false false e in
    let s = neither (memories_refused chars attrs) (ltb out (file_size b.page.version)) (size-right _ q.lent-fine) in
    let m = memories-all chars attrs s.0 in
    (q.page.most, m.0, m.1, ltb-false _ _ s.1)

-- what a write leaves
module _ (b : Board) (chars attrs out₀ : List ℕ) where
  pub write_done : is_ok (write_check b (length chars) (length attrs) (length out₀)) ≡ true
      → (out : List ℕ) → out ≡ file_of b.page chars attrs ++ drop (file_size b.page.version) out₀ → out ≡ written b chars attrs out₀
  unfolding written
  write_done t out e = rw t e

  pub write-refused : is_ok (write_check b (length chars) (length attrs) (length out₀)) ≡ false → out₀ ≡ written b chars attrs out₀
  unfolding written
  write-refused t = rw t
