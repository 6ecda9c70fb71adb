-- A file read and written again. Assumes nothing.
use Rattle.std.specs.Prelude.{ℕ, ◌≤◌, ◌≡◌, Bool, ◌&&◌, List, ◌++◌, length, take, drop, replicate, eqb, is_ok, Err}
use Rattle.std.proofs.Math.Path.{refl, ap}
use Rattle.std.proofs.Common.{sym, ◌∙◌, eq-eqb, ne_eqb, ltb-false}
use Rattle.std.proofs.Math.Bool.{true, false, or-true}
use Rattle.std.proofs.Math.Dec.{ltb}
use Rattle.lists.specs.Choice.{pick}
use Rattle.refusal.specs.declared.Refusal.TheVariants.{Size}
use Rattle.refusal.specs.Number.{unrefused, Checked, number_of, beside_of}
use Rattle.refusal.specs.Laws.{zero-done, some-refused}
use Rattle.board.specs.declared.Board.{Board}
use Rattle.board.specs.Layout.{file_size}
use Rattle.board.specs.Range.{memories_refused}
use Rattle.timing.specs.Check.{call_check}
use Rattle.shape.specs.Font.{Font, font_of, font_refused}
use Rattle.files.specs.Page.{version_in, page_at}
use Rattle.files.specs.File.{read_check, chars_read, attrs_read, write_check, written}
use Rattle.files.specs.FontFile.{group_count, font_size, font_short, font_check, font_read, font_version, font_write_check, font_written, file_font}
use Rattle.files.specs.Round.{Bytes}
use Rattle.numbers.specs.Numbers.{numbers_refused, numbers_board}
use Rattle.numbers.specs.Files.{numbers_read, page_write_check, page_written}
use Rattle.feldrime.specs.declared.Answer.{Answer}
use Rattle.feldrime.specs.declared.FontAnswer.{FontAnswer}
use Rattle.feldrime.specs.Answers.{answer_of}
use Rattle.feldrime.specs.Pages.{font_for}
use Rattle.agreement.specs.Files.{version-kept, font-same}
use Rattle.agreement.specs.FilesFromC.{page-same-from-c}

-- the read's own answer, then 3 where there is room for less than the file's n bytes
unfoldable pub again_check : (read : Checked) (n room : ℕ) → Checked
again_check read n room = pick (is_ok read) (pick (ltb room n) (Err Size) unrefused) read

-- the file, and what stood beyond it; on a refusal the buffer as it was
unfoldable pub written_again : (read : Checked) (n : ℕ) (file out : List ℕ) → List ℕ
written_again read n file out = pick (is_ok (again_check read n (length out))) (file ++ drop n out) out

-- a call's answer that is 0, and one that is not
pub answer-done : (r : Checked) {a : Answer} → a ≡ answer_of r → a.refusal ≡ 0 → r ≡ unrefused
answer-done r p e = zero-done r (ap (λ (x : Answer). x.refusal) (sym p) ∙ e)

-- a read that refuses
pub read-stops : (r : Checked) (n : ℕ) (file out : List ℕ) {a : Answer} → a ≡ answer_of r → (a.refusal ≡ 0 → ⊥)
    → (a ≡ answer_of (again_check r n (length out))) × (out ≡ written_again r n file out)
unfolding again_check written_again
read-stops r n file out p e = let d : is_ok r ≡ false = some-refused r (λ q. e (ap (λ (x : Answer). x.refusal) p ∙ q)) in (rw d p, rw (d, d))

-- a read that is done, and the write after it: w is the write's answer, and out' what it leaves
module _ (n : ℕ) (file out : List ℕ) {r w : Checked} {a : Answer} {out' : List ℕ} (ok : r ≡ unrefused) (p : a ≡ answer_of w)
    (roomy : n ≤ length out → (w ≡ unrefused) × (out' ≡ file ++ drop n out)) (short : ltb (length out) n ≡ true → (w ≡ Err Size) × (out' ≡ out)) where
  pub wrote : (a ≡ answer_of (again_check r n (length out))) × (out' ≡ written_again r n file out)
  unfolding again_check written_again
  wrote = go (ltb (length out) n) refl
    where
      go : (t : Bool) → ltb (length out) n ≡ t → (a ≡ answer_of (again_check r n (length out))) × (out' ≡ written_again r n file out)
      go true t = (rw (ok, t) (p ∙ ap answer_of (short t).0), rw (ok, t) (short t).1)
      go false t = let w = roomy (ltb-false _ _ t) in (rw (ok, t) (p ∙ ap answer_of w.0), rw (ok, t) w.1)

-- ---- a page

-- a buffer that is too short
write-short : (b : Board) (c a n : ℕ) → ltb n (file_size b.page.version) ≡ true → write_check b c a n ≡ Err Size
unfolding write_check call_check
write-short b c a n t = rw (t, or-true (memories_refused c a))

page-short : (numbers chars attrs out : List ℕ) → ltb (length out) (file_size (version_in numbers)) ≡ true
    → (page_write_check numbers (length chars) (length attrs) (length out) ≡ Err Size) × (page_written numbers chars attrs out ≡ out)
unfolding page_write_check page_written written page_at
page-short numbers chars attrs out t = rw (write-short (numbers_board numbers) (length chars) (length attrs) (length out) t) (both (numbers_refused numbers))
  where
    short : Checked
    short = Err Size

    both : (x : Bool) → (pick x short short ≡ short) × (pick x out out ≡ out)
    both true = (refl, refl)
    both false = (refl, refl)

-- what the three buffers of zeros hold once the file is read into them
abbrev zeros : ℕ → List ℕ
zeros n = replicate n 0

module _ (file : List ℕ) (bytes : Bytes file) (out : List ℕ) {a : Answer} {numbers chars attrs : List ℕ}
    (read : (a ≡ answer_of (read_check file false)) × (numbers ≡ numbers_read file false (zeros 32)) × (chars ≡ chars_read file false (zeros 16384)) × (attrs ≡ attrs_read file false (zeros 16384))) where
  version-read : read_check file false ≡ unrefused → version_in numbers ≡ version_in file
  unfolding numbers_read
  version-read ok = rw (read.1, ok)

  pub page-refused : (a.refusal ≡ 0 → ⊥) → (a ≡ answer_of (again_check (read_check file false) (file_size (version_in file)) (length out))) × (out ≡ written_again (read_check file false) (file_size (version_in file)) file out)
  page-refused e = read-stops (read_check file false) (file_size (version_in file)) file out read.0 e

  pub page-wrote : a.refusal ≡ 0 → {w : Answer} {out' : List ℕ}
      → (w ≡ answer_of (page_write_check numbers (length chars) (length attrs) (length out))) × (out' ≡ page_written numbers chars attrs out)
      → (w ≡ answer_of (again_check (read_check file false) (file_size (version_in file)) (length out))) × (out' ≡ written_again (read_check file false) (file_size (version_in file)) file out)
  page-wrote e {w} {out'} write =
      let ok : read_check file false ≡ unrefused = answer-done _ read.0 e in
      wrote (file_size (version_in file)) file out ok write.0
      (λ l. let s = page-same-from-c file (zeros 32) (zeros 16384) (zeros 16384) (ap number_of ok) bytes out l in
      let zero : number_of (page_write_check numbers (length chars) (length attrs) (length out)) ≡ 0 = rw (read.1, read.2, read.3) s.0 in
      (zero-done (page_write_check numbers (length chars) (length attrs) (length out)) zero, write.1 ∙ rw (read.1, read.2, read.3) s.1))
      (λ t. let s = page-short numbers chars attrs out (ap (λ (v : ℕ). ltb (length out) (file_size v)) (version-read ok) ∙ t) in (s.0, write.1 ∙ s.1))

-- ---- a font

-- the parts before the file is read into them
abbrev no_font : Font
no_font = font_of (zeros 1152) (zeros 128) (zeros 9) (zeros 9) (zeros 16)

font-short : (f : Font) (out : List ℕ) → ltb (length out) (font_size (font_version f)) ≡ true → (font_write_check f (length out) ≡ Err Size) × (font_written f out ≡ out)
unfolding font_write_check font_written
font-short f out t = rw (t, or-true (font_refused f)) (refl, refl)

-- with room for the groups no version is short of it
roomy : (file : List ℕ) → font_short file no_font ≡ false
roomy file = go (eqb (version_in file) 2)
  where
    go : (t : Bool) → (t && false) ≡ false
    go true = refl
    go false = refl

module _ (file : List ℕ) (bytes : Bytes file) (out : List ℕ) {a : FontAnswer} {f : Font}
    (read : (a ≡ font_for file no_font) × (f ≡ font_read file no_font)) where
  abbrev read-check : Checked
  read-check = font_check file false

  check-is : font_check file (font_short file no_font) ≡ read-check
  check-is = ap (font_check file) (roomy file)

  abbrev own : Answer
  own = record { refusal = a.refusal; beside = a.beside }

  own_is : own ≡ answer_of read-check
  own_is = ap (λ (x : FontAnswer). record { refusal = x.refusal; beside = x.beside }) read.0 ∙ ap answer_of check-is

  pub font-refused : (a.refusal ≡ 0 → ⊥) → (own ≡ answer_of (again_check read-check (font_size (version_in file)) (length out))) × (out ≡ written_again read-check (font_size (version_in file)) file out)
  font-refused e = read-stops read-check (font_size (version_in file)) file out own_is e

  -- as many groups as the file has
  pub groups-are : a.refusal ≡ 0 → a.groups ≡ group_count (version_in file)
  groups-are e = ap (λ (x : FontAnswer). x.groups) read.0 ∙ rw (check-is ∙ answer-done _ own_is e)

  pub font-wrote : a.refusal ≡ 0 → {g : List ℕ} → g ≡ take a.groups f.groups → {w : Checked} {out' : List ℕ}
      → (w ≡ font_write_check (font_of f.words f.flags f.unshifted f.shifted g) (length out)) × (out' ≡ font_written (font_of f.words f.flags f.unshifted f.shifted g) out)
      → {n k : ℕ} → n ≡ number_of w → k ≡ beside_of w
      → (record { refusal = n; beside = k } ≡ answer_of (again_check read-check (font_size (version_in file)) (length out))) × (out' ≡ written_again read-check (font_size (version_in file)) file out)
  font-wrote e {g} ge {w} {out'} write number beside =
      let ok : read-check ≡ unrefused = answer-done _ own_is e in
      let own-font : font_of f.words f.flags f.unshifted f.shifted g ≡ file_font file (font_read file no_font) =
      ap (λ (x : List ℕ). font_of f.words f.flags f.unshifted f.shifted x) (ge ∙ ap (λ (k : ℕ). take k f.groups) (groups-are e)) ∙ ap (file_font file) read.1 in
      let version = version-kept file no_font (check-is ∙ ok) in
      wrote (font_size (version_in file)) file out ok (λ i. record { refusal = number i; beside = beside i })
      (λ l. let s = font-same file no_font (check-is ∙ ok) bytes out l in (write.0 ∙ rw own-font s.0, write.1 ∙ rw own-font s.1))
      (λ t. let s = font-short (file_font file (font_read file no_font)) out (ap (λ (v : ℕ). ltb (length out) (font_size v)) version ∙ t) in (write.0 ∙ rw own-font s.0, write.1 ∙ rw own-font s.1))
