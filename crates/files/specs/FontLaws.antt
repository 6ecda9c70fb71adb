-- What the proofs of the font calls use. Assumes nothing.
use Rattle.std.specs.Prelude.{ℕ, ◌+◌, ◌-◌, ◌≤◌, ◌≡◌, refl, Bool, true, false, ◌&&◌, ◌||◌, List, [], ◌++◌, eqb, ltb, length, take, drop, is_ok, Err}
use Rattle.std.proofs.Common.{ap, ◌∙◌, true≢false, append_assoc, arith, eqb-true, ltb-false, length-drop, take_all}
use Rattle.lists.specs.Choice.{pick, neither, pick-le}
use Rattle.lists.specs.Tab.{tab, length-tab}
use Rattle.refusal.specs.declared.Refusal.TheVariants.{Size}
use Rattle.refusal.specs.Number.{unrefused}
use Rattle.refusal.specs.Laws.{passed}
use Rattle.shape.specs.Font.{Font, font_of, font_refused, groups_check, Whole}
use Rattle.shape.specs.Laws.{font-whole}
use Rattle.copies.specs.Put.{length_part, put_at, laid_none, put_on}
use Rattle.files.specs.Page.{version_in}
use Rattle.files.specs.FontFile.{words_of, byte_of, bytes_in, group_count, font_length, font_size, file_groups, font_short, font_check, font_in, font_read, font_version, font_head, font_file_of, font_write_check, font_written}
use Rattle.files.specs.Laws.{file-sized, file-passed}

-- how long a font file is, at least and at most
pub groups-most : (version : ℕ) → group_count version ≤ 16
groups-most version = pick-le 16 (eqb version 2) 16 0 (omega arith) (omega arith)

pub font-least : (file : List ℕ) → length file ≡ font_size (version_in file) → 2455 ≤ length file
font-least file n = omega (arith, n)

pub font-most : (version : ℕ) → font_size version ≤ 2471
font-most version = omega (arith, groups-most version)

-- the groups are the rest of a file of its size
pub groups-rest : (file : List ℕ) → length file ≡ font_size (version_in file) → file_groups file ≡ drop 2455 file
groups-rest file n = take_all (group_count (version_in file)) (drop 2455 file) (rw (length-drop 2455 file) (omega (arith, n)))

-- a font file that nothing refuses, and the font that it goes to
pub record FontTaken (file : List ℕ) (f : Font) : Type 0 where
  pub file-all : length file ≡ font_size (version_in file)
  pub whole : Whole f
  pub groups-room : version_in file ≡ 2 → length f.groups ≡ 16

pub font-passed : (file : List ℕ) (f : Font) → font_check file (font_short file f) ≡ unrefused → FontTaken file f
unfolding font_check
font-passed file f e =
    let p = file-passed file 2 (font_length (version_in file)) (font_short file f) (groups_check (file_groups file)) e in
    let s = neither (font_refused f) (eqb (version_in file) 2 && eqb (length f.groups) 0) p.size_ok in
    let w = font-whole f s.0 in
    record {
      file-all = file-sized file (font_length (version_in file)) p.length-ok;
      whole = w;
      groups-room = λ v. sixteen (eqb (length f.groups) 0) refl (rw v at s.1) w.groups-all;
    }
  where
    sixteen : (t : Bool) → eqb (length f.groups) 0 ≡ t → t ≡ false → (t || eqb (length f.groups) 16) ≡ true → length f.groups ≡ 16
    sixteen true q n g = absurd (true≢false n)
    sixteen false q n g = eqb-true _ _ g

-- what a read leaves
module _ (file : List ℕ) (f : Font) where
  pub font-done : is_ok (font_check file (font_short file f)) ≡ true → Whole f → (w : List ℕ) → w ≡ words_of (length f.words) (take 2304 (drop 5 file))
      → (g u s k : List ℕ) → g ≡ take 128 (drop 2309 file) → u ≡ take 9 (drop 2437 file) → s ≡ take 9 (drop 2446 file)
      → k ≡ pick (eqb (version_in file) 2) (file_groups file) f.groups → font_of w g u s k ≡ font_read file f
  unfolding font_read font_in
  font-done t all w ew g u s k eg eu es ek = rw (t, ew, all.words-all, eg, eu, es, ek)

  pub font-kept : is_ok (font_check file (font_short file f)) ≡ false → f ≡ font_read file f
  unfolding font_read
  font-kept t = rw t

-- ---- writing

pub words-put : (words out : List ℕ) (at : ℕ) → at + 2304 ≤ length out → tab (length (take (at + 2304 - at) (drop at out))) (byte_of words) ≡ bytes_in words
words-put words out at l =
    let k : at + 2304 - at ≡ 2304 = omega arith in
    rw (k, length_part out at 2304 l)

in_order : (a b c d e f : List ℕ) → ((((a ++ b) ++ c) ++ d) ++ e) ++ f ≡ a ++ (b ++ (c ++ (d ++ (e ++ f))))
in_order a b c d e f =
    append_assoc (((a ++ b) ++ c) ++ d) e f ∙ append_assoc ((a ++ b) ++ c) d (e ++ f) ∙ append_assoc (a ++ b) c (d ++ (e ++ f)) ∙ append_assoc a b (c ++ (d ++ (e ++ f)))

-- a whole font has as many groups as its version says
pub groups-sized : (f : Font) → Whole f → length f.groups ≡ group_count (font_version f)
groups-sized f w = go (eqb (length f.groups) 0) refl w.groups-all
  where
    go : (t : Bool) → eqb (length f.groups) 0 ≡ t → (t || eqb (length f.groups) 16) ≡ true → length f.groups ≡ group_count (pick t 1 2)
    go true e q = eqb-true _ _ e
    go false e q = eqb-true _ _ q

-- a font file put into a buffer part by part
pub font-put : (f : Font) → Whole f → (out : List ℕ) {head one two three four five six : List ℕ} → head ≡ font_head (font_version f)
    → one ≡ put_at 0 head out → two ≡ put_at 5 (bytes_in f.words) one
    → three ≡ put_at 2309 f.flags two → four ≡ put_at 2437 f.unshifted three → five ≡ put_at 2446 f.shifted four → six ≡ put_at 2455 f.groups five
    → six ≡ font_file_of f ++ drop (font_size (font_version f)) out
unfolding font_file_of
font-put f w out h e₁ e₂ e₃ e₄ e₅ e₆ =
    let v = font_version f in
    let head = font_head v in
    let b = bytes_in f.words in
    let end : 2455 + group_count v ≡ font_size v = omega arith in
    let l₁ = put_on [] head out 0 5 (laid_none out) refl (rw h at e₁) in
    let l₂ = put_on head b out 5 2304 l₁ (length-tab 2304 (byte_of f.words)) e₂ in
    let l₃ = put_on (head ++ b) f.flags out 2309 128 l₂ w.flags-all e₃ in
    let l₄ = put_on ((head ++ b) ++ f.flags) f.unshifted out 2437 9 l₃ w.unshifted-all e₄ in
    let l₅ = put_on (((head ++ b) ++ f.flags) ++ f.unshifted) f.shifted out 2446 9 l₄ w.shifted-all e₅ in
    let l₆ = put_on ((((head ++ b) ++ f.flags) ++ f.unshifted) ++ f.shifted) f.groups out 2455 (group_count v) l₅ (groups-sized f w) e₆ in
    rw end at l₆.1 ∙ ap (λ (x : List ℕ). x ++ drop (font_size v) out) (in_order head b f.flags f.unshifted f.shifted f.groups)

-- a write that nothing refuses
pub font-write-passed : (f : Font) (n : ℕ) → font_write_check f n ≡ unrefused → Whole f × (font_size (font_version f) ≤ n)
unfolding font_write_check
font-write-passed f n e =
    let p = passed (font_refused f || ltb n (font_size (font_version f))) (Err Size) _ refl e in
    let s = neither (font_refused f) (ltb n (font_size (font_version f))) p.0 in
    (font-whole f s.0, ltb-false _ _ s.1)

-- what a write leaves
module _ (f : Font) (out₀ : List ℕ) where
  pub font-write-done : is_ok (font_write_check f (length out₀)) ≡ true → {out : List ℕ} → out ≡ font_file_of f ++ drop (font_size (font_version f)) out₀ → out ≡ font_written f out₀
  unfolding font_written
  font-write-done t p = rw t p

  pub font-write-kept : is_ok (font_write_check f (length out₀)) ≡ false → out₀ ≡ font_written f out₀
  unfolding font_written
  font-write-kept t = rw t
