-- Round trip. Assumes nothing.
--     bytes-again    a page that is read, written again, is the same bytes
--     version-again  and its version is the same
--     page-again     a page file's parts, written again, are the same bytes
--     page-kept      a page that is written, read again, is that page with its version as it counts
--     kept_same      which is the page itself where its version is known
--     kept-check     and which is refused as the page is
use Prim.Native.Nat.{ℕ, ◌+◌, ◌-◌, ◌*◌, ◌/◌, ◌%◌, ◌<◌, ◌≤◌}
use Rattle.std.specs.Prelude.{◌≡◌, Bool, true, false, not, ◌&&◌, ◌||◌, eqb, ltb, replicate}
use Rattle.std.proofs.Math.Path.{refl, sym, ap}
use Rattle.std.proofs.Common.{◌∙◌, arith, eqb-true, length-drop, take-append-drop, drop-drop, take-add, take_all, drop_at, get_or-take, get_or-drop, get_or-append-add}
use mathlib.Core.List.{List, [], ◌∷◌, ◌++◌, append_assoc}
use Rattle.std.proofs.Math.Decide.{dec_lt}
use Rattle.std.proofs.lemmas.Bool.{eqb-false}
use Rattle.std.proofs.Math.ListN.{length, get_or, take, drop, get_or-append, get_or-eq_default}
use Rattle.std.proofs.lemmas.List.{length-replicate, get_or-replicate}
use Rattle.std.proofs.Math.Seq.{take_at}
use Rattle.lists.specs.Choice.{pick, within}
use Rattle.lists.specs.Tab.{tab, tab-part}
use Rattle.units.specs.Units.{dots}
use Rattle.board.specs.declared.Page.{Page}
use Rattle.board.specs.declared.Layout.{Layout}
use Rattle.board.specs.Layout.{newest_version, layout_of, page_length, length_field, chars_place, attrs_place, file_size}
use Rattle.board.specs.Parts.{with_version, with_video}
use Rattle.board.specs.Modes.{has_modes, version_of}
use Rattle.board.specs.Range.{address_refused}
use Rattle.board.specs.Laws.{layout-fits, layout-kept}
use Rattle.timing.specs.Fields.{coded_of, table_of, hbp_of}
use Rattle.timing.specs.Check.{page_check}
use Rattle.files.specs.Page.{word_at, version_in, irs_in, irs_at, chip_at, page_at, long_bytes, tail_of, page_bytes, video_of, kept_video, kept_page}
use Rattle.files.specs.File.{long_at, version_refused, head_of, file_of}
use Rattle.copies.specs.Put.{length_part}
use Rattle.files.specs.Laws.{version-known, irs-whole, tail-long, tail_all, front-all}

-- a byte from a place on, or of what is left
module _ (f : List ℕ) (at : ℕ) where
  pub byte : (k j : ℕ) → j ≡ at + k → get_or f j 0 ≡ get_or (drop at f) k 0
  byte k j e = rw e (sym (get_or-drop at f k 0))

-- a list of bytes
abbrev pub Bytes : List ℕ → Type 0
Bytes f = (i : ℕ) → get_or f i 0 < 256

module _ (f : List ℕ) (fits : Bytes f) where
  pub word-high : (i : ℕ) → word_at f i / 256 ≡ get_or f i 0
  unfolding word_at
  word-high i = omega (arith, fits (i + 1))

  pub word_low : (i : ℕ) → word_at f i % 256 ≡ get_or f (i + 1) 0
  unfolding word_at
  word_low i = omega (arith, fits (i + 1))

  -- the four bytes of a length
  length-bytes : (long_at f 1 / 65536 / 256 ≡ get_or f 1 0) × (long_at f 1 / 65536 % 256 ≡ get_or f 2 0)
      × (long_at f 1 % 65536 / 256 ≡ get_or f 3 0) × (long_at f 1 % 65536 % 256 ≡ get_or f 4 0)
  unfolding long_at word_at
  length-bytes =
      (omega (arith, fits 1, fits 2, fits 3, fits 4), omega (arith, fits 1, fits 2, fits 3, fits 4), omega (arith, fits 1, fits 2, fits 3, fits 4), omega (arith, fits 1, fits 2, fits 3, fits 4))

  -- version and length
  pub front-again : (n : ℕ) → length f ≡ n + 5 → long_at f 1 ≡ n → take 5 f ≡ version_in f ∷ long_bytes n
  unfolding tab
  front-again n a e =
      let b = length-bytes in
      let front : take 5 f ≡ tab 5 (λ i. get_or f (0 + i) 0) = sym (tab-part f 0 5 (omega (arith, a))) in
      rw (front, sym e, b.0, b.1, b.2, b.3)

  -- what stands behind the IRs
  nine-again : (at : ℕ) → at + page_length (version_in f) ≤ length f → take 9 (tail_of (page_at f at)) ≡ take 9 (drop (at + irs_in f) f)
  unfolding tail_of page_at tab
  nine-again at l =
      let start = at + irs_in f in
      let rest : List ℕ = drop start f in
      let room : 9 ≤ length rest = rw (length-drop start f) (omega (arith, l, (layout-fits (version_in f)).rest_some)) in
      let tail : take 9 rest ≡ tab 9 (λ i. get_or rest (0 + i) 0) = sym (tab-part rest 0 9 room) in
      rw (tail, word-high start, word_low start, word-high (start + 2), word_low (start + 2), word-high (start + 4), word_low (start + 4))
      (rw (
        byte f start 0 start (omega arith),
        byte f start 1 (start + 1) (omega arith),
        byte f start 2 (start + 2) (omega arith),
        byte f start 3 (start + 2 + 1) (omega arith),
        byte f start 4 (start + 4) (omega arith),
        byte f start 5 (start + 4 + 1) (omega arith),
        byte f start 6 (start + 6) (omega arith),
        byte f start 7 (start + 7) (omega arith),
        byte f start 8 (start + 8) (omega arith),
      ))

  -- and in version 3 the chip
  tail-again : (at : ℕ) → at + page_length (version_in f) ≤ length f
      → take (layout_of (version_in f)).rest (tail_of (page_at f at)) ≡ take (layout_of (version_in f)).rest (drop (at + irs_in f) f)
  unfolding layout_of tail_of page_at tab
  tail-again at l = go (eqb (version_in f) 3) refl (omega (arith, l))
    where
      rest : List ℕ
      rest = drop (at + irs_in f) f

      chip : ℕ
      chip = (page_at f at).video.chip

      ten : tail_of (page_at f at) ≡ take 9 (tail_of (page_at f at)) ++ (chip ∷ [])
      ten = refl

      chip-is : eqb (version_in f) 3 ≡ true → chip ≡ get_or rest 9 0
      chip-is e = rw e (byte f (at + irs_in f) 9 (at + irs_in f + 9) (omega arith))

      one : 10 ≤ length rest → take 1 (drop 9 rest) ≡ get_or rest 9 0 ∷ []
      one room = sym (tab-part rest 9 1 (omega arith))

      long : {n : ℕ} → at + (15 + n) ≤ length f → n ≤ length rest
      long h = rw (length-drop (at + irs_in f) f) (omega arith)

      go : (t : Bool) → eqb (version_in f) 3 ≡ t → at + (15 + pick t 10 9) ≤ length f → take (pick t 10 9) (tail_of (page_at f at)) ≡ take (pick t 10 9) rest
      go false e h = nine-again at l
      go true e h =
          let all : take 10 (tail_of (page_at f at)) ≡ tail_of (page_at f at) = take_all 10 (tail_of (page_at f at)) (rw (tail-long (page_at f at)) (omega arith)) in
          all ∙ ten
          ∙ ap (λ (x : List ℕ). x ++ (chip ∷ [])) (nine-again at l)
          ∙ ap (λ (x : ℕ). take 9 rest ++ (x ∷ [])) (chip-is e)
          ∙ ap (λ (x : List ℕ). take 9 rest ++ x) (sym (one (long h)))
          ∙ sym (take-add 9 1 rest)

  -- a page that is read, written again, is the same bytes
  pub bytes-again : (at : ℕ) → at + page_length (version_in f) ≤ length f → page_bytes (page_at f at) ≡ take (page_length (version_in f)) (drop at f)
  unfolding page_at
  bytes-again at l =
      let n = irs_in f in
      let irs = take_at (take n (drop at f)) (replicate (15 - n) 0) n (length_part f at n (omega (arith, l))) in
      rw irs
      (ap (λ (t : List ℕ). take n (drop at f) ++ t) (tail-again at l ∙ ap (take (layout_of (version_in f)).rest) (sym (drop-drop n at f)))
      ∙ sym (take-add n (layout_of (version_in f)).rest (drop at f)))

-- each IR of a page that is read is a byte
pub ir-byte : (f : List ℕ) → Bytes f → (at i : ℕ) → at + page_length (version_in f) ≤ length f → get_or (page_at f at).irs i 0 < 256
unfolding page_at
ir-byte f fits at i l = go (dec_lt i (irs_in f))
  where
    n : ℕ
    n = irs_in f

    front : List ℕ
    front = take n (drop at f)

    zeros : List ℕ
    zeros = replicate (15 - n) 0

    all : length front ≡ n
    all = length_part f at n (omega (arith, l))

    zero : (k m : ℕ) → Dec (m < k) → get_or (replicate {A = ℕ} k 0) m 0 ≡ 0
    zero k m (yes h) = get_or-replicate k m 0 0 h
    zero k m (no h) = get_or-eq_default (replicate k 0) 0 (omega (arith, h, length-replicate {A = ℕ} k 0))

    go : Dec (i < n) → get_or (front ++ zeros) i 0 < 256
    go (yes h) = rw (get_or-append front zeros 0 i (rw all h), get_or-take n (drop at f) i 0 h, get_or-drop at f i 0) (fits (at + i))
    go (no h) =
        let k : i ≡ length front + (i - n) = omega (arith, all, h) in
        rw (k, get_or-append-add front zeros (i - n) 0, zero (15 - n) (i - n) (dec_lt (i - n) (15 - n))) (omega arith)

-- a part of a file and what follows it
pub on : (f : List ℕ) (a n : ℕ) → take n (drop a f) ++ drop (a + n) f ≡ drop a f
on f a n = rw (sym (drop-drop n a f)) (take-append-drop n (drop a f))

-- ---- versions

version-same : (v : ℕ) → 1 ≤ v → v ≤ newest_version → pick (has_modes v) v 1 ≡ v
version-same v a b = go (eqb v 2) refl (eqb v 3) refl
  where
    go : (t : Bool) → eqb v 2 ≡ t → (u : Bool) → eqb v 3 ≡ u → pick (t || u) v 1 ≡ v
    go true e u q = refl
    go false e true q = refl
    go false e false q = omega (arith, a, b, eqb-false v 2 e, eqb-false v 3 q)

-- the version of a page that is read, written again
pub version-again : (f : List ℕ) (at : ℕ) → version_refused f newest_version ≡ false → version_of (page_at f at) ≡ version_in f
unfolding page_at
version-again f at e = let k = version-known f newest_version e in version-same (version_in f) k.0 k.1

-- a chip counts in version 3 alone
pub kept_same : (p : Page) → 1 ≤ p.version → p.version ≤ newest_version → (eqb p.version 3 ≡ false → p.video.chip ≡ 0) → kept_page p ≡ p
kept_same p a b c =
    ap (λ (v : ℕ). with_video (with_version p v) (kept_video p)) (version-same p.version a b) ∙ ap (λ (k : ℕ). with_video p (video_of p.video.dots.0 p.video.strike k)) (chip (eqb p.version 3) refl)
  where
    chip : (t : Bool) → eqb p.version 3 ≡ t → pick t p.video.chip 0 ≡ p.video.chip
    chip true e = refl
    chip false e = sym (c e)

-- what is written is known, and is 2 or 3 where the version is
pub written_known : (p : Page) → not (within 1 newest_version (version_of p)) ≡ false
written_known p = go (eqb p.version 2) refl (eqb p.version 3) refl
  where
    go : (t : Bool) → eqb p.version 2 ≡ t → (u : Bool) → eqb p.version 3 ≡ u → not (within 1 newest_version (pick (t || u) p.version 1)) ≡ false
    go true e u q = rw (eqb-true p.version 2 e)
    go false e true q = rw (eqb-true p.version 3 q)
    go false e false q = refl

kept_by : (v : ℕ) (two three : Bool) → eqb v 2 ≡ two → eqb v 3 ≡ three → (eqb (pick (two || three) v 1) 2 ≡ two) × (eqb (pick (two || three) v 1) 3 ≡ three)
kept_by v true three e q = (e, q)
kept_by v false true e q = (e, q)
kept_by v false false e q = (refl, refl)

pub kept-two : (p : Page) → eqb (version_of p) 2 ≡ eqb p.version 2
kept-two p = (kept_by p.version _ _ refl refl).0

pub kept-three : (p : Page) → eqb (version_of p) 3 ≡ eqb p.version 3
kept-three p = (kept_by p.version _ _ refl refl).1

pub kept-check : (p : Page) → page_check (kept_page p) ≡ page_check p
unfolding page_check address_refused coded_of table_of hbp_of
kept-check p = rw (kept-two p, kept-three p, chip (eqb p.version 3) p.video.chip)
  where
    chip : (t : Bool) (k : ℕ) → (t && ltb 1 (pick t k 0)) ≡ (t && ltb 1 k)
    chip true k = refl
    chip false k = refl

-- ---- the whole file

-- a page file's parts, written again, are the same bytes
pub page-again : (f : List ℕ) → Bytes f → length f ≡ file_size (version_in f) → version_refused f newest_version ≡ false → long_at f 1 ≡ length_field (version_in f)
    → file_of (page_at f 5) (take 16384 (drop (chars_place (version_in f)) f)) (take 16384 (drop (attrs_place (version_in f)) f)) ≡ f
unfolding file_of head_of page_at
page-again f fits n v e =
    let attrs = attrs_place (version_in f) in
    let chars = chars_place (version_in f) in
    let last : take 16384 (drop attrs f) ≡ drop attrs f = take_all 16384 (drop attrs f) (rw (length-drop attrs f) (omega (arith, n))) in
    let behind : 5 + page_length (version_in f) ≡ chars = omega arith in
    let page : take (page_length (version_in f)) (drop 5 f) ++ drop chars f ≡ drop 5 f = rw (sym behind) (on f 5 (page_length (version_in f))) in
    rw (version-again f 5 v, bytes-again f fits 5 (omega (arith, n)), last, on f chars 16384, page)
    (ap (λ (x : List ℕ). x ++ drop 5 f) (sym (front-again f fits (length_field (version_in f)) n e)) ∙ take-append-drop 5 f)

pub word_kept : (x : ℕ) → x / 256 * 256 + x % 256 ≡ x
word_kept x = omega arith

-- a page that is written, read again, is the page that is kept
pub page-kept : (p : Page) (rest : List ℕ) → length p.irs ≡ 15
    → (f : List ℕ) (at : ℕ) → version_in f ≡ version_of p → drop at f ≡ page_bytes p ++ rest → page_at f at ≡ kept_page p
unfolding layout_of tail_of page_at word_at
page-kept p rest n f at v e = λ i. record {
  version = v i;
  irs = irs-kept i;
  starts = record {
    start1 = (both 0 (at + irs_in f) (omega arith) (omega (arith, as_many)) ∙ word_kept p.starts.start1) i;
    cursor = (both 2 (at + irs_in f + 2) (omega arith) (omega (arith, as_many)) ∙ word_kept p.starts.cursor) i;
    start2 = (both 4 (at + irs_in f + 4) (omega arith) (omega (arith, as_many)) ∙ word_kept p.starts.start2) i;
  };
  switches = nine 6 (at + irs_in f + 6) (omega arith) (omega (arith, as_many)) i;
  video = record {
    dots = dots (nine 7 (at + irs_in f + 7) (omega arith) (omega (arith, as_many)) i);
    strike = nine 8 (at + irs_in f + 8) (omega arith) (omega (arith, as_many)) i;
    chip = chip-kept i;
  };
}
  where
    m : ℕ
    m = (layout_of p.version).irs

    irs : List ℕ
    irs = take m p.irs

    rested : ℕ
    rested = (layout_of p.version).rest

    tail : List ℕ
    tail = take rested (tail_of p)

    as_many : irs_in f ≡ m
    as_many = ap (λ (k : ℕ). (layout_of k).irs) v ∙ ap (λ (l : Layout). l.irs) (layout-kept p)

    parts : drop at f ≡ irs ++ (tail ++ rest)
    parts = e ∙ append_assoc irs tail rest

    irs-kept : irs_at (irs_in f) f at ≡ p.irs
    irs-kept =
        ap (λ (k : ℕ). irs_at k f at) as_many
        ∙ ap (λ (l : List ℕ). l ++ replicate (15 - m) 0) (ap (take m) parts ∙ take_at irs (tail ++ rest) m (front-all p n))
        ∙ irs-whole p.version p.irs n

    -- a byte of the tail, of the nine or ten that the version has
    past : (k j : ℕ) → k < rested → j ≡ at + (m + k) → get_or f j 0 ≡ get_or (tail_of p) k 0
    past k j l q =
        byte f at (m + k) j q
        ∙ rw parts (sym (get_or-drop m (irs ++ (tail ++ rest)) k 0) ∙ rw (drop_at irs (tail ++ rest) m (front-all p n)))
        ∙ get_or-append tail rest 0 k (rw (tail_all p) l)
        ∙ get_or-take rested (tail_of p) k 0 l

    nine : (k j : ℕ) → k < 9 → j ≡ at + (m + k) → get_or f j 0 ≡ get_or (tail_of p) k 0
    nine k j l q = past k j (omega (arith, l, (layout-fits p.version).rest_some)) q

    both : (k j : ℕ) → k < 8 → j ≡ at + (m + k) → get_or f j 0 * 256 + get_or f (j + 1) 0 ≡ get_or (tail_of p) k 0 * 256 + get_or (tail_of p) (k + 1) 0
    both k j l q = rw (nine k j (omega arith) q, nine (k + 1) (j + 1) (omega arith) (omega (arith, q)))

    chip-kept : chip_at (version_in f) f (at + irs_in f + 9) ≡ pick (eqb p.version 3) p.video.chip 0
    chip-kept = ap (λ (t : Bool). pick t (get_or f (at + irs_in f + 9) 0) 0) (ap (λ (k : ℕ). eqb k 3) v ∙ kept-three p) ∙ by (eqb p.version 3) refl
      where
        by : (t : Bool) → eqb p.version 3 ≡ t → pick t (get_or f (at + irs_in f + 9) 0) 0 ≡ pick t p.video.chip 0
        by true e = past 9 (at + irs_in f + 9) (rw e (omega arith)) (omega (arith, as_many))
        by false e = refl
