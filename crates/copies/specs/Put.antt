-- Parts taken out of a buffer, and parts put into one, one after the other. Assumes nothing.
--     whole          a copy over a list of the same length
--     length_part    a part that lies inside has its length
--     put_at          a part put at a place
--     put_back       a lent stretch that came back is such a part
--     Laid           what stands at the front so far
--     put_on         one part more, behind it
--     laid-all       the parts fill the buffer
--     put_both       two parts put one behind the other are one part
--     drop-same      what is left of a list of one number
use Rattle.std.specs.Prelude.{ℕ, ◌+◌, ◌-◌, ◌≤◌, ◌≡◌, refl, List, [], ◌++◌, length, take, drop, replicate}
use Rattle.std.proofs.Common.{sym, ap, ◌∙◌, append-nil, append_assoc, arith, length-drop, length-append, take-append-drop, drop_of_length-le, take_at, drop_at, drop-drop, length-take-le}
use Rattle.std.proofs.lemmas.List.{length-replicate, replicate-append-replicate}
use Rattle.std.proofs.Math.Seq.{take-length, drop-length}

pub whole : (s d x : List ℕ) → length s ≡ length d → x ≡ take (length s) s ++ drop (length s) d → x ≡ s
whole s d x l e = e ∙ rw (take-length s, l, drop-length d) (append-nil s)

pub length_part : (xs : List ℕ) (a n : ℕ) → a + n ≤ length xs → length (take n (drop a xs)) ≡ n
length_part xs a n l = length-take-le n (drop a xs) (rw (length-drop a xs) (omega arith))

-- as much as dst holds, from a place on
abbrev pub taken_from : (at : ℕ) (src dst : List ℕ) → List ℕ
taken_from at src dst = take (length dst) (drop at src)

-- all of part over what stands from a place on; the rest stays
abbrev pub put_at : (at : ℕ) (part out : List ℕ) → List ℕ
put_at at part out = take at out ++ (part ++ drop (at + length part) out)

pub put_back : (at k : ℕ) (part out : List ℕ) {ys : List ℕ} → ys ≡ part → length part ≡ k → take at out ++ (ys ++ drop (at + k - at) (drop at out)) ≡ put_at at part out
put_back at k part out e n =
    let j : at + (at + k - at) ≡ at + length part = omega (arith, n) in
    rw (e, drop-drop (at + k - at) at out, j)

-- a buffer that begins with n bytes of front and beyond them is as it was
abbrev pub Laid : (front : List ℕ) (n : ℕ) (out₀ out : List ℕ) → Type 0
Laid front n out₀ out = (length front ≡ n) × (out ≡ front ++ drop n out₀)

pub laid_none : (out : List ℕ) → Laid [] 0 out out
laid_none out = (refl, refl)

pub put_on : (front part out₀ : List ℕ) (at k : ℕ) {out out' : List ℕ} → Laid front at out₀ out → length part ≡ k → out' ≡ put_at at part out → Laid (front ++ part) (at + k) out₀ out'
put_on front part out₀ at k l n e = (length-append front part ∙ rw (l.0, n), e ∙ rw (l.1, n, rest) body)
  where
    d : List ℕ
    d = drop at out₀

    rest : drop (at + k) (front ++ d) ≡ drop (at + k) out₀
    rest = sym (drop-drop k at (front ++ d)) ∙ rw (drop_at front d at l.0) (drop-drop k at out₀)

    body : take at (front ++ d) ++ (part ++ drop (at + k) out₀) ≡ (front ++ part) ++ drop (at + k) out₀
    body = rw (take_at front d at l.0) (sym (append_assoc front part (drop (at + k) out₀)))

pub laid-all : (front out₀ : List ℕ) (n : ℕ) {out : List ℕ} → Laid front n out₀ out → length out₀ ≡ n → out ≡ front
laid-all front out₀ n l e = l.1 ∙ rw (drop_of_length-le out₀ {i = n} (omega (arith, e))) (append-nil front)

pub put_both : (a b out : List ℕ) (at k : ℕ) {one two : List ℕ} → at ≤ length out → length a ≡ k → one ≡ put_at at a out → two ≡ put_at (at + k) b one
    → two ≡ put_at at (a ++ b) out
put_both a b out at k room n e₁ e₂ =
    let l₁ = put_on (take at out) a out at k (length-take-le at out room, sym (take-append-drop at out)) n e₁ in
    let l₂ = put_on (take at out ++ a) b out (at + k) (length b) l₁ refl e₂ in
    let far : at + length (a ++ b) ≡ at + k + length b = omega (arith, length-append a b, n) in
    l₂.1 ∙ rw far (ap (λ (l : List ℕ). l ++ drop (at + k + length b) out) (append_assoc (take at out) a b) ∙ append_assoc (take at out) (a ++ b) (drop (at + k + length b) out))

pub drop-same : (n k x : ℕ) → n ≤ k → drop n (replicate k x) ≡ replicate (k - n) x
drop-same n k x l =
    let all : k ≡ n + (k - n) = omega arith in
    ap (λ (m : ℕ). drop n (replicate m x)) all ∙ ap (drop n) (sym (replicate-append-replicate n (k - n) x)) ∙ drop_at (replicate n x) (replicate (k - n) x) n (length-replicate n x)
