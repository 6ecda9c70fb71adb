-- A list given element by element, and the loop that stores it: after i turns the buffer is `tab i f ++ drop i d`. Assumes nothing.
--     tab                      f 0, f 1, .., n of them
--     length-tab, get_or-tab     how many there are, and each one
--     same-tab                 elements that agree one by one make the same list
--     tab-turn, tab-upto, tab-ends     one turn of such a loop, its end at n, and at the end of the buffer, as a loop's proof asks for them
--     tab-part                 where f reads a list from a place on, it is a part of that list
use Rattle.std.specs.Prelude.{◌≡◌, refl, List, [], ◌∷◌, ◌++◌, ℕ, zero, suc, ◌+◌, ◌<◌, ◌≤◌, length, get_or, set, take, drop}
use Rattle.std.proofs.Common.{sym, ap, ap₂, ◌∙◌, subst, append-nil, ⊎_elim, eq-or-lt_of_le, le_of_suc-le-suc, add-one, arith, length-append, length-drop, drop-cons, ext_get_or, length-take-le, get_or-take, get_or-drop}
use Rattle.std.proofs.Math.ListN.{get_or-append}
use Rattle.std.proofs.lemmas.List.{set_at, get_or_at}
use Rattle.std.proofs.Math.Seq.{append_snoc, drop-length}

unfoldable pub tab : ℕ → (ℕ → ℕ) → List ℕ
tab zero f = []
tab (suc n) f = tab n f ++ (f n ∷ [])

pub length-tab : (n : ℕ) (f : ℕ → ℕ) → length (tab n f) ≡ n
unfolding tab
length-tab zero f = refl
length-tab (suc n) f = length-append (tab n f) (f n ∷ []) ∙ ap (λ (k : ℕ). k + 1) (length-tab n f) ∙ add-one n

pub get_or-tab : (n : ℕ) (f : ℕ → ℕ) (i : ℕ) → i < n → get_or (tab n f) i 0 ≡ f i
unfolding tab
get_or-tab zero f i l = absurd (omega (arith, l))
get_or-tab (suc n) f i l = ⊎_elim at_last (λ h. before h (get_or-tab n f i h)) (eq-or-lt_of_le (le_of_suc-le-suc l))
  where
    at_last : i ≡ n → get_or (tab (suc n) f) i 0 ≡ f i
    at_last e = subst (λ (k : ℕ). get_or (tab (suc n) f) k 0 ≡ f k) (sym e) (get_or_at (tab n f) (f n) [] 0 n (length-tab n f))

    before : i < n → get_or (tab n f) i 0 ≡ f i → get_or (tab (suc n) f) i 0 ≡ f i
    before h e = get_or-append (tab n f) (f n ∷ []) 0 i (rw (length-tab n f) h) ∙ e

pub same-tab : (n : ℕ) (f g : ℕ → ℕ) → ((i : ℕ) → i < n → f i ≡ g i) → tab n f ≡ tab n g
unfolding tab
same-tab zero f g h = refl
same-tab (suc n) f g h = ap₂ (λ (l : List ℕ) (x : ℕ). l ++ (x ∷ [])) (same-tab n f g (λ i l. h i (omega arith))) (h n (omega arith))

stored : (n : ℕ) (f : ℕ → ℕ) (d : List ℕ) → n < length d → set (tab n f ++ drop n d) n (f n) ≡ tab (n + 1) f ++ drop (n + 1) d
unfolding tab
stored n f d l =
    rw add-one
    (ap (λ (t : List ℕ). set (tab n f ++ t) n (f n)) (drop-cons d n 0 l)
    ∙ set_at (tab n f) (get_or d n 0) (drop (suc n) d) (f n) n (length-tab n f)
    ∙ sym (append_snoc (tab n f) (f n) (drop (suc n) d)))

module _ (f : ℕ → ℕ) (d₀ d : List ℕ) (i : ℕ) (e : d ≡ tab i f ++ drop i d₀) where
  pub tab-turn : (v : ℕ) → i < length d₀ → v ≡ f i → set d i v ≡ tab (i + 1) f ++ drop (i + 1) d₀
  tab-turn v l q = rw (e, q) (stored i f d₀ l)

  pub tab-upto : (n : ℕ) → i ≤ n → n ≤ i → d ≡ tab n f ++ drop n d₀
  tab-upto n l h =
      let q : i ≡ n = omega arith in
      rw q at e

  pub tab-ends : i ≡ length d₀ → d ≡ tab (length d₀) f
  tab-ends q = e ∙ rw (q, drop-length d₀) (append-nil (tab (length d₀) f))

pub tab-part : (xs : List ℕ) (a n : ℕ) → a + n ≤ length xs → tab n (λ i. get_or xs (a + i) 0) ≡ take n (drop a xs)
tab-part xs a n l =
    ext_get_or 0 (tab n f) (take n (drop a xs)) (length-tab n f ∙ sym (length-take-le n (drop a xs) room)) same
  where
    f : ℕ → ℕ
    f i = get_or xs (a + i) 0

    room : n ≤ length (drop a xs)
    room = rw (length-drop a xs) (omega arith)

    same : (i : ℕ) → i < length (tab n f) → get_or (tab n f) i 0 ≡ get_or (take n (drop a xs)) i 0
    same i h =
        let k : i < n = rw (length-tab n f) at h in
        get_or-tab n f i k ∙ sym (get_or-take n (drop a xs) i 0 k ∙ get_or-drop a xs i 0)
