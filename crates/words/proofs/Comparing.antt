-- The count of compared letters is document 02's (`compared_iff`). It is at most b's length (`compared_most`), and b's length
-- exactly if b stands there or only its first letter differs (`compared_whole_iff`).
use mathlib.Core.Path.{◌≡◌, refl, sym, ◌∙◌, ap}
use mathlib.Core.Bool.{Bool, true, false}
use mathlib.Core.Logic.{◌↔◌, ◌⊎◌, inl, inr, ⊎_elim}
use mathlib.Core.List.{[], ◌∷◌, ◌++◌}
use Prim.Native.Nat.{ℕ, zero, suc, ◌+◌, ◌-◌, ◌<◌, ◌≤◌}
use native.Mathlib.Nat.{add-zero, zero-add, add-suc}
use native.Mathlib.Omega.{arith}
use lib.Dec.{eqb, leb}
use lib.ListN.{length, get_or, take, drop, length-append, length-drop}
use lib.Seq.{length-take-le, drop-length, drop-cons, split_at, drop_at, get_or-append_seam, get_or-append-add}
use borrow.Author.Tests.{eq-eqb, ne_eqb, eqb-true, eqb-false, le-leb, lt-leb, leb-true, leb-false}
use Rattle.words.specs.Word.{Word}
use Rattle.words.specs.Place.{Stands, compared_back, compared_at, Compared, past, all, differing, OnlyFirstDiffers}
use Rattle.words.proofs.Standing.{stands_ends, stands-letter, stands-empty}

-- what stands behind a letter stands with it one place before
stands-before : (e w : Word) (p : ℕ) → Stands e w (suc p) → Stands (get_or w p 0 ∷ e) w p
stands-before e w p s =
    let h : p < length w = omega (arith, stands_ends e w (suc p) s) in
    let d : drop (suc p) w ≡ e ++ s.right = sym (ap (drop (suc p)) s.fits) ∙ drop_at s.left (e ++ s.right) (suc p) s.place in
    record {
      left = take p w;
      right = s.right;
      place = length-take-le p w (omega arith);
      fits = sym (split_at w p 0 h ∙ ap (λ (v : Word). take p w ++ get_or w p 0 ∷ v) d);
    }

module _ (b w : Word) (i : ℕ) where
  -- b is compared from the end: as long as no letter differs, the letters behind the first n stand in w where b would have them.
  pub behind-all : i + length b ≤ length w → Stands (drop (length b) b) w (i + length b)
  behind-all h = rw (drop-length b) (stands-empty w (i + length b) h)

  -- the next letter is the same in both words, or it differs
  module _ (n : ℕ) (h : n < length b) (s : Stands (drop (suc n) b) w (i + suc n)) where
    before : Stands (get_or w (i + n) 0 ∷ drop (suc n) b) w (i + n)
    before = stands-before (drop (suc n) b) w (i + n) (rw (add-suc i n) at s)

    pub behind-same : get_or b n 0 ≡ get_or w (i + n) 0 → Stands (drop n b) w (i + n)
    behind-same e = rw (drop-cons b n 0 h, e) before

    pub behind-differs : (get_or b n 0 ≡ get_or w (i + n) 0 → ⊥) → Compared b w i (length b - n)
    behind-differs d =
        differing (take n b) (drop (suc n) b) (get_or b n 0) (get_or w (i + n) 0) (split_at b n 0 h)
        (rw (length-take-le n b (omega arith)) before) d (omega (arith, length-drop (suc n) b))

  compared_back_lem : (n : ℕ) → n ≤ length b → Stands (drop n b) w (i + n) → Compared b w i (compared_back b w i n + (length b - n))
  unfolding compared_back
  compared_back_lem zero h s = all (rw (add-zero i) at s) (omega arith)
  compared_back_lem (suc n) h s = go (eqb (get_or b n 0) (get_or w (i + n) 0)) refl (compared_back_lem n (omega arith))
    where
      go : (t : Bool) → eqb (get_or b n 0) (get_or w (i + n) 0) ≡ t
          → (Stands (drop n b) w (i + n) → Compared b w i (compared_back b w i n + (length b - n)))
          → Compared b w i (elim t [ true ↦ suc (compared_back b w i n) | false ↦ 1 ] + (length b - suc n))
      go true e rest =
          let c : suc (compared_back b w i n) + (length b - suc n) ≡ compared_back b w i n + (length b - n) = omega arith in
          rw c (rest (behind-same n (omega arith) s (eqb-true (get_or b n 0) (get_or w (i + n) 0) e)))
      go false e rest =
          let c : 1 + (length b - suc n) ≡ length b - n = omega arith in
          rw c (behind-differs n (omega arith) s (eqb-false (get_or b n 0) (get_or w (i + n) 0) e))

  compared_says : Compared b w i (compared_at b w i)
  unfolding compared_at
  compared_says = go (leb (i + length b) (length w)) refl
    where
      go : (t : Bool) → leb (i + length b) (length w) ≡ t → Compared b w i (elim t [ true ↦ compared_back b w i (length b) | false ↦ 0 ])
      go true e =
          let h = leb-true (i + length b) (length w) e in
          let c : compared_back b w i (length b) + (length b - length b) ≡ compared_back b w i (length b) = omega arith in
          rw c at (compared_back_lem (length b) (omega arith) (behind-all h))
      go false e = past (leb-false (i + length b) (length w) e) refl

  -- d letters that are the same in both words, behind the first n of b, count d
  same_back : (n d : ℕ) → ((j : ℕ) → n ≤ j → j < n + d → get_or b j 0 ≡ get_or w (i + j) 0) → compared_back b w i (n + d) ≡ d + compared_back b w i n
  unfolding compared_back
  same_back n zero s = rw (add-zero n) (omega arith)
  same_back n (suc d) s =
      rw (add-suc n d, compared_back, eq-eqb (get_or b (n + d) 0) (get_or w (i + (n + d)) 0) (s (n + d) (omega arith) (omega arith)))
      (ap suc (same_back n d (λ j l h. s j l (omega arith))) ∙ omega arith)

  compared_fits : i + length b ≤ length w → compared_at b w i ≡ compared_back b w i (length b)
  unfolding compared_at
  compared_fits h = rw (compared_at, le-leb (i + length b) (length w) h)

  said_compared : (n : ℕ) → Compared b w i n → compared_at b w i ≡ n
  unfolding compared_at compared_back
  said_compared n (past h e) = rw (compared_at, lt-leb (i + length b) (length w) h) (sym e)
  said_compared n (all s e) =
      compared_fits (stands_ends b w i s)
      ∙ ap (compared_back b w i) (sym (zero-add (length b)))
      ∙ same_back 0 (length b) (λ j l h. sym (stands-letter b w i s j (omega arith)))
      ∙ omega arith
  said_compared n (differing front back x y p s d e) = compared_fits fits ∙ ap (compared_back b w i) long ∙ same_back (suc (length front)) (length back) same ∙ last
    where
      long : length b ≡ suc (length front) + length back
      long = omega (arith, ap length p, length-append front (x ∷ back))

      fits : i + length b ≤ length w
      fits = omega (arith, long, stands_ends (y ∷ back) w (i + length front) s)

      same : (j : ℕ) → suc (length front) ≤ j → j < suc (length front) + length back → get_or b j 0 ≡ get_or w (i + j) 0
      same j l h =
          let m : j ≡ length front + suc (j - suc (length front)) = omega arith in
          let k : i + j ≡ i + length front + suc (j - suc (length front)) = omega arith in
          ap (λ (v : Word). get_or v j 0) p
          ∙ ap (λ (q : ℕ). get_or (front ++ x ∷ back) q 0) m
          ∙ get_or-append-add front (x ∷ back) (suc (j - suc (length front))) 0
          ∙ sym (ap (λ (q : ℕ). get_or w q 0) k ∙ stands-letter (y ∷ back) w (i + length front) s (suc (j - suc (length front))) (omega arith))

      last : length back + compared_back b w i (suc (length front)) ≡ n
      last =
          let z : get_or b (length front) 0 ≡ x = rw p (get_or-append_seam front x back 0) in
          let v : get_or w (i + length front) 0 ≡ y = rw (add-zero (i + length front)) at (stands-letter (y ∷ back) w (i + length front) s 0 (omega arith)) in
          rw (compared_back, z, v, ne_eqb x y d) (omega arith)

  -- the count is document 02's
  pub compared_iff : (n : ℕ) → (compared_at b w i ≡ n) ↔ Compared b w i n
  compared_iff n = (λ e. rw e at compared_says, said_compared n)

  -- it is at most b's length
  pub compared_most : compared_at b w i ≤ length b
  compared_most = go (compared_at b w i) compared_says
    where
      go : (n : ℕ) → Compared b w i n → n ≤ length b
      go n (past h e) = omega arith
      go n (all s e) = omega arith
      go n (differing front back x y p s d e) = omega (arith, ap length p, length-append front (x ∷ back))

  -- it is b's length exactly if b stands there or only its first letter differs, but for the empty word behind the end of w
  pub compared_whole_iff : (1 ≤ length b) ⊎ (i ≤ length w) → (compared_at b w i ≡ length b) ↔ (Stands b w i ⊎ OnlyFirstDiffers b w i)
  compared_whole_iff h = (λ e. whole (rw e at compared_says), from)
    where
      whole : Compared b w i (length b) → Stands b w i ⊎ OnlyFirstDiffers b w i
      whole (past k e) = absurd (⊎_elim (λ l. omega arith) (λ l. omega arith) h)
      whole (all s e) = inl s
      whole (differing [] back x y p s d e) = inr (record { back = back; x = x; y = y; word = p; stands = rw (add-zero i) at s; differs = d })
      whole (differing (a ∷ front) back x y p s d e) = absurd (omega (arith, ap length p, length-append (a ∷ front) (x ∷ back)))

      from : Stands b w i ⊎ OnlyFirstDiffers b w i → compared_at b w i ≡ length b
      from (inl s) = said_compared (length b) (all s refl)
      from (inr f) =
          said_compared (length b) (differing [] f.back f.x f.y f.word (rw (add-zero i) f.stands) f.differs (ap length f.word))
