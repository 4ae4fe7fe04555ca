-- What a term line is judged, and that a line in order had room.
use mathlib.Core.Path.{◌≡◌, refl, ap, ◌∙◌}
use mathlib.Core.Bool.{Bool, true, false}
use mathlib.Core.List.{List, []}
use Prim.Native.Nat.{ℕ, ◌+◌, ◌≤◌, ◌<◌}
use native.Mathlib.Omega.{arith}
use lib.Dec.{ltb}
use lib.ListN.{take, drop}
use lib.Seq.{drop-drop}
use borrow.Author.Tests.{le-ltb, lt-ltb, ltb-false, ltb-true}
use Rattle.package.specs.Held.{above_of}
use Rattle.package.specs.Terms.{TermForm, no_term, term, term_form, term_fits, LineAbove, follows, counted, has_room, TermVerdict, refused_by, accept, judged, judge_term}
use Rattle.package.specs.declared.Head.{Head}
use Rattle.package.specs.declared.Last.{Last}
use Rattle.package.specs.declared.Limits.{Limits}
use Rattle.lists.proofs.Parts.{part-part}
use Rattle.text.specs.Pieces.{pieces, fields, part}

-- A line that has its shape.
module _ (h : Head) (lim : Limits) (a : LineAbove) (n k i c : ℕ) (w : List ℕ) where
  pub judge_5 : term_fits h lim k i c w ≡ false → refused_by 5 ≡ judged h lim a n (term k i c w)
  unfolding judged
  judge_5 p = rw (judged, p)

  module _ (p : term_fits h lim k i c w ≡ true) where
    pub judge_6 : follows a k i w ≡ false → refused_by 6 ≡ judged h lim a n (term k i c w)
    unfolding judged
    judge_6 q = rw (judged, p, q)

    module _ (q : follows a k i w ≡ true) where
      pub by_room : (t : Bool) → has_room lim a n k i ≡ t → ◌≡◌ {A = TermVerdict} (elim t [ false ↦ refused_by 7 | true ↦ accept k i c w ]) (judged h lim a n (term k i c w))
      unfolding judged
      by_room t r = rw (judged, p, q, r)

      pub judge_0 : counted a k i ≤ lim.terms → n < 1024 → accept k i c w ≡ judged h lim a n (term k i c w)
      unfolding has_room
      judge_0 r z = by_room true (rw (has_room, le-ltb lim.terms (counted a k i) r, lt-ltb n 1024 z))

-- The number of terms of an item does not depend on the word.
pub counted-word : (s : List ℕ) (last : Last) (k i : ℕ) → counted (above_of [] last) k i ≡ counted (above_of s last) k i
unfolding counted
counted-word s last k i = refl

-- A line from its bytes.
pub judge_2 : (h : Head) (lim : Limits) (a : LineAbove) (n : ℕ) (l : List ℕ) → no_term ≡ term_form (fields l) → refused_by 2 ≡ judge_term h lim a n l
unfolding judge_term judged
judge_2 h lim a n l q = rw (judge_term, ← q)

pub judge_read : (h : Head) (lim : Limits) (ab : LineAbove) (t : ℕ) (s : List ℕ) (at m k i c a n : ℕ) → a + n ≤ m
    → term k i c (part (part s at m) a n) ≡ term_form (fields (part s at m))
    → judged h lim ab t (term k i c (part s (at + a) n)) ≡ judge_term h lim ab t (part s at m)
unfolding judge_term
judge_read h lim ab t s at m k i c a n b q =
    let z : part (part s at m) a n ≡ part s (at + a) n = part-part (drop at s) a n m b ∙ ap (take n) (drop-drop a at s) in
    rw (judge_term, ← q, z)

-- A line in order had room.
room : (lim : Limits) (a : LineAbove) (n k i : ℕ) → has_room lim a n k i ≡ true → (n < 1024) × (counted a k i ≤ lim.terms)
unfolding has_room
room lim a n k i = go (ltb lim.terms (counted a k i)) refl
  where
    go : (t : Bool) → ltb lim.terms (counted a k i) ≡ t → ◌≡◌ {A = Bool} (elim t [ true ↦ false | false ↦ ltb n 1024 ]) true → (n < 1024) ×
        (counted a k i ≤ lim.terms)
    go true e h = let z : ◌≡◌ {A = Bool} false true = h in absurd (let y : ◌≡◌ {A = ℕ} 0 1 = cc in omega arith)
    go false e h = (ltb-true n 1024 h, ltb-false lim.terms (counted a k i) e)

module _ (lim : Limits) (a : LineAbove) (n k i c k' i' c' : ℕ) (w w' : List ℕ) where
  last_test : (t : Bool) → has_room lim a n k' i' ≡ t → ◌≡◌ {A = TermVerdict} (elim t [ false ↦ refused_by 7 | true ↦ accept k' i' c' w' ])
      (accept k i c w) → (n < 1024) × (counted a k i ≤ lim.terms)
  last_test true e h =
      let p : k' ≡ k = cc in
      let q : i' ≡ i = cc in
      let r = room lim a n k' i' e in
      rw (p, q) at r
  last_test false e h = absurd (let y : ◌≡◌ {A = ℕ} 0 1 = cc in omega arith)

pub accept-room : (h : Head) (lim : Limits) (a : LineAbove) (n : ℕ) (f : TermForm) (k i c : ℕ) (w : List ℕ) → judged h lim a n f ≡ accept k i c w →
    (n < 1024) × (counted a k i ≤ lim.terms)
unfolding judged
accept-room h lim a n no_term k i c w e = absurd (let y : ◌≡◌ {A = ℕ} 0 1 = cc in omega arith)
accept-room h lim a n (term k' i' c' w') k i c w e = go (term_fits h lim k' i' c' w') (follows a k' i' w') e
  where
    go : (t u : Bool) → ◌≡◌ {A = TermVerdict} (elim t [
      | false ↦ refused_by 5
      | true ↦ elim u [
        | false ↦ refused_by 6
        | true ↦ elim
            (has_room lim a n k' i') [ false ↦ refused_by 7 | true ↦ accept k' i' c' w' ]
      ]
    ]) (accept k i c w)
        → (n < 1024) × (counted a k i ≤ lim.terms)
    go false u e = absurd (let y : ◌≡◌ {A = ℕ} 0 1 = cc in omega arith)
    go true false e = absurd (let y : ◌≡◌ {A = ℕ} 0 1 = cc in omega arith)
    go true true e = last_test lim a n k i c k' i' c' w w' (has_room lim a n k' i') refl e

pub judged-room : (h : Head) (lim : Limits) (a : LineAbove) (n : ℕ) (l : List ℕ) (k i c : ℕ) (w : List ℕ) → judge_term h lim a n l ≡ accept k i c w →
    (n < 1024) × (counted a k i ≤ lim.terms)
unfolding judge_term
judged-room h lim a n l k i c w e = accept-room h lim a n (term_form (pieces 32 l)) k i c w e
