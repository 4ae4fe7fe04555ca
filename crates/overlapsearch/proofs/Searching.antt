-- The search of a part for the next pair, from place c₀, has come to place c: what is left of the part from c on is what was left from c₀ on.
use mathlib.Core.Path.{◌≡◌, refl, sym, ◌∙◌, ap, ap₂, subst}
use mathlib.Core.Bool.{Bool, true, false}
use mathlib.Core.List.{List, [], ◌∷◌, ◌++◌}
use Prim.Native.Nat.{ℕ, suc, ◌+◌, ◌-◌, ◌*◌, ◌≤◌, ◌<◌, min}
use native.Mathlib.Decide.{dec_lt}
use native.Mathlib.Omega.{arith}
use lib.ListN.{length, get_or}
use Rattle.std.specs.Prelude.{Option, Some, None, IfSome}
use Rattle.words.specs.Word.{Word}
use Rattle.words.specs.Laid.{laid_word, laid_words, WordInside, Laid}
use Rattle.words.proofs.LaidWords.{laid-length, laid_at, word-inside, laid-word-length}
use Rattle.words.proofs.Standing.{stands_iff}
use Rattle.overlaps.specs.Pairs.{Pair}
use Rattle.overlaps.specs.Overlaps.{placing, from_first}
use Rattle.overlaps.proofs.Listed.{stands-length}
use Rattle.overlapsearch.specs.declared.Cursor.{Cursor}
use Rattle.overlapsearch.specs.declared.PairAt.{PairAt}
use Rattle.overlapsearch.specs.Position.{part_of, next_in, shared_by, next_at, part_at, parts_behind, pairs_at, turn, row_after, pair_found, pair_of, number_of, behind, seen_in_part, seen_pairs, Placed, AtMost24, FoundAt}
use Rattle.overlapsearch.proofs.Passing.{told_at}
use Rattle.overlapsearch.proofs.Positions.{after-second, after_first, part_end, at_turn, at_found, at_next, left-inclusions, left-overlaps}

-- the next number of a place's part
module _ (u v : Word) (c : Cursor) where
  pub next-inside : c.inside ≡ true → next_in placing u v (suc c.first) (suc c.second) c.number ≡ next_at u v c
  unfolding part_of
  next-inside q = ap (λ (b : Bool). next_in (part_of b) u v (suc c.first) (suc c.second) c.number) (sym q)

  pub next-shared : c.inside ≡ false → shared_by u v c.number ≡ next_at u v c
  unfolding part_of
  next-shared q = ap (λ (b : Bool). next_in (part_of b) u v (suc c.first) (suc c.second) c.number) (sym q)

pub record Searching (starts lens bytes : List ℕ) (n : ℕ) (c₀ c : Cursor) : Type 0 where
  pub laid : Laid starts lens bytes n
  pub few : n ≤ 64
  pub short : AtMost24 lens n
  pub placed : Placed n c
  pub inside : c.inside ≡ c₀.inside
  pub same : part_at (laid_words starts lens bytes n) c ≡ part_at (laid_words starts lens bytes n) c₀

-- the two words behind are further on, in the same part
record Further (n : ℕ) (c d : Cursor) : Type 0 where
  placed : Placed n d
  inside : d.inside ≡ c.inside
  falls : 4096 - (d.first * 64 + d.second) < 4096 - (c.first * 64 + c.second)

further : (n : ℕ) (c : Cursor) → n ≤ 64 → Placed n c → c.first < n → Further n c (row_after c n)
further n c h p l = go (dec_lt (suc c.second) n)
  where
    b : c.second < n
    b = p l

    go : Dec (suc c.second < n) → Further n c (row_after c n)
    go (yes d) = subst (Further n c) (sym (after-second c n d)) (record { placed = λ x. d; inside = refl; falls = omega (arith, b) })
    go (no d) =
        let x : n ≤ suc c.second = omega arith in
        subst (Further n c) (sym (after_first c n x)) (record { placed = λ y. omega (arith, b); inside = refl; falls = omega (arith, b) })

-- the pair that was found, and those behind it
module _ (ws : List Word) (u v : Word) (first second r : ℕ) where
  pub found-seen : (inside : Bool) (number : ℕ)
      → seen_in_part ws (Some (pair_found (record { inside = inside; first = first; second = second; number = number }) (length u) (length v) r))
      ≡ (part_of inside).pair u v (suc first) (suc second) r ∷ part_at ws (record { inside = inside; first = first; second = second; number = suc r })
  unfolding seen_in_part pair_found number_of part_of
  found-seen true number = refl
  found-seen false number = refl

-- it is of the place's part
found_part : (c : Cursor) (a b r : ℕ) → (pair_found c a b r).inside ≡ c.inside
unfolding pair_found
found_part c a b r = go c.inside refl
  where
    go : (t : Bool) → c.inside ≡ t → (pair_found c a b r).inside ≡ c.inside
    go true q = rw (pair_found, q)
    go false q = rw (pair_found, q)

-- what is shared lies in both words
record Within (a b : ℕ) (c : Cursor) (f : PairAt) : Type 0 where
  first : f.first ≡ c.first
  second : f.second ≡ c.second
  within_first : f.at + f.shared ≤ a
  within-second : f.shared ≤ b

module _ (u v : Word) (first second number r : ℕ) where
  found_within : (inside : Bool) → next_at u v (record { inside = inside; first = first; second = second; number = number }) ≡ Some r
      → Within (length u) (length v) (record { inside = inside; first = first; second = second; number = number })
      (pair_found (record { inside = inside; first = first; second = second; number = number }) (length u) (length v) r)
  unfolding pair_found part_of
  found_within true e =
      let f = told_at (part_of true) u v (suc first) (suc second) number ((part_of true).limit u v (suc first) (suc second) - number) r e in
      let x = stands-length ((stands_iff v u r).0 f.passes) in
      record { first = refl; second = refl; within_first = omega arith; within-second = omega arith }
  found_within false e =
      let f = told_at (part_of false) u v (suc first) (suc second) number (min (length u) (length v) - number) r e in
      let x = f.below in
      let y = f.from in
      record { first = refl; second = refl; within_first = omega arith; within-second = omega arith }

  -- the number of shared letters is no more than the first word has
  pub found-least : next_at u v (record { inside = false; first = first; second = second; number = number }) ≡ Some r → r ≤ length u
  unfolding part_of
  found-least e =
      let f = told_at (part_of false) u v (suc first) (suc second) number (min (length u) (length v) - number) r e in
      let x = f.below in
      let y = f.from in
      omega arith

module _ (starts lens bytes : List ℕ) (n : ℕ) (c₀ : Cursor) where
  abbrev ws : List Word
  ws = laid_words starts lens bytes n

  pub searching_start : Laid starts lens bytes n → n ≤ 64 → AtMost24 lens n → Placed n c₀ → Searching starts lens bytes n c₀ c₀
  searching_start h f s p = record { laid = h; few = f; short = s; placed = p; inside = refl; same = refl }

  module _ (c : Cursor) (h : Searching starts lens bytes n c₀ c) where
    module _ (l : c.first < n) where
      second_in : c.second < n
      second_in = h.placed l

      pub both_in : (c.second < n) × (c.first < n)
      both_in = (second_in, l)

      pub both_inside : (WordInside starts lens bytes c.first × WordInside starts lens bytes c.second) × (get_or lens c.first 0 ≤ 24)
      both_inside = (
        (word-inside starts lens bytes n h.laid c.first l, word-inside starts lens bytes n h.laid c.second second_in),
        h.short c.first l,
      )

      pub row_falls : 4096 - ((row_after c n).first * 64 + (row_after c n).second) < 4096 - (c.first * 64 + c.second)
      row_falls = (further n c h.few h.placed l).falls

      first_is_lem : get_or ws c.first [] ≡ laid_word starts lens bytes c.first
      first_is_lem = laid_at starts lens bytes n c.first l

      second_is : get_or ws c.second [] ≡ laid_word starts lens bytes c.second
      second_is = laid_at starts lens bytes n c.second second_in

      first-inside : c.first < length ws
      first-inside = let k = laid-length starts lens bytes n in omega arith

      first-length : length (laid_word starts lens bytes c.first) ≡ get_or lens c.first 0
      first-length = laid-word-length starts lens bytes n h.laid c.first l

      second-length : length (laid_word starts lens bytes c.second) ≡ get_or lens c.second 0
      second-length = laid-word-length starts lens bytes n h.laid c.second second_in

      module _ (r : ℕ) (e : next_at (laid_word starts lens bytes c.first) (laid_word starts lens bytes c.second) c ≡ Some r) where
        pub number-within : c.inside ≡ false → r ≤ get_or lens c.first 0
        number-within q =
            let k = found-least (laid_word starts lens bytes c.first) (laid_word starts lens bytes c.second) c.first c.second c.number r
            (ap (λ (b : Bool). next_at (laid_word starts lens bytes c.first) (laid_word starts lens bytes c.second) (record { inside = b; first = c.first; second = c.second; number = c.number })) (sym q) ∙ e) in
            omega (arith, k, first-length)

        pub searching_found : (seen_in_part ws (Some (pair_found c (get_or lens c.first 0) (get_or lens c.second 0) r)) ≡ part_at ws c₀)
            × (FoundAt lens n (pair_found c (get_or lens c.first 0) (get_or lens c.second 0) r)
            × ((pair_found c (get_or lens c.first 0) (get_or lens c.second 0) r).inside ≡ c₀.inside))
        searching_found = (seen, (found, its_part ∙ h.inside))
          where
            seen : seen_in_part ws (Some (pair_found c (get_or lens c.first 0) (get_or lens c.second 0) r)) ≡ part_at ws c₀
            seen =
                ap₂ (λ (a b : ℕ). seen_in_part ws (Some (pair_found c a b r))) (sym first-length) (sym second-length)
                ∙ found-seen ws (laid_word starts lens bytes c.first) (laid_word starts lens bytes c.second) c.first c.second r c.inside c.number
                ∙ sym (rw (first_is_lem, second_is) at (at_found ws c first-inside r (rw (← first_is_lem, ← second_is) at e)))
                ∙ h.same

            found : FoundAt lens n (pair_found c (get_or lens c.first 0) (get_or lens c.second 0) r)
            found =
                let w : Within (get_or lens c.first 0) (get_or lens c.second 0) c (pair_found c (get_or lens c.first 0) (get_or lens c.second 0) r)
                = rw (first-length, second-length) at (found_within (laid_word starts lens bytes c.first) (laid_word starts lens bytes c.second) c.first c.second c.number r c.inside e) in
                let p = w.first in
                let q = w.second in
                record {
                  first = rw p l;
                  second = rw q second_in;
                  short-first = rw p (h.short c.first l);
                  short-second = rw q (h.short c.second second_in);
                  within_first = rw p w.within_first;
                  within-second = rw q w.within-second;
                }

            its_part : (pair_found c (get_or lens c.first 0) (get_or lens c.second 0) r).inside ≡ c.inside
            its_part = found_part c (get_or lens c.first 0) (get_or lens c.second 0) r

      pub searching_next : next_at (laid_word starts lens bytes c.first) (laid_word starts lens bytes c.second) c ≡ None
          → Searching starts lens bytes n c₀ (row_after c n)
      searching_next e =
          let e' = rw (← first_is_lem, ← second_is) at e in
          let k = laid-length starts lens bytes n in
          record {
            laid = h.laid;
            few = h.few;
            short = h.short;
            placed = (further n c h.few h.placed l).placed;
            inside = (further n c h.few h.placed l).inside ∙ h.inside;
            same = ap (λ (m : ℕ). part_at ws (row_after c m)) (sym k) ∙ at_next ws c first-inside e' ∙ h.same;
          }

    pub searching_end : n ≤ c.first → seen_in_part ws None ≡ part_at ws c₀
    unfolding seen_in_part
    searching_end l = let k = laid-length starts lens bytes n in sym (part_end ws c (omega arith)) ∙ h.same

-- A place of a part, as the code has it.
pub of_part : (ws : List Word) (r : Option PairAt) (c : Cursor) (b : Bool) → c.inside ≡ b
    → seen_in_part ws r ≡ part_at ws (record { inside = b; first = c.first; second = c.second; number = c.number })
    → seen_in_part ws r ≡ part_at ws c
of_part ws r c b q e = e ∙ ap (λ (t : Bool). part_at ws (record { inside = t; first = c.first; second = c.second; number = c.number })) (sym q)

-- From a part to the list.
module _ (ws : List Word) (c : Cursor) where
  -- a pair is found: behind what is left of the part come the parts behind it
  pub seen_here : (f : PairAt) → f.inside ≡ c.inside → seen_in_part ws (Some f) ≡ part_at ws c → seen_pairs ws (Some f) ≡ pairs_at ws c
  unfolding seen_pairs seen_in_part pairs_at
  seen_here f t e =
      ap (λ (b : Bool). (pair_of f ∷ part_at ws (behind f)) ++ parts_behind b ws) t
      ∙ ap (λ (os : List Pair). os ++ parts_behind c.inside ws) e

  module _ (e : seen_in_part ws None ≡ part_at ws c) where
    none : part_at ws c ≡ []
    unfolding seen_in_part
    none = sym e

    -- no inclusion is left: nothing is
    pub seen_nothing : c.inside ≡ true → seen_pairs ws None ≡ pairs_at ws c
    unfolding seen_pairs
    seen_nothing q = sym (left-inclusions ws c q ∙ none)

    -- no overlap is left: the inclusions
    pub seen-turn : c.inside ≡ false → (g : Option PairAt) → seen_pairs ws g ≡ pairs_at ws turn → seen_pairs ws g ≡ pairs_at ws c
    seen-turn q g d =
        d ∙ left-inclusions ws turn refl ∙ at_turn ws
        ∙ ap (λ (os : List Pair). os ++ from_first placing ws ws 1) (sym none)
        ∙ sym (left-overlaps ws c q)

-- Found in the inclusions, or nothing.
pub seen-inclusions : (ws : List Word) (lens : List ℕ) (n : ℕ) (c : Cursor) (g : Option PairAt) → c.inside ≡ true
    → IfSome g (λ f. FoundAt lens n f × (f.inside ≡ c.inside)) → seen_in_part ws g ≡ part_at ws c → seen_pairs ws g ≡ pairs_at ws c
seen-inclusions ws lens n c None q t d = seen_nothing ws c d q
seen-inclusions ws lens n c (Some f) q t d = seen_here ws c f t.1 d
