-- What is left of the list of pairs from a place on: one law for each way through a turn of the search.
use mathlib.Core.Path.{◌≡◌, refl, sym, ◌∙◌, ap}
use mathlib.Core.Bool.{Bool, true, false}
use mathlib.Core.List.{List, [], ◌∷◌, ◌++◌, append_assoc, append-nil}
use Prim.Native.Nat.{ℕ, suc, ◌+◌, ◌-◌, ◌≤◌, ◌<◌}
use native.Mathlib.Omega.{arith}
use native.Mathlib.Decide.{dec_lt}
use lib.ListN.{length, get_or, drop, drop_of_length-le}
use lib.Seq.{drop-cons}
use borrow.Author.Tests.{lt-ltb, le-ltb}
use Rattle.std.specs.Prelude.{Some, None}
use Rattle.words.specs.Word.{Word}
use Rattle.overlaps.specs.Pairs.{Pair}
use Rattle.overlaps.specs.Overlaps.{Part, placing, pairs_from, pairs_of, with_first, from_first, overlaps}
use Rattle.overlapsearch.specs.declared.Cursor.{Cursor}
use Rattle.overlapsearch.specs.Position.{part_of, next_in, next_at, rows_at, part_at, parts_behind, pairs_at, origin, turn, row_after}
use Rattle.overlapsearch.proofs.Passing.{told_at, told-nowhere}

-- An empty list of words gives no pair.
none_first : (X : Part) (vs : List Word) → length vs ≤ 0 → [] ≡ from_first X vs vs 1
unfolding from_first
none_first X [] h = refl
none_first X (v ∷ vs) h = absurd (omega arith)

-- What is left of one part.
module _ (X : Part) (ws : List Word) where
  -- from the first two words on: all
  rows_all : 0 < length ws → rows_at X ws 0 0 X.lowest ≡ from_first X ws ws 1
  unfolding rows_at from_first with_first pairs_of
  rows_all h = go ws h
    where
      go : (vs : List Word) → 0 < length vs → rows_at X vs 0 0 X.lowest ≡ from_first X vs vs 1
      go [] h = absurd (omega arith)
      go (u ∷ us) h = sym (append_assoc (pairs_of X u u 1 1) (with_first X u 1 us 2) (from_first X (u ∷ us) us 2))

  module _ (first second n : ℕ) where
    abbrev u : Word
    u = get_or ws first []

    abbrev v : Word
    v = get_or ws second []

    abbrev limit : ℕ
    limit = X.limit u v (suc first) (suc second)

    -- a number of the two words is the next
    pub rows-found : (r : ℕ) → next_in X u v (suc first) (suc second) n ≡ Some r
        → rows_at X ws first second n ≡ X.pair u v (suc first) (suc second) r ∷ rows_at X ws first second (suc r)
    unfolding rows_at
    rows-found r e =
        let f = told_at X u v (suc first) (suc second) n (limit - n) r e in
        let a = f.from in
        let b = f.below in
        let k : n + (limit - n) - suc r ≡ limit - suc r = omega arith in
        rw (f.pairs, k)

    -- none is left
    module _ (e : next_in X u v (suc first) (suc second) n ≡ None) where
      none_here : pairs_from X u v (suc first) (suc second) n (limit - n) ≡ []
      none_here = told-nowhere X u v (suc first) (suc second) n (limit - n) e

      -- the second word goes on
      rows-second : suc second < length ws → rows_at X ws first (suc second) X.lowest ≡ rows_at X ws first second n
      unfolding rows_at pairs_of with_first
      rows-second l = rw (none_here, drop-cons ws (suc second) [] l) (sym (append_assoc
          (pairs_of X u (get_or ws (suc second) []) (suc first) (suc (suc second)))
          (with_first X u (suc first) (drop (suc (suc second)) ws) (suc (suc (suc second))))
          (from_first X ws (drop (suc first) ws) (suc (suc first)))))

      -- the first word goes on
      rows-first : length ws ≤ suc second → suc first < length ws → rows_at X ws (suc first) 0 X.lowest ≡ rows_at X ws first second n
      unfolding rows_at pairs_of with_first from_first
      rows-first l m =
          let z : 0 < length ws = omega arith in
          rw (none_here, drop_of_length-le ws l, drop-cons ws (suc first) [] m)
          (sym (ap (λ (vs : List Word). with_first X (get_or ws (suc first) []) (suc (suc first)) vs 1 ++ from_first X ws (drop (suc (suc first)) ws) (suc (suc (suc first)))) (drop-cons ws 0 [] z)
          ∙ append_assoc
          (pairs_of X (get_or ws (suc first) []) (get_or ws 0 []) (suc (suc first)) 1)
          (with_first X (get_or ws (suc first) []) (suc (suc first)) (drop 1 ws) 2)
          (from_first X ws (drop (suc (suc first)) ws) (suc (suc (suc first))))))

      -- no word is left
      rows_none : length ws ≤ suc second → length ws ≤ suc first → rows_at X ws first second n ≡ []
      unfolding rows_at with_first from_first
      rows_none l m = rw (none_here, drop_of_length-le ws l, drop_of_length-le ws m)

-- The two words behind two.
module _ (c : Cursor) (n : ℕ) where
  pub after-second : suc c.second < n → row_after c n ≡ record { inside = c.inside; first = c.first; second = suc c.second; number = (part_of c.inside).lowest }
  unfolding row_after
  after-second l = rw (row_after, lt-ltb (suc c.second) n l)

  pub after_first : n ≤ suc c.second → row_after c n ≡ record { inside = c.inside; first = suc c.first; second = 0; number = (part_of c.inside).lowest }
  unfolding row_after
  after_first l = rw (row_after, le-ltb (suc c.second) n l)

-- What is left of a place's part.
module _ (ws : List Word) where
  part-rows : (c : Cursor) → c.first < length ws → part_at ws c ≡ rows_at (part_of c.inside) ws c.first c.second c.number
  unfolding part_at
  part-rows c h = rw (part_at, lt-ltb c.first (length ws) h)

  -- behind the last two words nothing is left
  pub part_end : (c : Cursor) → length ws ≤ c.first → part_at ws c ≡ []
  unfolding part_at
  part_end c h = rw (part_at, le-ltb c.first (length ws) h)

  -- from the first place of a part on: all of it
  part-all : (inside : Bool) → part_at ws (record { inside = inside; first = 0; second = 0; number = (part_of inside).lowest }) ≡ from_first (part_of inside) ws ws 1
  part-all inside = go (dec_lt 0 (length ws))
    where
      start : Cursor
      start = record { inside = inside; first = 0; second = 0; number = (part_of inside).lowest }

      go : Dec (0 < length ws) → part_at ws start ≡ from_first (part_of inside) ws ws 1
      go (yes h) = part-rows start h ∙ rows_all (part_of inside) ws h
      go (no h) = part_end start (omega arith) ∙ none_first (part_of inside) ws (omega arith)

  -- from the first place of the inclusions on: all of them
  pub at_turn : part_at ws turn ≡ from_first placing ws ws 1
  unfolding part_of
  at_turn = part-all true

  -- from the first place on: all
  pub at_origin : pairs_at ws origin ≡ overlaps ws
  unfolding pairs_at overlaps parts_behind part_of
  at_origin = ap (λ (os : List Pair). os ++ from_first placing ws ws 1) (part-all false)

  module _ (c : Cursor) (h : c.first < length ws) where
    abbrev X : Part
    X = part_of c.inside

    abbrev first_word : Word
    first_word = get_or ws c.first []

    abbrev second_word : Word
    second_word = get_or ws c.second []

    -- a pair of the two words is the next
    pub at_found : (r : ℕ) → next_at first_word second_word c ≡ Some r
        → part_at ws c ≡ X.pair first_word second_word (suc c.first) (suc c.second) r ∷ part_at ws (record { inside = c.inside; first = c.first; second = c.second; number = suc r })
    at_found r e =
        part-rows c h
        ∙ rows-found X ws c.first c.second c.number r e
        ∙ ap (λ (os : List Pair). X.pair first_word second_word (suc c.first) (suc c.second) r ∷ os)
        (sym (part-rows (record { inside = c.inside; first = c.first; second = c.second; number = suc r }) h))

    -- no pair of the two words is left: on with the two behind
    pub at_next : next_at first_word second_word c ≡ None → part_at ws (row_after c (length ws)) ≡ part_at ws c
    at_next e = go (dec_lt (suc c.second) (length ws)) (dec_lt (suc c.first) (length ws))
      where
        go : Dec (suc c.second < length ws) → Dec (suc c.first < length ws) → part_at ws (row_after c (length ws)) ≡ part_at ws c
        go (yes l) d =
            ap (part_at ws) (after-second c (length ws) l)
            ∙ part-rows (record { inside = c.inside; first = c.first; second = suc c.second; number = X.lowest }) h
            ∙ rows-second X ws c.first c.second c.number e l
            ∙ sym (part-rows c h)
        go (no l) (yes m) =
            let x : length ws ≤ suc c.second = omega arith in
            ap (part_at ws) (after_first c (length ws) x)
            ∙ part-rows (record { inside = c.inside; first = suc c.first; second = 0; number = X.lowest }) m
            ∙ rows-first X ws c.first c.second c.number e x m
            ∙ sym (part-rows c h)
        go (no l) (no m) =
            let x : length ws ≤ suc c.second = omega arith in
            let y : length ws ≤ suc c.first = omega arith in
            ap (part_at ws) (after_first c (length ws) x)
            ∙ part_end (record { inside = c.inside; first = suc c.first; second = 0; number = X.lowest }) y
            ∙ sym (part-rows c h ∙ rows_none X ws c.first c.second c.number e x y)

-- What is left of the list.
module _ (ws : List Word) where
  -- the inclusions are the last part
  pub left-inclusions : (c : Cursor) → c.inside ≡ true → pairs_at ws c ≡ part_at ws c
  unfolding pairs_at parts_behind
  left-inclusions c q = ap (λ (b : Bool). part_at ws c ++ parts_behind b ws) q ∙ append-nil (part_at ws c)

  pub left-overlaps : (c : Cursor) → c.inside ≡ false → pairs_at ws c ≡ part_at ws c ++ from_first placing ws ws 1
  unfolding pairs_at parts_behind
  left-overlaps c q = ap (λ (b : Bool). part_at ws c ++ parts_behind b ws) q
