-- From pair to pair: what is seen of the list, and how many pairs it can have.
use mathlib.Core.Path.{◌≡◌, refl, sym, ap, subst, ◌∙◌}
use mathlib.Core.Bool.{Bool, true, false}
use mathlib.Core.List.{List, [], ◌∷◌}
use Prim.Native.Nat.{ℕ, zero, suc, ◌+◌, ◌≤◌, ◌<◌}
use native.Mathlib.Omega.{arith}
use lib.ListN.{length}
use Rattle.std.specs.Prelude.{Option, Some, None, IfSome, IsSome}
use Rattle.lists.specs.All.{All, done, ◌also◌}
use Rattle.words.specs.Word.{Word}
use Rattle.words.specs.Laid.{laid_word, laid_from, laid_words, Laid}
use Rattle.words.proofs.LaidWords.{laid-length, laid-word-length}
use Rattle.overlaps.specs.Pairs.{Pair}
use Rattle.overlaps.specs.Overlaps.{overlaps}
use Rattle.overlaps.proofs.FewPairs.{overlaps-few}
use Rattle.overlapsearch.specs.declared.PairAt.{PairAt}
use Rattle.overlapsearch.specs.Position.{number_of, pair_of, behind, pairs_at, seen_pairs, Placed, AtMost24, FoundAt}

module _ (ws : List Word) where
  pub seen_one : (f : PairAt) → seen_pairs ws (Some f) ≡ pair_of f ∷ pairs_at ws (behind f)
  unfolding seen_pairs
  seen_one f = refl

  pub seen_none : seen_pairs ws None ≡ []
  unfolding seen_pairs
  seen_none = refl

  -- a pair is found where one is left
  pub seen-some : (r : Option PairAt) → 0 < length (seen_pairs ws r) → IsSome r
  seen-some None h = absurd (omega (arith, ap length seen_none))
  seen-some (Some f) h = refl

  -- behind a pair one pair less is left
  pub seen-behind : (f : PairAt) (r : Option PairAt) → seen_pairs ws r ≡ pairs_at ws (behind f) → length (seen_pairs ws (Some f)) ≡ suc (length (seen_pairs ws r))
  seen-behind f r q = ap length (seen_one f) ∙ ap (λ (os : List Pair). suc (length os)) (sym q)

-- the place behind a pair is one among the words
pub placed-behind : (lens : List ℕ) (n : ℕ) (f : PairAt) → FoundAt lens n f → Placed n (behind f)
placed-behind lens n f h l = h.second

-- a pair's place is numbered by at most 24
pub place-few : (lens : List ℕ) (n : ℕ) (f : PairAt) → FoundAt lens n f → number_of f ≤ 24
unfolding number_of
place-few lens n f h = go f.inside
  where
    go : (b : Bool) → elim b [ true ↦ f.at | false ↦ f.shared ] ≤ 24
    go true = let a = h.within_first in let b = h.short-first in omega arith
    go false = let a = h.within-second in let b = h.short-second in omega arith

module _ (starts lens bytes : List ℕ) (n : ℕ) (h : Laid starts lens bytes n) (s : AtMost24 lens n) where
  from_short : (g k : ℕ) → g + k ≤ n → All (λ w. length w ≤ 24) (laid_from starts lens bytes g k)
  unfolding laid_from
  from_short g zero l = done
  from_short g (suc k) l = ◌also◌ {x = laid_word starts lens bytes g} (omega (arith, laid-word-length starts lens bytes n h g (omega arith), s g (omega arith))) (from_short (suc g) k (omega arith))

  -- at most 64 words have at most 98,304 pairs
  pub laid-few : n ≤ 64 → length (overlaps (laid_words starts lens bytes n)) ≤ 98304
  unfolding laid_words
  laid-few m = overlaps-few (laid_words starts lens bytes n) (omega (arith, laid-length starts lens bytes n)) (from_short 0 n (omega arith))

-- A walk has come to r, and count pairs are behind it: those and the ones that are left are all.
pub record Walked (starts lens bytes : List ℕ) (n count : ℕ) (r : Option PairAt) : Type 0 where
  pub laid : Laid starts lens bytes n
  pub words : n ≤ 64
  pub short : AtMost24 lens n
  pub found : IfSome r (FoundAt lens n)
  pub counted : count + length (seen_pairs (laid_words starts lens bytes n) r) ≡ length (overlaps (laid_words starts lens bytes n))

module _ (starts lens bytes : List ℕ) (n : ℕ) where
  abbrev ws : List Word
  ws = laid_words starts lens bytes n

  pub walk_start : Laid starts lens bytes n → n ≤ 64 → AtMost24 lens n → (r : Option PairAt) → seen_pairs ws r ≡ overlaps ws → IfSome r (FoundAt lens n)
      → Walked starts lens bytes n 0 r
  walk_start h m s r e a = record { laid = h; words = m; short = s; found = a; counted = omega (arith, ap length e) }

  module _ (count : ℕ) (r : Option PairAt) (w : Walked starts lens bytes n count r) where
    -- no more than 98,304 pairs are counted
    pub walk_most : count ≤ 98304
    walk_most = let c = w.counted in omega (arith, laid-few starts lens bytes n w.laid w.short w.words)

    pub walk_end : r ≡ None → count ≡ length (overlaps ws)
    walk_end p = let c = w.counted in omega (arith, ap (λ (x : Option PairAt). length (seen_pairs ws x)) p, ap length (seen_none ws))

    module _ (f : PairAt) (p : r ≡ Some f) where
      size : length (seen_pairs ws r) ≡ suc (length (pairs_at ws (behind f)))
      size = ap (λ (x : Option PairAt). length (seen_pairs ws x)) p ∙ ap length (seen_one ws f)

      pub walk_few : count < 98304
      walk_few = let c = w.counted in omega (arith, laid-few starts lens bytes n w.laid w.short w.words, size)

      -- what the search for the pair behind asks
      pub walk_found : FoundAt lens n f
      walk_found = subst (λ (x : Option PairAt). IfSome x (FoundAt lens n)) p w.found

      module _ (g : Option PairAt) (e : seen_pairs ws g ≡ pairs_at ws (behind f)) where
        pub walk_less : length (seen_pairs ws g) < length (seen_pairs ws r)
        walk_less = omega (arith, size, ap length e)

        pub walk_next : IfSome g (FoundAt lens n) → Walked starts lens bytes n (count + 1) g
        walk_next a =
            let c = w.counted in
            record { laid = w.laid; words = w.words; short = w.short; found = a; counted = omega (arith, size, ap length e) }
