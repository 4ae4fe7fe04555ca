-- The sum line at a place of the bytes: one law for each way through its reader.
use mathlib.Core.Path.{◌≡◌, refl, sym, ap₂, ◌∙◌}
use mathlib.Core.List.{List, []}
use Prim.Native.Nat.{ℕ, suc, ◌<◌}
use native.Mathlib.Omega.{arith}
use lib.ListN.{drop}
use Rattle.std.specs.Prelude.{Option, None, Some, IfSome}
use Rattle.text.specs.Pieces.{Pieces, final, piece, lines, fields, part}
use Rattle.package.specs.Held.{none_sum, some_sum, got_sum_of, next_sum, seen_sum, SumInside}
use Rattle.package.specs.Sums.{SumForm, no_sum, sum, sum_form, with_sum, sums_of}
use Rattle.package.specs.declared.SumAt.{SumAt}
use Rattle.sumlines.specs.Lines.{sums_at, held_from, NumberedFrom, Inside}

-- lines numbered from m on, none of which has a lower number
none_lower : (m n : ℕ) (ls : Pieces) → n < m → NumberedFrom n (sums_of m ls) → sums_of m ls ≡ []
unfolding sums_of with_sum NumberedFrom
none_lower m n (final x) h k = refl
none_lower m n (piece l ls) h k = go (sum_form (fields l)) (none_lower (suc m) n ls (omega arith)) k
  where
    go : (x : SumForm) → (NumberedFrom n (sums_of (suc m) ls) → sums_of (suc m) ls ≡ []) → NumberedFrom n (with_sum m x (sums_of (suc m) ls)) → with_sum m x (sums_of (suc m) ls) ≡ []
    go no_sum ih q = ih q
    go (sum k' i c l' o r) ih q = let z : m ≡ n = q in absurd (omega arith)

-- no sum line, or none that is ended
none-held : (n : ℕ) (ps : Pieces) → next_sum ps ≡ none_sum → NumberedFrom n (sums_of n ps) → sums_of n ps ≡ []
unfolding next_sum got_sum_of sums_of with_sum NumberedFrom
none-held n (final x) q k = refl
none-held n (piece l ls) q k = go (sum_form (fields l)) q k
  where
    go : (x : SumForm) → got_sum_of x ls ≡ none_sum → NumberedFrom n (with_sum n x (sums_of (suc n) ls)) → with_sum n x (sums_of (suc n) ls) ≡ []
    go no_sum u v = none_lower (suc n) n ls (omega arith) v
    go (sum k' i c l' o r) u v = absurd (let y : ◌≡◌ {A = ℕ} 0 1 = cc in omega arith)

pub line-none : (bytes : List ℕ) (at : ℕ) → next_sum (lines (drop at bytes)) ≡ none_sum → (n : ℕ)
    → NumberedFrom n (sums_at bytes at n) → held_from bytes n None ≡ sums_at bytes at n
unfolding held_from
line-none bytes at q n k = sym (none-held n (lines (drop at bytes)) q k)

-- a sum line
some-held : (n k i c : ℕ) (l : List ℕ) (o : ℕ) (r : List ℕ) (ls ps : Pieces) → next_sum ps ≡ some_sum k i c l o r ls
    → with_sum n (sum k i c l o r) (sums_of (suc n) ls) ≡ sums_of n ps
unfolding next_sum got_sum_of sums_of
some-held n k i c l o r ls (final x) q = absurd (let y : ◌≡◌ {A = ℕ} 0 1 = cc in omega arith)
some-held n k i c l o r ls (piece x ms) q = go (sum_form (fields x)) refl q
  where
    go : (f : SumForm) → sum_form (fields x) ≡ f → got_sum_of f ms ≡ some_sum k i c l o r ls
        → with_sum n (sum k i c l o r) (sums_of (suc n) ls) ≡ with_sum n (sum_form (fields x)) (sums_of (suc n) ms)
    go no_sum e u = absurd (let y : ◌≡◌ {A = ℕ} 0 1 = cc in omega arith)
    go (sum k₁ i₁ c₁ l₁ o₁ r₁) e u =
        let p : sum k i c l o r ≡ sum k₁ i₁ c₁ l₁ o₁ r₁ = cc in
        let w : ls ≡ ms = cc in
        ap₂ (λ f (zs : Pieces). with_sum n f (sums_of (suc n) zs)) (p ∙ sym e) w

pub line-sum : (bytes : List ℕ) (at k i c a m o b l e : ℕ) → next_sum (lines (drop at bytes)) ≡ some_sum k i c (part bytes a m) o (part bytes b l) (lines (drop e bytes))
    → (n : ℕ)
    → held_from bytes n (Some (record { kind = k; item = i; coef = c; left = a; left_len = m; of = o; right = b; right_len = l; next = e })) ≡ sums_at bytes at n
unfolding held_from with_sum
line-sum bytes at k i c a m o b l e q n =
    some-held n k i c (part bytes a m) o (part bytes b l) (lines (drop e bytes)) (lines (drop at bytes)) q

-- what was read, as the lines from its place on
pub read-held : (bytes : List ℕ) (at : ℕ) (r : Option SumAt) → seen_sum bytes r ≡ next_sum (lines (drop at bytes)) → (n : ℕ)
    → NumberedFrom n (sums_at bytes at n) → held_from bytes n r ≡ sums_at bytes at n
unfolding seen_sum
read-held bytes at None q n k = line-none bytes at (sym q) n k
read-held bytes at (Some s) q n k = line-sum bytes at s.kind s.item s.coef s.left s.left_len s.of s.right s.right_len s.next (sym q) n

-- and where it lies
pub read-inside : (bytes : List ℕ) (at : ℕ) (r : Option SumAt) → SumInside bytes at r → IfSome r (λ s. Inside bytes at s)
unfolding SumInside
read-inside bytes at None h = tt
read-inside bytes at (Some s) h = record { further = h.2; next_le = h.3; left_in = h.0; right_in = h.1 }
