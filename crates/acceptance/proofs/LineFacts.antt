-- What the tests of a term line and of a sum line say: bounds of numbers and words, and the order of lines.
use mathlib.Core.Path.{◌≡◌, refl}
use mathlib.Core.Bool.{Bool, true, false, false≢true}
use mathlib.Core.Logic.{◌⊎◌, inl, inr}
use mathlib.Core.List.{[], ◌∷◌}
use Prim.Native.Nat.{ℕ, ◌+◌, ◌≤◌, ◌<◌}
use native.Mathlib.Omega.{arith}
use lib.Dec.{eqb, ltb}
use lib.ListN.{length}
use borrow.Author.Tests.{eqb-true, ltb-true, ltb-false}
use Rattle.std.specs.declared.cmp.Ordering.{Ordering}
use Rattle.std.specs.declared.cmp.Ordering.TheVariants.{Less, Equal, Greater}
use Rattle.lists.specs.All.{All, done, ◌also◌}
use Rattle.words.specs.Word.{Word, Letter}
use Rattle.words.specs.Order.{Lt, word_order}
use Rattle.text.specs.Bytes.{within, all_within}
use Rattle.text.proofs.Bytewise.{within-bounds, all_cons}
use Rattle.package.specs.declared.Head.{Head}
use Rattle.package.specs.declared.Limits.{Limits}
use Rattle.package.specs.Bounds.{coef_fits, word_fits_of}
use Rattle.words.specs.Below.{is_below}
use Rattle.package.specs.Terms.{items_of, term_fits, LineAbove, follows}
use Rattle.package.specs.Sums.{sum_item_fits, ofs, sum_fits}

-- a test that is one of two
pub both : (b c : Bool) → ◌≡◌ {A = Bool} (elim b [ false ↦ false | true ↦ c ]) true → (b ≡ true) × (c ≡ true)
both true c e = (refl, e)
both false c e = absurd (false≢true e)

neither : (b c : Bool) → ◌≡◌ {A = Bool} (elim b [ true ↦ false | false ↦ c ]) true → (b ≡ false) × (c ≡ true)
neither true c e = absurd (false≢true e)
neither false c e = (refl, e)

pub coef-fits : (p c : ℕ) → coef_fits p c ≡ true → (0 < c) × (c < p)
unfolding coef_fits
coef-fits p c e = let (a, b) = both (ltb 0 c) (ltb c p) e in (ltb-true 0 c a, ltb-true c p b)

letters-within : (n : ℕ) (w : Word) → all_within 97 (96 + n) w ≡ true → All (Letter n) w
letters-within n [] e = done
letters-within n (a ∷ w) e =
    let (x, y) = all_cons 97 (96 + n) a w e in
    let (l, h) = within-bounds 97 (96 + n) a x in
    record { least = l; most = omega arith } also letters-within n w y

pub word_fits : (most n : ℕ) (w : Word) → word_fits_of most n w ≡ true → (length w ≤ most) × All (Letter n) w
unfolding word_fits_of
word_fits most n w e =
    let (a, b) = neither (ltb most (length w)) (all_within 97 (96 + n) w) e in
    (ltb-false most (length w) a, letters-within n w b)

pub below_is : (u v : Word) → is_below u v ≡ true → Lt word_order u v
unfolding is_below
below_is u v e = go (word_order u v) refl e
  where
    go : (c : Ordering) → word_order u v ≡ c → ◌≡◌ {A = Bool} (elim c [ Less ↦ true | Equal ↦ false | Greater ↦ false ]) true → word_order u v ≡ Less
    go Less d e = d
    go Equal d e = absurd (false≢true e)
    go Greater d e = absurd (false≢true e)

-- a term in bounds
pub record TermBounds (h : Head) (m : Limits) (k i c : ℕ) (w : Word) : Type 0 where
  pub first : 1 ≤ i
  pub last : i ≤ items_of h k
  pub some : 0 < c
  pub small : c < h.p
  pub short : length w ≤ m.len
  pub letters : All (Letter h.letters) w

pub term-bounds : (h : Head) (m : Limits) (k i c : ℕ) (w : Word) → term_fits h m k i c w ≡ true → TermBounds h m k i c w
unfolding term_fits
term-bounds h m k i c w e =
    let (a, b) = both (within 1 (items_of h k) i) (elim (coef_fits h.p c) [ false ↦ false | true ↦ word_fits_of m.len h.letters w ]) e in
    let (d, f) = both (coef_fits h.p c) (word_fits_of m.len h.letters w) b in
    let (x, y) = within-bounds 1 (items_of h k) i a in
    let (s, t) = coef-fits h.p c d in
    let (u, v) = word_fits m.len h.letters w f in
    record { first = x; last = y; some = s; small = t; short = u; letters = v }

-- a term line below the line above
abbrev pub Follows : LineAbove → ℕ → ℕ → Word → Type 0
Follows a k i w = (a.kind < k) ⊎ ((k ≡ a.kind) × ((a.item < i) ⊎ ((i ≡ a.item) × Lt word_order w a.word)))

pub follows_is : (a : LineAbove) (k i : ℕ) (w : Word) → follows a k i w ≡ true → Follows a k i w
unfolding follows
follows_is a k i w e = go (eqb k a.kind) refl (eqb i a.item) refl e
  where
    go : (b : Bool) → eqb k a.kind ≡ b → (c : Bool) → eqb i a.item ≡ c
        → ◌≡◌ {A = Bool} (elim b [ false ↦ ltb a.kind k | true ↦ elim c [ false ↦ ltb a.item i | true ↦ is_below w a.word ] ]) true → Follows a k i w
    go false x c y e = inl (ltb-true a.kind k e)
    go true x false y e = inr (eqb-true k a.kind x, inl (ltb-true a.item i e))
    go true x true y e = inr (eqb-true k a.kind x, inr (eqb-true i a.item y, below_is w a.word e))

-- a sum line in bounds
pub record SumBounds (h : Head) (m : Limits) (k c : ℕ) (l : Word) (o : ℕ) (r : Word) : Type 0 where
  pub some : 0 < c
  pub small : c < h.p
  pub first : 1 ≤ o
  pub last : o ≤ ofs h k
  pub left-short : length l ≤ m.len
  pub left-letters : All (Letter h.letters) l
  pub right-short : length r ≤ m.len
  pub right-letters : All (Letter h.letters) r

pub sum-bounds : (h : Head) (m : Limits) (k i c : ℕ) (l : Word) (o : ℕ) (r : Word) → sum_fits h m k i c l o r ≡ true → SumBounds h m k c l o r
unfolding sum_fits
sum-bounds h m k i c l o r e =
    let (x₁, e₁) = both (sum_item_fits h k i) (elim (coef_fits h.p c) [ false ↦ false | true ↦ elim (within 1 (ofs h k) o) [ false ↦ false | true ↦ elim (word_fits_of m.len h.letters l) [ false ↦ false | true ↦ word_fits_of m.len h.letters r ] ] ]) e in
    let (x₂, e₂) = both (coef_fits h.p c) (elim (within 1 (ofs h k) o) [ false ↦ false | true ↦ elim (word_fits_of m.len h.letters l) [ false ↦ false | true ↦ word_fits_of m.len h.letters r ] ]) e₁ in
    let (x₃, e₃) = both (within 1 (ofs h k) o) (elim (word_fits_of m.len h.letters l) [ false ↦ false | true ↦ word_fits_of m.len h.letters r ]) e₂ in
    let (x₄, x₅) = both (word_fits_of m.len h.letters l) (word_fits_of m.len h.letters r) e₃ in
    let (a, b) = coef-fits h.p c x₂ in
    let (d, f) = within-bounds 1 (ofs h k) o x₃ in
    let (s, t) = word_fits m.len h.letters l x₄ in
    let (u, v) = word_fits m.len h.letters r x₅ in
    record { some = a; small = b; first = d; last = f; left-short = s; left-letters = t; right-short = u; right-letters = v }
