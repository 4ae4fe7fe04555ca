-- Pairs of polynomials whose leading words overlap (document 01, 'Overlaps') or stand one inside the other (document 02, P2), and their order.
use Rattle.std.specs.Prelude.{◌≡◌, ◌≢◌, ◌⊎◌, List, [], ◌∷◌, ℕ, ◌-◌, ◌≤◌, ◌<◌, length, take, drop, get_or}
use Rattle.lists.specs.All.{All}
use Rattle.words.specs.Word.{Word}
use Rattle.words.specs.Place.{Stands}

-- The numbers of two polynomials, how many letters their leading words share, and where the second leading word begins in the first, from 0.
pub record Pair : Type 0 where
  pub first : ℕ
  pub second : ℕ
  pub shared : ℕ
  pub at : ℕ

-- 01's sentence: the last `shared` letters of the first leading word are the first `shared` of the second, with shared at least 1 and below both lengths.
pub record Overlapping (u v : Word) (shared : ℕ) : Type 0 where
  pub some : 1 ≤ shared
  pub first : shared < length u
  pub second : shared < length v
  pub same : drop (length u - shared) u ≡ take shared v

-- 02's sentence: the leading word v of polynomial j, another than i, stands inside the leading word u of polynomial i, at a place. Equal leading words
-- are listed once, lower number first. (An empty word stands at every place from 0 to the length of u.)
pub record Included (u v : Word) (i j place : ℕ) : Type 0 where
  pub another : i ≢ j
  pub stands : Stands v u place
  pub once : u ≡ v → i < j

-- The number names one of n polynomials, which are numbered from 1.
pub record Names (n i : ℕ) : Type 0 where
  pub least : 1 ≤ i
  pub most : i ≤ n

-- Word number i of a list, from 1. (A number that names none has the empty word.)
abbrev pub word_no : List Word → ℕ → Word
word_no ws i = get_or ([] ∷ ws) i []

-- An overlap of two words of a list, which may be one: the second begins where the shared letters do.
pub record IsOverlap (ws : List Word) (o : Pair) : Type 0 where
  pub first : Names (length ws) o.first
  pub second : Names (length ws) o.second
  pub overlapping : Overlapping (word_no ws o.first) (word_no ws o.second) o.shared
  pub begins : o.at ≡ length (word_no ws o.first) - o.shared

-- A word of a list inside another one of it: all letters of the second are shared.
pub record IsInclusion (ws : List Word) (o : Pair) : Type 0 where
  pub first : Names (length ws) o.first
  pub second : Names (length ws) o.second
  pub included : Included (word_no ws o.first) (word_no ws o.second) o.first o.second o.at
  pub whole : o.shared ≡ length (word_no ws o.second)

-- What the list holds.
abbrev pub IsPair : List Word → Pair → Type 0
IsPair ws o = IsOverlap ws o ⊎ IsInclusion ws o

-- By first, then second, then a third number.
abbrev pub Earlier : (Pair → ℕ) → Pair → Pair → Type 0
Earlier third a b =
    (a.first < b.first)
    ⊎ ((a.first ≡ b.first) × ((a.second < b.second) ⊎ ((a.second ≡ b.second) × (third a < third b))))

-- One pair is listed before another: every overlap before every inclusion; overlaps by first, second, shared; inclusions by first, second, place.
pub data Before (ws : List Word) (a b : Pair) : Type 0 where
  overlap_first : IsOverlap ws a → IsInclusion ws b → Before ws a b
  by_shared : IsOverlap ws a → IsOverlap ws b → Earlier (λ o. o.shared) a b → Before ws a b
  by_place : IsInclusion ws a → IsInclusion ws b → Earlier (λ o. o.at) a b → Before ws a b

-- Each element of a list is before all that follow.
pub data Rising {A : Type 0} (R : A → A → Type 0) : List A → Type 0 where
  none : Rising R []
  next : {x : A} {xs : List A} → All (R x) xs → Rising R xs → Rising R (x ∷ xs)
