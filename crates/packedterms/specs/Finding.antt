-- Where a word belongs among the words of the formula, said by numbers alone: weights and blocks.
use Rattle.std.specs.Prelude.{◌≡◌, Bool, true, false, List, ℕ, ◌*◌, ◌/◌, ◌≤◌, ◌<◌, length, get_or, take, drop}
use Rattle.std.specs.declared.cmp.Ordering.{Ordering}
use Rattle.std.specs.declared.cmp.Ordering.TheVariants.{Less, Equal, Greater}
use Rattle.words.specs.Order.{by_number_of, by_letters}
use Rattle.packedwords.specs.Codes.{itself}
use Rattle.table.specs.Words.{block_count}

-- A word of weight x in the first k blocks of v, compared with the word at place s: the weights decide, and where they are equal k blocks of each.
abbrev pub by_numbers : List ℕ → ℕ → ℕ → List ℕ → List ℕ → ℕ → Ordering
by_numbers v x k l w s = by_number_of x (get_or l s 0 / 256) (by_letters itself (take k v) (take k (drop (s * 6) w)))

-- How the word of size e in v stands to word i, at the place that entry i of o names.
abbrev pub standing : List ℕ → ℕ → List ℕ → List ℕ → List ℕ → ℕ → Ordering
standing v e l w o i = by_numbers v (e / 256) (block_count e) l w (get_or o i 0)

-- What is below or equal to one of the first n words is below each word before that one.
pub record Sinking (S : ℕ → Ordering) (n : ℕ) : Type 0 where
  pub under-below : (i j : ℕ) → i < j → j < n → S j ≡ Less → S i ≡ Less
  pub under-equal : (i j : ℕ) → i < j → j < n → S j ≡ Equal → S i ≡ Less

-- The word of size e in v can be searched among the first n words: it has at most six blocks, entries of o are places, and the words fall.
pub record Sought (v : List ℕ) (e : ℕ) (l w o : List ℕ) (n : ℕ) : Type 0 where
  pub nine : length v ≡ 9
  pub few : block_count e ≤ 6
  pub blocks : length w ≡ 3360
  pub count : n ≤ 560
  pub place : (i : ℕ) → i < n → get_or o i 0 < 560
  pub sinks : Sinking (standing v e l w o) n

-- There are n words, and the word is below each of the first k.
pub record BelowFirst (S : ℕ → Ordering) (k n : ℕ) : Type 0 where
  pub count : k ≤ n
  pub below : (i : ℕ) → i < k → S i ≡ Less

-- Where the word belongs among the first n: it is below those before the index; and it is the word at the index, or above that word if there is one.
pub record Belonging (S : ℕ → Ordering) (n index : ℕ) (present : Bool) : Type 0 where
  pub low : index ≤ n
  pub below : (i : ℕ) → i < index → S i ≡ Less
  pub equal : present ≡ true → (index < n) × (S index ≡ Equal)
  pub new : present ≡ false → index < n → S index ≡ Greater
