-- A built word can be searched in a formula in written form: the numbers compare as the order does, and the words fall.
use mathlib.Core.Path.{◌≡◌, sym, ◌∙◌}
use mathlib.Core.List.{List}
use Prim.Native.Nat.{ℕ, ◌*◌, ◌<◌}
use native.Mathlib.Omega.{arith}
use lib.ListN.{get_or, drop}
use Rattle.lists.proofs.Parts.{part_length}
use Rattle.words.specs.Word.{Word}
use Rattle.std.specs.declared.cmp.Ordering.{Ordering}
use Rattle.std.specs.declared.cmp.Ordering.TheVariants.{Less, Equal}
use Rattle.table.specs.Table.{order_in}
use Rattle.table.specs.Words.{word_of, Suits, Built}
use Rattle.packedterms.specs.Behind.{Behind}
use Rattle.packedterms.specs.Finding.{standing, Sought, BelowFirst}
use Rattle.packedterms.specs.Formula.{word_at, term_at, formula, Working}
use Rattle.packedterms.proofs.BehindTerms.{first-behind}
use Rattle.packedterms.proofs.BuiltWords.{built-few, built-compares}
use Rattle.packedterms.proofs.Places.{term-place, place_inside, words_fall}

module _ (t : List ℕ) (suits : Suits t) (e : ℕ) (v : List ℕ) (b : Built t e v) (c l w o : List ℕ) (n : ℕ) (f : Working t c l w o n) where
  abbrev S : ℕ → Ordering
  S = standing v e l w o

  abbrev word : ℕ → Word
  word i = word_at t l w (get_or o i 0)

  pub standing_is : (i : ℕ) → i < n → S i ≡ order_in t (word_of t e v) (word i)
  standing_is i h =
      let q = f.holds.count in
      let six = part_length (get_or o i 0 * 6) 6 w (place_inside t c l w o n f.holds i (omega arith)) in
      built-compares t e v b suits (get_or l (get_or o i 0) 0) (drop (get_or o i 0 * 6) w) six (f.holds.held i h)

  under-below : (i j : ℕ) → i < j → j < n → S j ≡ Less → S i ≡ Less
  under-below i j h k d =
      standing_is i (omega arith)
      ∙ suits.admissible.trans (word_of t e v) (word j) (word i) (sym (standing_is j k) ∙ d) (words_fall t c l w o n f i j h k)

  under-equal : (i j : ℕ) → i < j → j < n → S j ≡ Equal → S i ≡ Less
  under-equal i j h k d =
      let same : word_of t e v ≡ word j = suits.admissible.equal (word_of t e v) (word j) (sym (standing_is j k) ∙ d) in
      standing_is i (omega arith) ∙ rw same (words_fall t c l w o n f i j h k)

  pub sought : Sought v e l w o n
  sought = record {
    nine = b.nine;
    few = built-few t e v b;
    blocks = f.holds.room.blocks;
    count = f.holds.count;
    place = term-place t c l w o n f.holds;
    sinks = record { under-below = under-below; under-equal = under-equal };
  }

  pub below-first : (k : ℕ) → Behind (order_in t) (word_of t e v) k (formula t c l w o n) → BelowFirst S k n
  below-first k d =
      let (h, a) = first-behind (order_in t) (word_of t e v) (term_at t c l w o) k n d in
      record { count = h; below = λ i q. standing_is i (omega arith) ∙ a i q }
