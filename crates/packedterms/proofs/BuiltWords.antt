-- A word built in nine blocks: its first six hold it too, and numbers say how it stands to a word at a place.
use mathlib.Core.Path.{◌≡◌, sym, ◌∙◌, ap, ap₂}
use mathlib.Core.List.{List, map}
use Prim.Native.Nat.{ℕ, ◌/◌, ◌%◌, ◌≤◌}
use native.Mathlib.Omega.{arith}
use lib.ListN.{length, take}
use lib.Seq.{length-take-le, take-take}
use Rattle.words.specs.Word.{Word}
use Rattle.words.specs.Order.{by_number_of, by_letters}
use Rattle.words.specs.Weighted.{weight}
use Rattle.packedwords.specs.Codes.{itself}
use Rattle.packedwords.specs.Packed.{unpacked, Packs}
use Rattle.packedwords.proofs.Blocks.{packs-narrow}
use Rattle.table.specs.Table.{order_in, letter_in, weight_in}
use Rattle.table.specs.Words.{word_of, Held, block_count, Suits, Built}

module _ (t : List ℕ) (e : ℕ) (v : List ℕ) (b : Built t e v) where
  narrow : Packs (e % 256) (take 6 v) × (unpacked (e % 256) (take 6 v) ≡ unpacked (e % 256) v)
  narrow = packs-narrow (e % 256) v b.held.packs 6 (omega (arith, b.nine)) (omega (arith, b.short))

  pub built-six : length (take 6 v) ≡ 6
  built-six = length-take-le 6 v (omega (arith, b.nine))

  pub built-held : Held t e (take 6 v)
  built-held = record { packs = narrow.0; weighed = b.held.weighed ∙ ap (weight (weight_in t)) (sym narrow.1) }

  pub built-word : word_of t e (take 6 v) ≡ word_of t e v
  built-word = ap (map (letter_in t)) narrow.1

  pub built-few : block_count e ≤ 6
  built-few = omega (arith, b.short)

  -- The numbers compare it as the table's order does.
  pub built-compares : Suits t → (z : ℕ) (bs : List ℕ) → length (take 6 bs) ≡ 6 → Held t z (take 6 bs)
      → by_number_of (e / 256) (z / 256) (by_letters itself (take (block_count e) v) (take (block_count e) bs)) ≡ order_in t (word_of t e v) (word_of t z (take 6 bs))
  built-compares s z bs six h =
      ap₂ (λ (x y : List ℕ). by_number_of (e / 256) (z / 256) (by_letters itself x y))
      (sym (take-take (block_count e) 6 v built-few)) (sym (take-take (block_count e) 6 bs built-few))
      ∙ sym (s.compares e z (take 6 v) (take 6 bs) built-six six built-held h)
      ∙ ap (λ (u : Word). order_in t u (word_of t z (take 6 bs))) built-word
