-- Short words around a word of a table, and the empty word.
use mathlib.Core.Path.{◌≡◌, refl, ◌∙◌}
use mathlib.Core.List.{List, [], ◌∷◌}
use Prim.Native.Nat.{ℕ, suc, ◌%◌, ◌≤◌}
use native.Mathlib.Omega.{arith}
use Rattle.words.specs.Weighted.{weight}
use Rattle.words.specs.Word.{Word}
use Rattle.packedwords.specs.Packed.{value, packed_from, unpacked_from}
use Rattle.table.specs.Table.{items_in, first_in}
use Rattle.table.specs.Tabled.{Tabled}
use Rattle.itemadding.specs.Fits.{Fits}
use Rattle.tablesums.specs.ShortWords.{ShortWord}

-- Each word of an item has at most 24 letters, so 24 more fit on either side.
pub short-fits : (t : List ℕ) → Tabled t → (a b item : ℕ) → a % 256 ≤ 24 → b % 256 ≤ 24 → 1 ≤ item → item ≤ items_in t
    → Fits t a b (first_in t item) (first_in t (suc item))
short-fits t T a b item h k some most = record {
  short = λ i lo hi. let q = T.most item some most in let s = T.short i (omega arith) in omega arith;
}

-- Six zeros hold the empty word, of size 0.
pub empty-short : (t : List ℕ) → ShortWord t [] 0 (0 ∷ 0 ∷ 0 ∷ 0 ∷ 0 ∷ 0 ∷ [])
unfolding value packed_from unpacked_from weight
empty-short t = record {
  short = record {
    six = record { six = refl; short = omega arith; held = record { packs = record { fits = omega arith; clean = refl }; weighed = refl } };
    few = omega arith;
  };
  word = refl;
}

-- A short word is what its letters are.
pub short_as : {t : List ℕ} {u v : Word} {z : ℕ} {bs : List ℕ} → u ≡ v → ShortWord t u z bs → ShortWord t v z bs
short_as e h = record { short = h.short; word = h.word ∙ e }
