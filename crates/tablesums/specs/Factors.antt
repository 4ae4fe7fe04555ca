-- What is cut from the two leading words of a pair.
use Rattle.std.specs.Prelude.{◌≡◌, List, map, ℕ, suc, ◌≤◌, ◌<◌, length}
use Rattle.overlapsearch.specs.declared.PairAt.{PairAt}
use Rattle.packedwords.specs.Packed.{unpacked, Packs}
use Rattle.table.specs.Table.{basis_count_in, letter_in}
use Rattle.tablesums.specs.Leading.{lead_in}

-- Six blocks hold the leading word of basis polynomial g, of n letters, which are at most 24.
pub record LeadPacked (t : List ℕ) (g n : ℕ) (bs : List ℕ) : Type 0 where
  pub letters : length (lead_in t g) ≡ n
  pub few : n ≤ 24
  pub six : length bs ≡ 6
  pub packs : Packs n bs
  pub word : map (letter_in t) (unpacked n bs) ≡ lead_in t g

-- The two polynomials of a pair are of the basis, the second leading word begins in the first, or at its end, and has the letters that are shared.
pub record Lapping (t : List ℕ) (f : PairAt) : Type 0 where
  pub first : f.first < basis_count_in t
  pub second : f.second < basis_count_in t
  pub begins : f.at ≤ length (lead_in t (suc f.first))
  pub shares : f.shared ≤ length (lead_in t (suc f.second))
