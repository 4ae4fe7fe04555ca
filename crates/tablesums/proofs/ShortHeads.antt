-- The leading words of a table's basis that lie in the bytes have at most 24 letters.
use mathlib.Core.Path.{◌≡◌, sym, ap, ◌∙◌}
use mathlib.Core.List.{List}
use Prim.Native.Nat.{ℕ, suc, ◌+◌, ◌%◌}
use native.Mathlib.Omega.{arith}
use lib.ListN.{length}
use Rattle.words.specs.Laid.{laid_word}
use Rattle.words.proofs.LaidWords.{laid-word-length}
use Rattle.overlapsearch.specs.Position.{AtMost24}
use Rattle.table.specs.Table.{gens_in, basis_count_in, first_in, size_in}
use Rattle.table.specs.Tabled.{Tabled}
use Rattle.table.proofs.LeadingTerms.{lead-term}
use Rattle.tablesums.specs.Leading.{HeadsIn}
use Rattle.tablesums.proofs.LeadingWords.{lead-laid}

pub heads_short : {t heads headlens bytes : List ℕ} → Tabled t → HeadsIn t heads headlens bytes
    → AtMost24 headlens (basis_count_in t)
heads_short {t} {heads} {headlens} {bytes} T H g l =
    let L = lead-term t T (suc g) (omega arith) l in
    let short = T.short (first_in t (gens_in t + suc g)) L.inside in
    let e = laid-word-length heads headlens bytes (basis_count_in t) H.laid g l in
    let size : length (laid_word heads headlens bytes g) ≡ size_in t (first_in t (gens_in t + suc g)) % 256 =
    ap length (sym (lead-laid H g l)) ∙ L.letters in
    omega arith
