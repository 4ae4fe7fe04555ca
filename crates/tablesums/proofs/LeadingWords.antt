-- The leading words of the basis as they are laid in the bytes.
use mathlib.Core.Path.{◌≡◌, sym, ap, ◌∙◌}
use mathlib.Core.List.{List, []}
use Prim.Native.Nat.{ℕ, suc, ◌<◌}
use native.Mathlib.Omega.{arith}
use lib.ListN.{length, get_or}
use Rattle.words.specs.Word.{Word}
use Rattle.words.specs.Laid.{laid_word}
use Rattle.words.proofs.LaidWords.{laid_at, laid-word-length}
use Rattle.overlaps.proofs.Certification.{lead_of}
use Rattle.overlapsearch.specs.declared.PairAt.{PairAt}
use Rattle.overlapsearch.specs.declared.leading.LeadingWords.{LeadingWords}
use Rattle.overlapsearch.specs.Position.{FoundAt}
use Rattle.table.specs.Polynomials.{basis_in}
use Rattle.table.specs.Table.{basis_count_in}
use Rattle.tablesums.specs.Leading.{lead_in, HeadsIn, LeadsIn}
use Rattle.tablesums.specs.Factors.{Lapping}

module _ {t heads headlens bytes : List ℕ} (h : HeadsIn t heads headlens bytes) where
  pub lead-laid : (g : ℕ) → g < basis_count_in t → lead_in t (suc g) ≡ laid_word heads headlens bytes g
  lead-laid g l =
      sym (lead_of (basis_in t) (suc g)) ∙ ap (λ (ws : List Word). get_or ws g []) (sym h.leading) ∙ laid_at heads headlens bytes (basis_count_in t) g l

  lead-length : (g : ℕ) → g < basis_count_in t → length (lead_in t (suc g)) ≡ get_or headlens g 0
  lead-length g l = ap length (lead-laid g l) ∙ laid-word-length heads headlens bytes (basis_count_in t) h.laid g l

  -- so the second leading word of a pair begins in the first, or at its end, and has the shared letters
  pub lapping : (f : PairAt) → FoundAt headlens (basis_count_in t) f → Lapping t f
  lapping f v =
      let w = v.within_first in
      let x = v.within-second in
      let e = lead-length f.first v.first in
      let d = lead-length f.second v.second in
      record { first = v.first; second = v.second; begins = omega arith; shares = omega arith }

-- As a value the leading words are what they are in the lists.
pub leads-in : (t : List ℕ) (words : LeadingWords) → words.count ≡ basis_count_in t → HeadsIn t words.starts.now words.lens.now words.bytes.now → LeadsIn t words
leads-in t words e h = record { count = e; leading = rw e h.leading }

-- and the second leading word of a pair lies so to the first
pub lapping_in : {t : List ℕ} {words : LeadingWords} → LeadsIn t words → (f : PairAt) → FoundAt words.lens.now words.count f → Lapping t f
lapping_in {t} {words} h f v = lapping heads f (rw h.count at v)
  where
    heads : HeadsIn t words.starts.now words.lens.now words.bytes.now
    heads = record { laid = rw h.count at words.laid; leading = rw h.count at h.leading }
