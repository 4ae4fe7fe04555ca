-- Listing, part by part: what is listed of a basis whose leading words have been judged.
use Rattle.std.specs.Prelude.{List, ℕ}
use Rattle.algebra.specs.Poly.{Poly}
use Rattle.overlaps.specs.Overlaps.{leads}
use Rattle.overlaps.specs.Listing.{overlap_text}
use Rattle.acceptance.specs.Check.{Verdict, refusal, fine, basis_judged}
use Rattle.services.specs.declared.Listed.{Listed}
use Rattle.services.specs.Services.{words_listed, fitted}

-- The answer for a verdict on the basis.
unfoldable pub verdict_listed : ℕ → List Poly → Verdict → Listed
unfolding words_listed leads
verdict_listed room ps (refusal n k) = record { number = n; place = k; overlaps = 0; written = 0 }
verdict_listed room ps fine = words_listed room (leads ps)

-- The output slice for a verdict on the basis.
unfoldable pub verdict_output : List ℕ → List Poly → Verdict → List ℕ
unfolding fitted leads overlap_text
verdict_output out ps (refusal n k) = out
verdict_output out ps fine = fitted (overlap_text (leads ps)) out

-- The answer and the output slice for a basis.
abbrev pub basis_listed : ℕ → List Poly → Listed
basis_listed room ps = verdict_listed room ps (basis_judged ps)

abbrev pub basis_output : List ℕ → List Poly → List ℕ
basis_output out ps = verdict_output out ps (basis_judged ps)
