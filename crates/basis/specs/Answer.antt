-- The verdict that an answer tells, and where a basis's leading words lie once its polynomials are judged.
use Rattle.std.specs.Prelude.{List, ℕ, Result, Ok, Err}
use Rattle.package.specs.declared.Refusal.{Refusal}
use Rattle.acceptance.specs.Check.{Verdict, refusal, fine}
use Rattle.basis.specs.Heads.{HeadsOf}

-- The verdict: a refusal's number and place, or fine, whatever the answer hands on.
unfoldable pub verdict_of : {A : Type 0} → Result A Refusal → Verdict
verdict_of (Err r) = refusal r.number r.place
verdict_of (Ok x) = fine

-- Where the polynomials are sound, heads and headlens lay the leading words.
unfoldable pub HeadsWhere : List ℕ → List ℕ → List ℕ → List ℕ → List ℕ → ℕ → ℕ → List ℕ → List ℕ → Result (Unit {0}) Refusal → Type 0
HeadsWhere coefs starts lens bytes firsts base n heads headlens (Err r) = Unit {0}
HeadsWhere coefs starts lens bytes firsts base n heads headlens (Ok u) = HeadsOf coefs starts lens bytes firsts base n heads headlens
