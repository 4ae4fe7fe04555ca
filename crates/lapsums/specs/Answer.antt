-- What the check answers.
use Rattle.std.specs.Prelude.{ℕ, Result, Ok, Err}
use Rattle.package.specs.declared.Refusal.{Refusal}
use Rattle.acceptance.specs.Check.{Verdict, refusal, fine}

-- The answer of a verdict: the refusal's number and place, or the count of pairs.
unfoldable pub answer_of : Verdict → ℕ → Result ℕ Refusal
answer_of (refusal n k) count = Err (record { number = n; place = k })
answer_of fine count = Ok count
