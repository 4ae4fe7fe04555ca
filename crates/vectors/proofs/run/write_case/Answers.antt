-- A case's text stands in the first of the bytes written.
use Rattle.std.proofs.Common.{◌≡◌, ℕ, ◌+◌, ◌≤◌, List, ◌++◌, length, take, drop, subst, ap, arith, ◌∙◌}
use Rattle.std.proofs.Math.Seq.{take-append_seam}
use Rattle.std.proofs.lemmas.List.Edits.{sets, sets-eq}
use Rattle.std.proofs.lemmas.Result.{on_ok_weaker}
use Rattle.std.specs.Io.KnownBytes.{Appends}
use Rattle.vectors.proofs.run.write_case.Goals as goal

-- what was stored from the first place on
take-sets : (xs ys : List ℕ) (n : ℕ) → n ≡ length ys → n ≤ length xs → take n (sets xs 0 ys) ≡ ys
take-sets xs ys n same within =
    let fits : 0 + length ys ≤ length xs = omega arith in
    ap (take n) (sets-eq ys xs 0 fits) ∙ ap (λ k. take k (ys ++ drop (0 + length ys) xs)) same ∙ take-append_seam ys (drop (0 + length ys) xs)

pub returns : goal.returns
returns g c =
    let put = c.put_case-n in
    let stored = ap (take put.result) put.ensures.text_after ∙ take-sets _ _ put.result put.ensures.value.0 put.ensures.value.1 in
    on_ok_weaker c.write_all.result (subst (Appends _ _) stored) c.write_all.ensures.bytes
