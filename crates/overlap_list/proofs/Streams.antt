-- What is known of a reader's bytes behind a read that filled a buffer as far as they went, and of a buffer whose first bytes were stored.
use Rattle.std.proofs.Common.{◌≡◌, ℕ, ◌+◌, ◌<◌, ◌≤◌, List, [], ◌∷◌, ◌++◌, None, Some, IfSome, length, take, drop, sym, ap, ◌∙◌, subst, arith, append-nil, length-take-le, take_all}
use Rattle.std.proofs.Math.Nat.{le_antisymm}
use Rattle.std.proofs.Math.Seq.{take-append_seam}
use Rattle.std.proofs.lemmas.List.Edits.{sets, sets-eq}
use Rattle.std.specs.Io.KnownBytes.{Consumes, IsAtEnd}
use Rattle.std.specs.declared.option.Option.{Option}

-- the first of the bytes were read, as many as the buffer takes, or all of them
pub take-filled : (xs ys buf : List ℕ) (n : ℕ) → n ≤ length buf → xs ≡ take n buf ++ ys → (n < length buf → ys ≡ []) → take (length buf) xs ≡ take n buf
take-filled xs [] buf n within read end =
    let same : xs ≡ take n buf = read ∙ append-nil (take n buf) in
    let long : length xs ≤ length buf = omega (arith, ap length same, length-take-le n buf within) in
    take_all (length buf) xs long ∙ same
take-filled xs (y ∷ ys) buf n within read end =
    let none : n < length buf → ⊥ = λ h. let e = end h in cc in
    let full : length (take n buf) ≡ length buf = length-take-le n buf within ∙ le_antisymm within (omega (arith, none)) in
    ap (take (length buf)) read ∙ ap (λ k. take k (take n buf ++ y ∷ ys)) (sym full) ∙ take-append_seam (take n buf) (y ∷ ys)

-- what holds of the bytes read holds of the first k of all that were left
pub from_filled : (P : List ℕ → Type 0) (old new : Option (List ℕ)) (buf : List ℕ) (k n : ℕ) → length buf ≡ k → n ≤ length buf → Consumes old new (take n buf)
    → (n < length buf → IsAtEnd new) → P (take n buf) → IfSome old (λ xs. P (take k xs))
from_filled P None new buf k n room within read end p = tt
from_filled P (Some xs) None buf k n room within read end p = absurd read
from_filled P (Some xs) (Some ys) buf k n room within read end p = subst P (sym (ap (λ m. take m xs) (sym room) ∙ take-filled xs ys buf n within read end)) p

-- what was stored from the first place on
pub take-sets : (xs ys : List ℕ) (n : ℕ) → n ≡ length ys → n ≤ length xs → take n (sets xs 0 ys) ≡ ys
take-sets xs ys n same within =
    let fits : 0 + length ys ≤ length xs = omega arith in
    ap (take n) (sets-eq ys xs 0 fits) ∙ ap (λ k. take k (ys ++ drop (0 + length ys) xs)) same ∙ take-append_seam ys (drop (0 + length ys) xs)
