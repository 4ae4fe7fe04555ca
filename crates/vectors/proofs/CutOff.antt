-- A file that ends within a case's package, or within its formula and the byte behind it, has no whole case left.
use Rattle.std.proofs.Common.{◌≡◌, ℕ, ◌+◌, ◌<◌, List, None, Some, IfSome, length, take, ap, ◌∙◌, arith, length-append}
use Rattle.std.proofs.lemmas.List.{take_at}
use Rattle.std.specs.declared.option.Option.{Option}
use Rattle.std.specs.Io.KnownBytes.{Consumes}
use Rattle.cases.specs.HeadLine.{package_said, formula_said}
use Rattle.vectors.specs.Stored.{IsShort}

pub package_cut_off : (left left₁ : Option (List ℕ)) (line : List ℕ) → length line ≡ 81 → Consumes left left₁ line → IfSome left₁ (λ xs. length xs < package_said line) → IsShort left
package_cut_off None left₁ line long read short = tt
package_cut_off (Some xs) None line long read short = absurd read
package_cut_off (Some xs) (Some ys) line long read short =
    let first : take 81 xs ≡ line = ap (take 81) read ∙ take_at line ys 81 long in
    omega (arith, ap length read, length-append line ys, ap package_said first)

pub formula_cut_off : (left left₁ left₂ : Option (List ℕ)) (line bytes : List ℕ) → length line ≡ 81 → length bytes ≡ package_said line → Consumes left left₁ line → Consumes left₁ left₂ bytes
    → IfSome left₂ (λ xs. length xs < formula_said line + 1) → IsShort left
formula_cut_off None left₁ left₂ line bytes long same read then short = tt
formula_cut_off (Some xs) None left₂ line bytes long same read then short = absurd read
formula_cut_off (Some xs) (Some ys) None line bytes long same read then short = absurd then
formula_cut_off (Some xs) (Some ys) (Some zs) line bytes long same read then short =
    let first : take 81 xs ≡ line = ap (take 81) read ∙ take_at line ys 81 long in
    omega (arith, ap length read, length-append line ys, ap length then, length-append bytes zs, ap package_said first, ap formula_said first)
