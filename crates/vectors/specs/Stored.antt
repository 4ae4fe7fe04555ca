-- A stored case: its head line, the package and the formula, of the lengths that the head line says, and one byte more.
use Rattle.std.specs.Prelude.{zero, suc, ◌≡◌, ◌+◌, ◌<◌, ℕ, List, [], ◌∷◌, ◌++◌, length, take, Option, IfSome}
use Rattle.std.specs.Io.KnownBytes.{Appends, Consumes, Keeps}
use Rattle.cases.specs.HeadLine.{package_said, formula_said}
use Rattle.cases.specs.CaseTexts.{case_text}

-- A case was read of the bytes that were left, and its text written.
pub record RunsCase (left left' : Option (List ℕ)) (written written' : Option (List ℕ)) : Type 0 where
  pub line : List ℕ
  pub bytes : List ℕ
  pub text : List ℕ
  pub last : ℕ
  pub line_length : length line ≡ 81
  pub package_length : length bytes ≡ package_said line
  pub formula_length : length text ≡ formula_said line
  pub read : Consumes left left' (line ++ bytes ++ text ++ last ∷ [])
  pub printed : Appends written written' (case_text line bytes text)

-- The bytes that are left are none, or those of a case that is cut off.
abbrev pub IsShort : Option (List ℕ) → Type 0
IsShort left = IfSome left (λ xs. length xs < 81 + package_said (take 81 xs) + formula_said (take 81 xs) + 1)

-- So many cases were read one behind the other, and their texts written.
abbrev pub RunsCases : ℕ → (left left' : Option (List ℕ)) (written written' : Option (List ℕ)) → Type 0
RunsCases zero left left' written written' = (left' ≡ left) × (written' ≡ written)
RunsCases (suc k) left left' written written' =
    (left₁ : Option (List ℕ)) × (written₁ : Option (List ℕ)) × RunsCases k left left₁ written written₁ × RunsCase left₁ left' written₁ written'

-- Cases were run until none was left, or as many as there are turns.
pub record RunsAll (turns : ℕ) (left : Option (List ℕ)) (written written' : Option (List ℕ)) : Type 0 where
  pub count : ℕ
  pub rest : Option (List ℕ)
  pub text : Option (List ℕ)
  pub runs : RunsCases count left rest written text
  pub ended : count < turns → IsShort rest
  pub kept : Keeps text written'
