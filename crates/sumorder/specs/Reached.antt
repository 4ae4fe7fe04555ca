-- The place in the sum lines that is reached, and what is left of them.
use Rattle.std.specs.Prelude.{◌≡◌, List, ◌∷◌, ℕ, ◌+◌, ◌≤◌, length}
use Rattle.package.specs.declared.Head.{Head}
use Rattle.package.specs.Sums.{SumLine}
use Rattle.package.specs.Package.{package_limits}
use Rattle.package.specs.Readable.{SumsInOrder}
use Rattle.sumlines.specs.Lines.{sums_at}

-- What is left of sum lines behind some of kind k.
pub data Past (k : ℕ) : List SumLine → List SumLine → Type 0 where
  all_left : {ss : List SumLine} → Past k ss ss
  one_past : {s : SumLine} {ss rest : List SumLine} → s.kind ≡ k → Past k ss rest → Past k (s ∷ ss) rest

-- The line that starts at a place has the number `line`, and the lines from there on are in order, none below item i of kind k.
pub record Reached (h : Head) (k i : ℕ) (bytes : List ℕ) (at line : ℕ) : Type 0 where
  pub size : length bytes ≤ 65536
  pub low : at ≤ length bytes
  pub small : line ≤ at + 4
  pub some : 1 ≤ line
  pub order : SumsInOrder h package_limits k i line (sums_at bytes at line)

-- The sum lines of a package start at a place (no line is below item 0 of kind 0), where the line has the number `line`.
abbrev pub SumsStart : Head → List ℕ → ℕ → ℕ → Type 0
SumsStart h bytes at line = Reached h 0 0 bytes at line
