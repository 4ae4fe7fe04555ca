-- `written` is the written word: `-` for the empty one, and else the letters.
use mathlib.Core.Path.{◌≡◌, sym}
use mathlib.Core.Logic.{◌≢◌}
use borrow.Author.Rules.{rules}
use lib.ListN.{length}
use Rattle.text.proofs.WordTexts.{write_empty, write_letters}
use Rattle.textwriting.proofs.write.written.Goals as goal

pub returns-then-is_empty : goal.returns-then-is_empty
returns-then-is_empty c = let e : length c.args.w.now ≡ 0 = search rules in sym (write_empty _ e)

pub returns-else-is_empty : goal.returns-else-is_empty
returns-else-is_empty c = let e : length c.args.w.now ≢ 0 = search rules in sym (write_letters _ e)
