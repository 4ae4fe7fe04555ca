-- `keep_pair` stores the number where there is room.
use mathlib.Core.Path.{sym}
use native.Mathlib.Omega.{arith}
use Rattle.overlapsearch.proofs.KeptPairs.{packed-few, set_past}
use borrow.Author.Rules.{rules}
use Rattle.overlapsearch.proofs.keeping.keep_pair.Goals as goal

pub overflow_cast-kept : goal.overflow_cast-kept
overflow_cast-kept c = let e = c.pack_pair.ensures in let q = packed-few _ c.requires in search rules

pub returns-else-k-kept : goal.returns-else-k-kept
returns-else-k-kept c = sym (set_past _ _ _ (omega (arith, c.if-k-kept.false)))
