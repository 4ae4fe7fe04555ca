-- An index of zeros has no marks.
use Prim.Native.Nat.{ℕ}
use lib.ListN.{replicate, length-replicate}
use Rattle.lists.proofs.Entries.{zeros_at}
use Rattle.leads.specs.CodeIndex.{CodeBlank}

pub zeros_blank : CodeBlank (replicate 832 0)
zeros_blank = let none : ℕ = 0 in record { room = length-replicate 832 none; zeros = zeros_at 832 }
