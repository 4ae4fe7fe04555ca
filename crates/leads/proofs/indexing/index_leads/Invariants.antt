use mathlib.Core.Path.{◌≡◌}
use Prim.Native.Nat.{◌+◌, ◌*◌}
use Rattle.table.specs.Table.{gens_in, basis_count_in}
use Rattle.leads.specs.CodeIndex.{CodesHold}
use Rattle.leads.specs.LeadCodes.{lead_codes_in}
use Rattle.leads.proofs.indexing.index_leads.Given as goal

abbrev pub invariant-loop-g : goal.invariant-loop-g
invariant-loop-g l =
    (l.n ≡ basis_count_in l.t) × (l.base ≡ gens_in l.t + 1) × CodesHold (lead_codes_in l.t) l.g (l.g * 25) l.index
