-- `put_spaced`: a number, and a space behind it.
use native.Mathlib.Omega.{arith}
use mathlib.Core.List.{[]}
use Rattle.listmeasuring.proofs.Lines.{spaced-length}
use Rattle.listwriting.proofs.LineStores.{spaced-stored}
use Rattle.listwriting.proofs.listing.put_spaced.Goals as goal

pub put_number-e-requires : goal.put_number-e-requires
put_number-e-requires c = omega (arith, spaced-length c.args.n [])

pub bounds-out-e : goal.bounds-out-e
bounds-out-e c = omega (arith, spaced-length c.args.n [])

pub overflow_add-result : goal.overflow_add-result
overflow_add-result c = omega (arith, spaced-length c.args.n [])

pub returns : goal.returns
returns c = let all = spaced-stored _ _ _ _ _ c.put_number-e.ensures.value c.put_number-e.ensures.out_after in
    record {
      value = all.0;
      out_after = all.1;
    }
