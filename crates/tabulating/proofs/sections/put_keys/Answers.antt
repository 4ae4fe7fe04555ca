-- `put_keys` stores the keys, and then what stands at the codes.
use native.Mathlib.Omega.{arith}
use Rattle.tabulating.proofs.PlainKeys.{plain_stored}
use Rattle.tabulating.proofs.Stores.{filled_range}
use Rattle.tabulating.proofs.sections.put_keys.Goals as goal

pub returns : goal.returns
returns c =
    let f = c.put_falling.ensures in
    let g = c.put_falling-2.ensures in
    record {
      plain = plain_stored _ _ _ f g;
      filled = filled_range 17 26 48 32 16 64 _ _ _ _ _ f g (omega arith) (omega arith) (omega arith) (omega arith);
    }
