-- `put_refused`: the word, and behind it the number and the place.
use Prim.Native.Nat.{◌≤◌}
use native.Mathlib.Omega.{arith}
use Rattle.printing.proofs.RefusedLine.{two_numbers_length, refused-length, refused-stored}
use Rattle.printing.proofs.put_refused.Goals as goal

pub put_numbers_line-requires : goal.put_numbers_line-requires
put_numbers_line-requires c =
    omega (arith, two_numbers_length c.args.number c.args.place c.ranges.number.fits c.ranges.place.fits)

pub returns : goal.returns
returns c =
    let n = c.args.number in
    let k = c.args.place in
    let b : c.put_numbers_line.result ≤ 50 = omega (arith, two_numbers_length n k c.ranges.number.fits c.ranges.place.fits, c.put_numbers_line.ensures.value, c.put_bytes-at.ensures.value) in record {
      value = (refused-length _ _ n k c.put_bytes-at.ensures.value c.put_numbers_line.ensures.value, b);
      out_after = refused-stored _ _ _ _ n k (c.put_bytes-at.ensures.value, c.put_bytes-at.ensures.out_after) c.put_numbers_line.ensures.out_after;
    }
