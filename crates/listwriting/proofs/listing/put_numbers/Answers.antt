-- `put_numbers`: five numbers, one behind the other.
use Rattle.listwriting.proofs.LineStores.{five_stored}
use Rattle.listwriting.proofs.listing.put_numbers.Goals as goal

pub returns : goal.returns
returns c = let all = five_stored _ _ _ _ _ _ _ _ _ _ _ _ _ _ _ _ _ (c.put_spaced-a.ensures.value, c.put_spaced-a.ensures.out_after) (c.put_spaced-b.ensures.value, c.put_spaced-b.ensures.out_after) (c.put_spaced-c.ensures.value, c.put_spaced-c.ensures.out_after) (c.put_spaced-d.ensures.value, c.put_spaced-d.ensures.out_after) (c.put_spaced.ensures.value, c.put_spaced.ensures.out_after) in
    record {
      value = all.0;
      out_after = all.1;
    }
