-- `put_joined`: the two parts of the word, or `-` where both are empty.
use mathlib.Core.Path.{◌≡◌}
use borrow.Author.Rules.{rules}
use native.Mathlib.Omega.{arith}
use lib.ListN.{length}
use Rattle.listwriting.proofs.LineStores.{written-empty, joined_length, joined-stored}
use Rattle.listwriting.proofs.listing.put_joined.Goals as goal

pub put_word-requires : goal.put_word-requires
put_word-requires c =
    let e : length c.args.u.now ≡ 0 = search rules in
    rw (written-empty c.args.u.now c.args.rest.now e) c.requires

pub returns-then-is_empty : goal.returns-then-is_empty
returns-then-is_empty c =
    let e : length c.args.u.now ≡ 0 = search rules in
    record {
      value = rw (← written-empty c.args.u.now c.args.rest.now e) c.put_word.ensures.value;
      out_after = rw (← written-empty c.args.u.now c.args.rest.now e) c.put_word.ensures.out_after;
    }

pub put_bytes-e-requires : goal.put_bytes-e-requires
put_bytes-e-requires c =
    let n : length c.args.u.now ≡ 0 → ⊥ = search rules in
    omega (arith, c.requires, joined_length c.args.u.now c.args.rest.now n)

pub put_bytes-requires : goal.put_bytes-requires
put_bytes-requires c =
    let n : length c.args.u.now ≡ 0 → ⊥ = search rules in
    omega (arith, c.requires, joined_length c.args.u.now c.args.rest.now n)

pub returns : goal.returns
returns c =
    let n : length c.args.u.now ≡ 0 → ⊥ = search rules in
    let all = joined-stored _ _ _ _ _ _ c.args.u.now c.args.rest.now n (c.put_bytes-e.ensures.value, c.put_bytes-e.ensures.out_after) (c.put_bytes.ensures.value, c.put_bytes.ensures.out_after) in
    record {
      value = all.0;
      out_after = all.1;
    }
