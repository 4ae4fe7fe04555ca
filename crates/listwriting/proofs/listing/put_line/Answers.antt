-- `put_line`: five numbers, the overlap word and the line end.
use mathlib.Core.Path.{ap}
use mathlib.Core.List.{List}
use Prim.Native.Nat.{ℕ}
use native.Mathlib.Omega.{arith}
use lib.ListN.{length, length-set}
use Rattle.listwriting.proofs.LineStores.{pair-length, lent_word, pair-stored}
use Rattle.listwriting.proofs.listing.put_line.Goals as goal

pub put_numbers-d-requires : goal.put_numbers-d-requires
put_numbers-d-requires c =
    omega (arith, c.requires.shared_in_bounds, pair-length c.args.k c.args.f c.args.u.now c.args.v.now)

pub put_joined-e-requires : goal.put_joined-e-requires
put_joined-e-requires c =
    omega (arith, c.requires.shared_in_bounds, pair-length c.args.k c.args.f c.args.u.now c.args.v.now, ap (λ (l : List ℕ). length l) (lent_word c.args.k c.args.f c.args.u.now c.args.v.now), c.put_numbers-d.ensures.value)

pub bounds-out-e : goal.bounds-out-e
bounds-out-e c =
    omega (arith, c.requires.shared_in_bounds, pair-length c.args.k c.args.f c.args.u.now c.args.v.now, ap (λ (l : List ℕ). length l) (lent_word c.args.k c.args.f c.args.u.now c.args.v.now), c.put_numbers-d.ensures.value, c.put_joined-e.ensures.value)

pub overflow_add-result : goal.overflow_add-result
overflow_add-result c =
    omega (arith, c.requires.shared_in_bounds, pair-length c.args.k c.args.f c.args.u.now c.args.v.now, ap (λ (l : List ℕ). length l) (lent_word c.args.k c.args.f c.args.u.now c.args.v.now), c.put_numbers-d.ensures.value, c.put_joined-e.ensures.value)

pub shape_of-out : goal.shape_of-out
shape_of-out c = simp length-set (omega arith)

pub returns : goal.returns
returns c =
    let all = pair-stored c.args.k c.args.f c.args.u.now c.args.v.now _ _ _ _ _ _ (c.put_numbers-d.ensures.value, c.put_numbers-d.ensures.out_after) (c.put_joined-e.ensures.value, c.put_joined-e.ensures.out_after) in
    record {
      value = all.0;
      out_after = all.1;
    }
