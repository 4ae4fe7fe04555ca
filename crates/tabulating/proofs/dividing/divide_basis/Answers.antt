-- `divide_basis` divides polynomial by polynomial. The loop's invariant: those before g are divided.
use native.Mathlib.Omega.{arith}
use Rattle.tabulating.proofs.DividedBasis.{divided-none, divided-more, divided-all}
use Rattle.tabulating.proofs.dividing.divide_basis.Goals as goal

pub loop-g-init : goal.loop-g-init
loop-g-init c = (c.basis_in-n.ensures, divided-none c.args.t.now c.requires)

pub loop-g-preserved : goal.loop-g-preserved
loop-g-preserved c =
    let e = c.loop-g.invariant.0 in
    let l = c.loop-g-test.true in
    (c.loop-g.invariant.0, divided-more c.args.t.now c.loop-g.t _ c.loop-g.g (omega arith) c.loop-g.invariant.1 c.divide_item.ensures)

pub returns : goal.returns
returns c =
    let e = c.loop-g.invariant.0 in
    let q = c.loop-g-test.false in
    let D = c.loop-g.invariant.1 in
    record {
      tabled = D.tabled;
      t_unchanged = (D.prime, D.letters);
      t_unchanged_2 = (D.gens, D.count);
      t_unchanged_3 = D.relations;
      t_after = divided-all c.args.t.now c.loop-g.t c.loop-g.g (omega arith) D;
    }
