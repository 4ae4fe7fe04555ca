-- `put_numbers_line`: what is stored and what is left to store are the whole line.
use mathlib.Core.Path.{◌∙◌, ap, sym}
use native.Mathlib.Omega.{arith}
use lib.ListN.{length, length-set}
use lib.Seq.{sets}
use Rattle.printing.proofs.NumbersLine.{next-length, next-stored, next-room, numbers_end}
use borrow.Author.Rules.{rules}
use Rattle.printing.proofs.put_numbers_line.Goals as goal

pub bounds-out-o : goal.bounds-out-o
bounds-out-o c =
    omega (arith, next-length c.args.ns.now c.loop-n.n-index (search rules), c.loop-n.invariant.0, c.loop-n.invariant.2, c.requires)

pub overflow_add-o : goal.overflow_add-o
overflow_add-o c =
    omega (arith, next-length c.args.ns.now c.loop-n.n-index (search rules), c.loop-n.invariant.0, c.loop-n.invariant.2, c.requires)

pub put_number-o-requires : goal.put_number-o-requires
put_number-o-requires c =
    omega (arith, next-length c.args.ns.now c.loop-n.n-index (search rules), c.loop-n.invariant.0, c.loop-n.invariant.2, c.requires, length-set c.loop-n.out c.loop-n.o 32)

pub loop-n-preserved : goal.loop-n-preserved
loop-n-preserved c =
    let ns = c.args.ns.now in (
      omega (arith, next-length ns c.loop-n.n-index (search rules), c.loop-n.invariant.0, c.put_number-o.ensures.value),
      next-stored ns c.loop-n.n-index (search rules) c.loop-n.out _ c.loop-n.o _ c.put_number-o.ensures.out_after c.put_number-o.ensures.value ∙ c.loop-n.invariant.1,
      next-room ns c.loop-n.n-index (search rules) c.loop-n.out _ c.loop-n.o c.put_number-o.ensures.out_after ∙ c.loop-n.invariant.2,
    )

pub bounds-out-o-2 : goal.bounds-out-o-2
bounds-out-o-2 c =
    omega (arith, ap length (numbers_end c.args.ns.now c.loop-n.n-index (search rules)), c.loop-n.invariant.0, c.loop-n.invariant.2, c.requires)

pub overflow_add-result : goal.overflow_add-result
overflow_add-result c =
    omega (arith, ap length (numbers_end c.args.ns.now c.loop-n.n-index (search rules)), c.loop-n.invariant.0, c.loop-n.invariant.2, c.requires)

pub returns : goal.returns
returns c =
    let e = numbers_end c.args.ns.now c.loop-n.n-index (search rules) in
    record {
      value = omega (arith, ap length e, c.loop-n.invariant.0);
      out_after = ap (sets c.loop-n.out c.loop-n.o) (sym e) ∙ c.loop-n.invariant.1;
    }
