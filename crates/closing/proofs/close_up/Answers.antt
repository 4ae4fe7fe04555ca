-- `close_up` goes from state to state of proofs/Turns.antt: a term is dropped, or stored at place j; at the end nothing is left.
use Rattle.closing.proofs.Turns.{began, dropped, moved, counted, ended}
use Rattle.closing.proofs.close_up.Goals as goal
use Rattle.closing.proofs.close_up.Goals.{then-stays, else-stays}

pub loop-i-init : goal.loop-i-init
loop-i-init c = began _ _ c.requires

pub loop-i-preserved : goal.loop-i-preserved
loop-i-preserved c =
    elim c.if-stays.branch [
      | then-stays w ↦ rw (w.terms-is, w.j-is) (moved _ _ c.requires _ _ _ c.loop-i.invariant c.loop-i-test.true w.if-stays.true)
      | else-stays w ↦ rw (w.terms-is, w.j-is) (dropped _ _ c.requires _ _ _ c.loop-i.invariant c.loop-i-test.true w.if-stays.false)
    ]

pub returns : goal.returns
returns c = record {
  value = counted _ _ c.requires _ _ _ c.loop-i.invariant c.loop-i-test.false;
  terms_after = ended _ _ c.requires _ _ _ c.loop-i.invariant c.loop-i-test.false;
}
