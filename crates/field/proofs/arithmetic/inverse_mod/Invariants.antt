use mathlib.Core.Path.{◌≡◌}
use Prim.Native.Nat.{◌*◌, ◌%◌, ◌<◌}
use Rattle.field.specs.Field.{inverse_mod}
use Rattle.field.proofs.arithmetic.inverse_mod.Given as goal

abbrev pub invariant-loop-left : goal.invariant-loop-left
invariant-loop-left l = (l.factor < l.p) × (l.left < l.p) × (l.factor * inverse_mod l.p l.left l.left % l.p ≡ inverse_mod l.p l.a l.a)

abbrev pub decreases-loop-left : goal.decreases-loop-left
decreases-loop-left l = l.left
