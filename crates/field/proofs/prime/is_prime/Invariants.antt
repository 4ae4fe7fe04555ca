use mathlib.Core.Path.{◌≡◌}
use Prim.Native.Nat.{◌≤◌}
use lib.ListN.{drop}
use Rattle.field.specs.Prime.{primes, some_divides_below}
use Rattle.field.proofs.prime.is_prime.Given as goal

abbrev pub invariant-loop-q : goal.invariant-loop-q
invariant-loop-q l = (2 ≤ l.p) × (some_divides_below (drop l.q-index primes) l.p ≡ some_divides_below primes l.p)
