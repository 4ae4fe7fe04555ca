-- `is_prime` is `is_prime`. The loop's invariant: the entries that are left say what the whole table says.
use mathlib.Core.Path.{◌≡◌, sym, ap, ◌∙◌}
use Prim.Native.Nat.{ℕ}
use native.Mathlib.Omega.{arith}
use lib.ListN.{get_or}
use Rattle.field.specs.Prime.{primes, divides_below}
use Rattle.field.proofs.Test.{low, divided, undivided, some_here, some-later, some-none, entry_positive}
use borrow.Author.Rules.{rules}
use Rattle.field.proofs.prime.is_prime.Goals as goal

pub returns-then-p-lt2 : goal.returns-then-p-lt2
returns-then-p-lt2 c = sym (low _ c.if-p-lt2.true)

pub divides_below-requires : goal.divides_below-requires
divides_below-requires c =
    let f : c.from.result ≡ get_or primes c.loop-q.q-index 0 = c.from.ensures in
    omega (arith, entry_positive c.loop-q.q-index (search rules), f)

pub returns-then-divides_below : goal.returns-then-divides_below
returns-then-divides_below c =
    sym (divided _ c.loop-q.invariant.0
    (sym c.loop-q.invariant.1
    ∙ some_here primes _ c.loop-q.q-index (search rules)
    (ap (λ (q : ℕ). divides_below q c.args.p) (sym c.from.ensures) ∙ sym c.divides_below.ensures ∙ c.if-divides_below.true)))

pub loop-q-preserved : goal.loop-q-preserved
loop-q-preserved c = (
  c.loop-q.invariant.0,
  some-later primes _ c.loop-q.q-index (search rules)
      (ap (λ (q : ℕ). divides_below q c.args.p) (sym c.from.ensures) ∙ sym c.divides_below.ensures ∙ c.if-divides_below.false)
      ∙ c.loop-q.invariant.1,
)

pub returns : goal.returns
returns c =
    sym (undivided _ c.loop-q.invariant.0 (sym c.loop-q.invariant.1 ∙ some-none primes _ c.loop-q.q-index (search rules)))
