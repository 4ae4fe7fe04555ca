-- The tables obey their rule: what it says of each entry is computed over the whole of both.
use mathlib.Core.Path.{refl, subst}
use mathlib.Core.Bool.{Bool, true, false, ◌&&◌}
use Prim.Native.Nat.{ℕ, suc, ◌%◌, ◌<◌}
use native.Mathlib.Omega.{arith}
use lib.Dec.{T, eqb, ltb, eqb→eq, ltb→lt}
use borrow.Author.Tests.{ne_eqb}
use Rattle.field.specs.ByteField.{byte_sum, times_x}
use Rattle.field.specs.ByteTables.{power_at, log_at, TablesRule}
use Rattle.field.proofs.Computed.{and_left, and_right, at_below}

-- Of place i among the powers: x times this power is the next one, and its logarithm is i.
unfoldable power_test : ℕ → Bool
unfolding times_x byte_sum
power_test i = eqb (power_at (suc i % 255)) (times_x (power_at i)) && eqb (log_at (power_at i)) i

-- Of a byte other than 0: its logarithm is a place among the powers, and the byte stands there.
abbrev byte_test : ℕ → Bool
byte_test a = ltb (log_at a) 255 && eqb (power_at (log_at a)) a

abbrev log_test : ℕ → Bool
log_test a = elim (eqb a 0) [ true ↦ true | false ↦ byte_test a ]

powers_tested : (i : ℕ) → i < 255 → T (power_test i)
unfolding power_test
powers_tested = at_below power_test 255 tt

logarithms_tested : (a : ℕ) → a < 256 → T (log_test a)
logarithms_tested = at_below log_test 256 tt

byte_tested : (a : ℕ) → 0 < a → a < 256 → T (byte_test a)
byte_tested a p q =
    subst (λ (t : Bool). T (elim t [ true ↦ true | false ↦ byte_test a ])) (ne_eqb a 0 (λ e. omega arith)) (logarithms_tested a q)

pub tables_rule : TablesRule power_at log_at
unfolding times_x byte_sum power_test
tables_rule = record {
  first = refl;
  next = λ i h.
      eqb→eq (power_at (suc i % 255)) (times_x (power_at i))
      (and_left (eqb (power_at (suc i % 255)) (times_x (power_at i))) (eqb (log_at (power_at i)) i) (powers_tested i h));
  log_power = λ i h.
      eqb→eq (log_at (power_at i)) i (and_right (eqb (power_at (suc i % 255)) (times_x (power_at i))) (eqb (log_at (power_at i)) i) (powers_tested i h));
  power_log = λ a p q. eqb→eq (power_at (log_at a)) a (and_right (ltb (log_at a) 255) (eqb (power_at (log_at a)) a) (byte_tested a p q));
  log_lt = λ a p q. ltb→lt (log_at a) 255 (and_left (ltb (log_at a) 255) (eqb (power_at (log_at a)) a) (byte_tested a p q));
}
