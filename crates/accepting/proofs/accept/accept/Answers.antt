-- `accept` reads, judges the basis, fills the table, and checks the package that the table holds.
use mathlib.Core.Path.{◌≡◌, refl, sym, ◌∙◌}
use native.Mathlib.Omega.{arith}
use Rattle.std.specs.Prelude.{Ok}
use Rattle.package.specs.Held.{seen_all}
use Rattle.acceptance.proofs.FirstZero.{fine-nonzero}
use Rattle.basis.specs.Answer.{verdict_of, HeadsWhere}
use Rattle.accepting.specs.Accepted.{Accepts}
use Rattle.accepting.proofs.PackageRead.{answered, unread_refused}
use Rattle.accepting.proofs.PackageTable.{TableHolds, unsound_refused, begins_in, heads_in, checked_accepts}
use Rattle.accepting.proofs.accept.accept.Goals as goal

pub returns-in_err-read : goal.returns-in_err-read
unfolding Accepts seen_all
returns-in_err-read c = grind (arith, unread_refused)

pub judge_basis-requires : goal.judge_basis-requires
judge_basis-requires c =
    let read = c.read_package.ensures in
    let auto = c.read_package.auto in
    let was : c.read_package.result ≡ Ok c.in_ok-read.read = grind arith in
    let is_read = answered _ c.read_package.new.kinds c.read_package.new.items _ _ _ _ _ _ _ _ _ was read.result_after read.result_bound read.result_bound_2 read.result_in_bounds read.firsts_held (omega (arith, auto.coefs)) (omega (arith, auto.starts)) (omega (arith, auto.lens)) (omega (arith, auto.firsts)) in
    record {
      basis_lies = record { p = _; m = _; terms = is_read.lies.terms; runs = is_read.lies.basis-runs };
      count_in_bounds = (omega arith, omega arith);
    }

pub returns-in-Err : goal.returns-in-Err
unfolding Accepts verdict_of
returns-in-Err c =
    let read = c.read_package.ensures in
    let auto = c.read_package.auto in
    let was : c.read_package.result ≡ Ok c.in_ok-read.read = grind arith in
    let is_read = answered _ c.read_package.new.kinds c.read_package.new.items _ _ _ _ _ _ _ _ _ was read.result_after read.result_bound read.result_bound_2 read.result_in_bounds read.firsts_held (omega (arith, auto.coefs)) (omega (arith, auto.starts)) (omega (arith, auto.lens)) (omega (arith, auto.firsts)) in
    unsound_refused is_read _ _ (sym c.in-Err.ensures.result_value)

pub tabulate-requires : goal.tabulate-requires
unfolding verdict_of
tabulate-requires c =
    let read = c.read_package.ensures in
    let auto = c.read_package.auto in
    let passed : c.judge_basis.result ≡ Ok tt = grind arith in
    let sound = rw passed at c.judge_basis.ensures in
    let was : c.read_package.result ≡ Ok c.in_ok-read.read = grind arith in
    let is_read = answered _ c.read_package.new.kinds c.read_package.new.items _ _ _ _ _ _ _ _ _ was read.result_after read.result_bound read.result_bound_2 read.result_in_bounds read.firsts_held (omega (arith, auto.coefs)) (omega (arith, auto.starts)) (omega (arith, auto.lens)) (omega (arith, auto.firsts)) in
    record {
      t_len = c.requires;
      lies = is_read.lies;
      none_zero = fine-nonzero _ (sym sound.result_value);
    }

pub invariant_of-words : goal.invariant_of-words
unfolding HeadsWhere
invariant_of-words c =
    let read = c.read_package.ensures in
    let auto = c.read_package.auto in
    let passed : c.judge_basis.result ≡ Ok tt = grind arith in
    let sound = rw passed at c.judge_basis.ensures in
    let was : c.read_package.result ≡ Ok c.in_ok-read.read = grind arith in
    let is_read = answered _ c.read_package.new.kinds c.read_package.new.items _ _ _ _ _ _ _ _ _ was read.result_after read.result_bound read.result_bound_2 read.result_in_bounds read.firsts_held (omega (arith, auto.coefs)) (omega (arith, auto.starts)) (omega (arith, auto.lens)) (omega (arith, auto.firsts)) in
    let H = sound.heads_where in
    record {
      laid = H.laid;
      few = omega arith;
      short = H.short;
    }

pub check-requires : goal.check-requires
unfolding verdict_of HeadsWhere
check-requires c =
    let read = c.read_package.ensures in
    let auto = c.read_package.auto in
    let passed : c.judge_basis.result ≡ Ok tt = grind arith in
    let sound = rw passed at c.judge_basis.ensures in
    let was : c.read_package.result ≡ Ok c.in_ok-read.read = grind arith in
    let is_read = answered _ c.read_package.new.kinds c.read_package.new.items _ _ _ _ _ _ _ _ _ was read.result_after read.result_bound read.result_bound_2 read.result_in_bounds read.firsts_held (omega (arith, auto.coefs)) (omega (arith, auto.starts)) (omega (arith, auto.lens)) (omega (arith, auto.firsts)) in
    let e = c.tabulate.ensures in
    let holds : TableHolds c.args.«package».now c.read_package.new.coefs c.read_package.new.starts c.read_package.new.lens c.read_package.new.firsts c.in_ok-read.read.head c.tabulate.new.t =
    record {
      tabled = e.tabled;
      prime = e.t_after.0;
      letters = e.t_after.1;
      gens = e.t_after_2.0;
      count = e.t_after_2.1;
      relations = e.t_after_3;
      basis = e.t_after_4;
      sound = sym sound.result_value;
    } in
    record {
      tabled = (holds.tabled, heads_in is_read holds _ refl sound.heads_where.leading);
      sums_start = begins_in is_read holds;
    }

pub returns : goal.returns
unfolding verdict_of
returns c =
    let read = c.read_package.ensures in
    let auto = c.read_package.auto in
    let passed : c.judge_basis.result ≡ Ok tt = grind arith in
    let sound = rw passed at c.judge_basis.ensures in
    let was : c.read_package.result ≡ Ok c.in_ok-read.read = grind arith in
    let is_read = answered _ c.read_package.new.kinds c.read_package.new.items _ _ _ _ _ _ _ _ _ was read.result_after read.result_bound read.result_bound_2 read.result_in_bounds read.firsts_held (omega (arith, auto.coefs)) (omega (arith, auto.starts)) (omega (arith, auto.lens)) (omega (arith, auto.firsts)) in
    let e = c.tabulate.ensures in
    let holds : TableHolds c.args.«package».now c.read_package.new.coefs c.read_package.new.starts c.read_package.new.lens c.read_package.new.firsts c.in_ok-read.read.head c.tabulate.new.t =
    record {
      tabled = e.tabled;
      prime = e.t_after.0;
      letters = e.t_after.1;
      gens = e.t_after_2.0;
      count = e.t_after_2.1;
      relations = e.t_after_3;
      basis = e.t_after_4;
      sound = sym sound.result_value;
    } in
    checked_accepts is_read holds _ (grind arith ∙ c.check.ensures.value)
