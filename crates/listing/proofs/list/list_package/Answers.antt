-- `list_package` answers as listing is defined: it reads, and lists the basis of a package that reads.
use mathlib.Core.Path.{◌≡◌, sym, ◌∙◌, ap}
use lib.ListN.{length}
use native.Mathlib.Omega.{arith}
use Rattle.package.specs.Held.{seen_all, count_all, gens_all, basis_all, FirstsHeld}
use Rattle.acceptance.proofs.SlicesContent.{slices_terms, basis-run, basis-held}
use Rattle.listing.specs.ListingParts.{basis_listed, basis_output}
use Rattle.listing.proofs.ListingAnswers.{unread_listed, unread_kept, read_listed, read-written}
use Rattle.listing.proofs.list.list_package.Goals as goal

pub list_basis-requires : goal.list_basis-requires
unfolding seen_all count_all gens_all basis_all FirstsHeld
list_basis-requires c =
    let t = c.read_package-r.ensures in
    let g = c.in-Ok.is in
    let e = rw g at t.result_after in
    let inside = rw g at t.result_bound in
    let few = rw g at t.result_bound_2 in
    let marked = rw g at t.firsts_held in
    let fs = c.read_package-r.new.firsts in
    let lc : length c.read_package-r.new.coefs ≡ 1024 = c.read_package-r.auto.coefs in
    let lo : length c.read_package-r.new.starts ≡ 1024 = c.read_package-r.auto.starts in
    let ll : length c.read_package-r.new.lens ≡ 1024 = c.read_package-r.auto.lens in
    let lf : length fs ≡ 98 = c.read_package-r.auto.firsts in record {
      basis_lies = record {
        p = _;
        m = _;
        terms = slices_terms _ _ _ _ _ _ fs _ _ c.in-Ok.read.at c.in-Ok.read.line e marked inside.1 (omega arith) (omega arith) (omega arith) (omega arith);
        runs = basis-run _ _ _ _ _ _ fs _ _ c.in-Ok.read.at c.in-Ok.read.line e marked inside.1 (omega arith) (omega arith) (omega arith) (omega arith);
      };
      count_bound = few.1;
    }

pub returns-in-Err : goal.returns-in-Err
unfolding seen_all count_all gens_all basis_all FirstsHeld
returns-in-Err c =
    let t = c.read_package-r.ensures in
    let g = c.in-Err.is in
    let e = rw g at t.result_after in
    record {
      value = c.refusal.ensures ∙ sym (unread_listed _ _ _ _ e);
      out_after = sym (unread_kept _ _ _ _ e);
    }

pub returns-in-Ok : goal.returns-in-Ok
unfolding seen_all count_all gens_all basis_all FirstsHeld
returns-in-Ok c =
    let t = c.read_package-r.ensures in
    let g = c.in-Ok.is in
    let e = rw g at t.result_after in
    let inside = rw g at t.result_bound in
    let few = rw g at t.result_bound_2 in
    let marked = rw g at t.firsts_held in
    let fs = c.read_package-r.new.firsts in
    let lc : length c.read_package-r.new.coefs ≡ 1024 = c.read_package-r.auto.coefs in
    let lo : length c.read_package-r.new.starts ≡ 1024 = c.read_package-r.auto.starts in
    let ll : length c.read_package-r.new.lens ≡ 1024 = c.read_package-r.auto.lens in
    let lf : length fs ≡ 98 = c.read_package-r.auto.firsts in
    let b = c.list_basis.ensures in
    let x = basis-held _ _ _ _ _ _ fs _ _ c.in-Ok.read.at c.in-Ok.read.line e marked inside.1 (omega arith) (omega arith) (omega arith) (omega arith) in
    record {
      value = b.value ∙ ap (basis_listed _) x ∙ sym (read_listed _ _ _ e);
      out_after = b.out_after ∙ ap (basis_output _) x ∙ sym (read-written _ _ _ e);
    }
