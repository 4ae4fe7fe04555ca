-- `read_package`: the first sum line has the number behind the terms.
use mathlib.Core.Path.{sym}
use Rattle.package.proofs.Joining.{package_line}
use Rattle.package.proofs.TermSlices.{kept-length}
use Rattle.package.specs.Held.{seen_head_lines, seen_terms, TermsHeld, spot_all, line_all, LineHeld}
use Rattle.package.specs.Package.{package_limits}
use Rattle.reading.proofs.read.read_package.Goals as goal

pub returns-clause-result_in_bounds : goal.returns-clause-result_in_bounds
unfolding seen_head_lines seen_terms TermsHeld spot_all line_all LineHeld
returns-clause-result_in_bounds c =
    let s = c.args.s.now in
    let n = c.read_terms.new in
    let t = c.in_ok-block.ensures.terms_held in (
      t.1,
      t.2,
      package_line package_limits s c.if-s-gt65536.false _ (sym c.in_ok-above.ensures.result_value) _ (sym c.in_ok-block.ensures.result_after) _
          (kept-length s n.kinds n.items n.coefs n.starts n.lens _),
    )
