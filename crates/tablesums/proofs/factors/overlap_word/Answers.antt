-- `overlap_word` makes the first leading word with the right factor behind it.
use mathlib.Core.Path.{◌∙◌}
use Prim.Native.Nat.{suc, ◌+◌}
use native.Mathlib.Omega.{arith}
use Rattle.tablesums.proofs.Fitting.{empty-short}
use Rattle.tablesums.proofs.CutFactors.{lead-found, overlap_made}
use Rattle.tablesums.proofs.factors.overlap_word.Goals as goal

pub build-requires : goal.build-requires
build-requires c =
    let e = c.gens_in.ensures in
    let (tabled, first, r) = c.requires in
    let l = lead-found c.args.t.now tabled (suc c.args.f.first) c.first_in-first.result (c.gens_in.result + 1 + c.args.f.first) c.first_in-first.ensures (omega arith) (omega arith) first in
    record {
      tabled = (tabled, l.inside);
      sixfold = ((empty-short c.args.t.now).short.six, r.short.six, omega (arith, r.short.few, l.few));
    }

pub returns : goal.returns
returns c =
    let e = c.gens_in.ensures in
    let (tabled, first, r) = c.requires in
    let t = c.args.t.now in
    let l = lead-found t tabled (suc c.args.f.first) c.first_in-first.result (c.gens_in.result + 1 + c.args.f.first) c.first_in-first.ensures (omega arith) (omega arith) first in
    record {
      built = c.build.ensures.built;
      lap_after = c.build.ensures.word ∙ overlap_made t c.args.f _ _ _ (empty-short t).word r.word l.word;
    }
