-- `append_term`: the word is packed, and stored with its coefficient behind the others.
use native.Mathlib.Omega.{arith}
use lib.Seq.{take_all}
use Rattle.packedterms.proofs.NewTerm.{last-holds, last-formula}
use Rattle.packedtexts.proofs.loading.append_term.Goals as goal

pub returns : goal.returns
returns c =
    let (held, free) = c.requires.holds in
    let six = c.pack_word.ensures.sixfold in
    let word = c.pack_word.ensures.dst_after_3 in
    let put = rw (take_all 6 c.pack_word.new.dst (omega (arith, six.six))) at c.put_last.ensures.stored in
    let (places, terms) = c.put_last.ensures.entries in
    let more = last-formula _ _ _ _ _ _ _ _ _ _ _ _ held free six.six six.held put in
    rw (places, terms) record {
      terms = omega arith;
      holds_2 = last-holds _ _ _ _ _ _ _ _ _ _ _ _ held free six.six six.held put;
      appended = rw word at more;
    }
