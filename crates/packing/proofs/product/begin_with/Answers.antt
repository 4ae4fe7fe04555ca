-- `begin_with` is left × word, by one of two ways.
use mathlib.Core.Path.{◌∙◌, ap}
use mathlib.Core.List.{◌++◌}
use lib.ListN.{take, drop}
use Rattle.words.specs.Word.{Word}
use Rattle.packedwords.specs.Packed.{unpacked}
use Rattle.packing.proofs.Stores.{begun_packs, begun_word}
use borrow.Author.Rules.{rules}
use Rattle.packing.proofs.product.begin_with.Goals as goal

pub append-requires : goal.append-requires
append-requires c =
    let e = c.begin.ensures in
    record {
      n_bound = (search rules, search rules, e.0, search rules);
      packs = (begun_packs _ _ e.1 e.2 _ (search rules), search rules);
    }

pub returns : goal.returns
returns c =
    let e = c.begin.ensures in
    let one = begun_word _ _ e.1 e.2 c.args.a c.requires.packs.0 in
    let two = c.append.ensures in
    let w = unpacked c.args.n (take 2 (drop c.args.from c.args.word.now)) in
    record {
      value = two.value;
      dst_after = two.dst_after ∙ ap (λ (x : Word). x ++ w) one;
    }
