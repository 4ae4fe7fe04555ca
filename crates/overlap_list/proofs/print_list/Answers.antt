-- What was read is the first of all that was left, and what is printed for it stands in the first of the bytes written.
use Rattle.std.proofs.Common.{◌≡◌, List, ℕ, length, take, subst, ap, rules, ◌∙◌, IfSome}
use Rattle.std.proofs.lemmas.Result.{on_ok_weaker}
use Rattle.std.specs.Io.KnownBytes.{Appends, Consumes}
use Rattle.printing.specs.Printed.{printed_text}
use Rattle.overlap_list.proofs.Streams.{from_filled, take-sets}
use Rattle.overlap_list.proofs.print_list.Goals as goal

pub returns-clause-read : goal.returns-clause-read
returns-clause-read g c =
    let old = g.R.Read.remaining c.args.input.now in
    let new = g.R.Read.remaining c.read_full.new.input in
    let buf = c.read_full.new.buf in
    let room : length buf ≡ 65537 = search rules in
    let P = Consumes old new in
    let read = from_filled P old new buf 65537 c.in_ok-n.n room c.in_ok-n.ensures.bound c.in_ok-n.ensures.bytes c.in_ok-n.ensures.end c.in_ok-n.ensures.bytes in
    on_ok_weaker {Q = IfSome old (λ xs. P (take 65537 xs))} c.write_all.result (λ w. read) c.write_all.ensures.bytes

pub returns-clause-written : goal.returns-clause-written
returns-clause-written g c =
    let old = g.R.Read.remaining c.args.input.now in
    let new = g.R.Read.remaining c.read_full.new.input in
    let buf = c.read_full.new.buf in
    let text = take c.in_ok-n.n buf in
    let room : length buf ≡ 65537 = search rules in
    let P : List ℕ → Type 0 = λ xs. Appends (g.W.Write.contents c.args.output.now) (g.W.Write.contents c.write_all.new.self) (printed_text xs) in
    let stored : take c.print_into-m.result c.print_into-m.new.out ≡ printed_text text =
    ap (take c.print_into-m.result) c.print_into-m.ensures.out_after ∙ take-sets _ _ c.print_into-m.result c.print_into-m.ensures.value.0 c.print_into-m.ensures.value.1 in
    on_ok_weaker {Q = IfSome old (λ xs. P (take 65537 xs))} c.write_all.result
    (λ w. from_filled P old new buf 65537 c.in_ok-n.n room c.in_ok-n.ensures.bound c.in_ok-n.ensures.bytes c.in_ok-n.ensures.end (subst (Appends _ _) stored w))
    c.write_all.ensures.bytes
