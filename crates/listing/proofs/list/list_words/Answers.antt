-- `list_words` lists the pairs of words where the list fits, and says 19 where it does not.
use mathlib.Core.Path.{sym, ◌∙◌, ap, ap₂}
use Prim.Native.Nat.{ℕ, ◌≤◌, ◌<◌}
use native.Mathlib.Omega.{arith}
use lib.ListN.{length}
use Rattle.overlapsearch.specs.Leading.{words_in}
use Rattle.overlaps.specs.Listing.{overlap_text}
use Rattle.services.proofs.Room.{refused_list, no_room, no_room-kept, room_listed, room-written}
use Rattle.listing.proofs.list.list_words.Goals as goal

pub returns-then-out-m : goal.returns-then-out-m
returns-then-out-m c =
    let m = c.measure-m.ensures in
    let ws = words_in c.args.words.now in
    let l : length c.args.out.now < length (overlap_text ws) = omega (arith, c.if-out-m.true, m.bytes_value) in
    record {
      value = c.refusal.ensures ∙ ap (refused_list 19) m.bytes_value ∙ sym (no_room ws _ l);
      out_after = sym (no_room-kept (overlap_text ws) _ l);
    }

pub write_list-written-requires : goal.write_list-written-requires
write_list-written-requires c =
    let m = c.measure-m.ensures in
    record {
      counted = m.count_value;
      kept_pairs = m.kept_pairs;
      in_bounds = omega (arith, c.if-out-m.false, m.bytes_value);
    }

pub returns : goal.returns
returns c =
    let m = c.measure-m.ensures in
    let w = c.write_list-written.ensures in
    let ws = words_in c.args.words.now in
    let l : length (overlap_text ws) ≤ length c.args.out.now = omega (arith, c.if-out-m.false, m.bytes_value) in record {
      value = ap₂ (λ (a b : ℕ). record { number = 0; place = 0; overlaps = a; written = b }) m.count_value w.value ∙ sym (room_listed ws _ l);
      out_after = w.out_after ∙ sym (room-written (overlap_text ws) _ l);
    }
