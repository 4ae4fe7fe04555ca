-- `write_short` writes the short form where it fits, and says 19 where it does not.
use mathlib.Core.Path.{sym, ◌∙◌, ap, ap₂}
use Prim.Native.Nat.{ℕ, ◌≤◌, ◌<◌}
use native.Mathlib.Omega.{arith}
use lib.ListN.{length}
use Rattle.packedterms.specs.InFormula.{formula_in}
use Rattle.packedterms.proofs.Places.{term-place}
use Rattle.package.specs.Writing.{write_formula}
use Rattle.services.specs.Demands.{refused_short}
use Rattle.services.proofs.Room.{no_room-kept, room-written, short_no_room, short-room}
use Rattle.shortwriting.proofs.short.write_short.Goals as goal

pub text_len-needed-requires : goal.text_len-needed-requires
text_len-needed-requires c = (c.requires.count, λ k h. term-place _ _ _ _ _ _ c.requires k h)

pub returns-then-out-needed : goal.returns-then-out-needed
returns-then-out-needed c =
    let s = c.args in
    let t = c.text_len-needed.ensures c.args.t.now c.args.f.now.blocks in
    let N = formula_in s.t.now s.f.now in
    let l : length s.out.now < length (write_formula N) = omega (arith, c.if-out-needed.true, t) in
    record {
      value = c.refusal.ensures ∙ ap (refused_short 19) t ∙ sym (short_no_room N s.steps _ l);
      out_after = sym (no_room-kept (write_formula N) _ l);
    }

pub write_text-written-requires : goal.write_text-written-requires
write_text-written-requires c =
    let t = c.text_len-needed.ensures c.args.t.now c.args.f.now.blocks in
    record {
      holds = c.requires;
      fits = omega (arith, c.if-out-needed.false, t);
    }

pub returns : goal.returns
returns c =
    let s = c.args in
    let t = c.text_len-needed.ensures c.args.t.now c.args.f.now.blocks in
    let w = c.write_text-written.ensures in
    let N = formula_in s.t.now s.f.now in
    let l : length (write_formula N) ≤ length s.out.now = omega (arith, c.if-out-needed.false, t) in record {
      value = ap₂ (λ (m b : ℕ). record { number = 0; place = 0; steps = m; written = b }) c.from.ensures w.value ∙ sym (short-room N s.steps _ l);
      out_after = w.out_after ∙ sym (room-written (write_formula N) _ l);
    }
