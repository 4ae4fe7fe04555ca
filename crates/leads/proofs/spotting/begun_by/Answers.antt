-- `begun_by` is the mask of the words that stand at the place. The invariant: `CodeSieve` at row k, of every list that the masks are the index of, and v
-- has the letters from place k on in front.
use mathlib.Core.Path.{◌≡◌, refl}
use native.Mathlib.Omega.{arith}
use Rattle.leads.proofs.Sliding.{ahead_start, ahead_letter, ahead_next}
use Rattle.leads.proofs.CodeSieve.{codes-start, codes-next, codes-none, codes-end}
use borrow.Author.Rules.{rules}
use Rattle.leads.proofs.spotting.begun_by.Goals as goal

pub loop-k-init : goal.loop-k-init
loop-k-init c = (search rules, (λ u f. ahead_start f), λ ls u i f. codes-start i)

pub returns-then-left-eq0 : goal.returns-then-left-eq0
returns-then-left-eq0 c =
    let m = c.loop-k in
    let t = c.loop-k-test.true in
    λ ls u i f. codes-none i (omega arith) (m.invariant.2 ls u i f) (ahead_letter f m.k m.v (m.invariant.1 u f) t) (omega arith) c.if-left-eq0.true

pub loop-k-preserved : goal.loop-k-preserved
loop-k-preserved c =
    let m = c.loop-k in
    let t = c.loop-k-test.true in
    let r = c.next_letters-v.ensures in (
      r.2,
      (λ u f. ahead_next f m.k m.v (m.invariant.1 u f) _ r.0 r.1),
      λ ls u i f. codes-next i (omega arith) (m.invariant.2 ls u i f) (ahead_letter f m.k m.v (m.invariant.1 u f) t) (omega arith),
    )

pub returns : goal.returns
returns c =
    let m = c.loop-k in
    let e : m.k ≡ 24 = omega arith in
    λ ls u i f. codes-end i (omega arith) (rw e at (m.invariant.2 ls u i f)) refl
