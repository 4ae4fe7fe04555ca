-- How a row of the tables of examples follows from what is computed for it.
use mathlib.Core.Path.{◌≡◌, refl, sym, ◌∙◌, ap}
use mathlib.Core.List.{List, []}
use Prim.Native.Nat.{ℕ, ◌≤◌, ◌<◌}
use native.Mathlib.Nat.{zero-add}
use native.Mathlib.Omega.{arith}
use lib.ListN.{length}
use Rattle.field.specs.Field.{field_of}
use Rattle.std.specs.declared.cmp.Ordering.TheVariants.{Greater}
use Rattle.words.specs.Word.{Word}
use Rattle.words.specs.Order.{word_order}
use Rattle.algebra.specs.Poly.{Poly}
use Rattle.algebra.specs.Steps.{Ended, answer, over, spent, run}
use Rattle.text.specs.Word.{word, word_of}
use Rattle.package.specs.Formula.{FormulaOutcome, wrong_at, formula, read_formula}
use Rattle.package.specs.Package.{Package, read}
use Rattle.package.specs.Writing.{write_formula}
use Rattle.overlaps.specs.Overlaps.{leads, overlaps}
use Rattle.overlaps.specs.Listing.{overlap_text}
use Rattle.acceptance.specs.Content.{basis}
use Rattle.acceptance.specs.Acceptance.{acceptance}
use Rattle.acceptance.specs.Reduction.{formula_limits, refused_by, short_form, reduction_of, formula_reduced, package_reduced, reduction}
use Rattle.services.specs.Services.{listable, check_answer, checked_as, list_answer, listed_as, list_output, listed_into, short_answer, shortened_as, short_output, shortened_into, member_answer, membership_as}
use Rattle.services.specs.Examples.{Shortens, IsAbove, Lists, IsAccepted, IsMember, Refuses}
use Rattle.services.proofs.Budgets.{run_more, run-fewer}
use Rattle.services.proofs.Room.{no_room, no_room-kept, room_listed, short_no_room, short-room}
use Rattle.services.proofs.OutputStart.{fitted-start}

-- A short form after m steps comes of a run that took them.
ended_with : (N : Poly) (m : ℕ) (e : Ended) → reduction_of m e ≡ short_form N m → e ≡ answer N m
unfolding reduction_of
ended_with N m (answer M k) q = cc
ended_with N m (over k) q = cc
ended_with N m spent q = cc

-- The budget m gives a formula the short form N after m steps: so does every greater one, and a lesser one gives 18.
module _ (P : Package) (N : Poly) (m : ℕ) where
  more : (o : FormulaOutcome) → formula_reduced P m o ≡ short_form N m → (budget : ℕ) → m ≤ budget → formula_reduced P budget o ≡ short_form N m
  unfolding formula_reduced reduction_of
  more (wrong_at n) q budget h = cc
  more (formula f) q budget h =
      let K = field_of P.head.p in
      ap (reduction_of budget) (run_more 512 K word_order (basis P) m budget 0 f N m h (ended_with N m (run 512 K word_order (basis P) m 0 f) q))

  less : (o : FormulaOutcome) → formula_reduced P m o ≡ short_form N m → (budget : ℕ) → budget < m → formula_reduced P budget o ≡ refused_by 18 budget
  unfolding formula_reduced reduction_of
  less (wrong_at n) q budget h = cc
  less (formula f) q budget h =
      let K = field_of P.head.p in
      ap (reduction_of budget)
      (run-fewer 512 K word_order (basis P) m budget 0 m f N h (ended_with N m (run 512 K word_order (basis P) m 0 f) q ∙ ap (answer N) (sym (zero-add m))))

-- The same of the bytes of a package that is accepted as P.
module _ (bytes : List ℕ) (P : Package) (acc : acceptance bytes ≡ read P) (text : List ℕ) (N : Poly) (m : ℕ)
    (computed : package_reduced text m (read P) ≡ short_form N m) where
  reduced-more : (budget : ℕ) → m ≤ budget → reduction bytes text budget ≡ short_form N m
  unfolding reduction package_reduced
  reduced-more budget h = ap (package_reduced text budget) acc ∙ more P N m (read_formula P.head.p P.head.letters formula_limits text) computed budget h

  reduced-less : (budget : ℕ) → budget < m → reduction bytes text budget ≡ refused_by 18 budget
  unfolding reduction package_reduced
  reduced-less budget h = ap (package_reduced text budget) acc ∙ less P N m (read_formula P.head.p P.head.letters formula_limits text) computed budget h

-- A row of a short form, from the computation with just as many steps as the budget.
pub shortens : {bytes : List ℕ} {P : Package} → acceptance bytes ≡ read P
    → {text : List ℕ} {N : Poly} {m : ℕ} → package_reduced text m (read P) ≡ short_form N m
    → {short : List ℕ} → write_formula N ≡ short → Shortens bytes text short m
unfolding shortened_as shortened_into short_answer short_output
shortens {bytes} {P} acc {text} {N} {m} computed e = rw (← e) (record {
  enough = λ budget out h l. let r = reduced-more bytes P acc text N m computed budget h in (
    ap (short_answer (length out)) r ∙ short-room N m (length out) l,
    ap (short_output out) r ∙ fitted-start (write_formula N) out l,
  );
  fewer = λ budget out h. let r = reduced-less bytes P acc text N m computed budget h in (ap (short_answer (length out)) r, ap (short_output out) r);
  narrow = λ budget out h l. let r = reduced-more bytes P acc text N m computed budget h in (
    ap (short_answer (length out)) r ∙ short_no_room N m (length out) l,
    ap (short_output out) r ∙ no_room-kept (write_formula N) out l,
  );
})

-- A row of a member.
pub is_member : {bytes : List ℕ} {P : Package} → acceptance bytes ≡ read P
    → {text : List ℕ} {m : ℕ} → package_reduced text m (read P) ≡ short_form [] m → IsMember bytes text m
unfolding membership_as member_answer
is_member {bytes} {P} acc {text} {m} computed = record {
  enough = λ budget h. ap member_answer (reduced-more bytes P acc text [] m computed budget h);
  fewer = λ budget h. ap member_answer (reduced-less bytes P acc text [] m computed budget h);
}

-- A row of a refusal: of the formula or of the budget, whatever the room; or of the room.
pub refuses : {bytes : List ℕ} {P : Package} → acceptance bytes ≡ read P
    → {text : List ℕ} {budget n k : ℕ} → package_reduced text budget (read P) ≡ refused_by n k → {room : ℕ} → Refuses bytes text budget room n k
unfolding shortened_as shortened_into short_answer short_output reduction
refuses acc {text} {budget} computed {room} =
    let r = ap (package_reduced text budget) acc ∙ computed in record { kept = λ out l. (ap (short_answer room) r, ap (short_output out) r) }

pub lacks_room : {bytes : List ℕ} {P : Package} → acceptance bytes ≡ read P
    → {text : List ℕ} {budget m : ℕ} {N : Poly} → package_reduced text budget (read P) ≡ short_form N m
    → {room k : ℕ} → length (write_formula N) ≡ k → room < k → Refuses bytes text budget room 19 k
unfolding shortened_as shortened_into short_answer short_output reduction
lacks_room acc {text} {budget} {m} {N} computed {room} e h = rw (← e) (record {
  kept = λ out l. let r = ap (package_reduced text budget) acc ∙ computed in (
    ap (short_answer room) r ∙ short_no_room N m room (omega arith),
    ap (short_output out) r ∙ no_room-kept (write_formula N) out (omega arith),
  );
})

-- A row of two words.
pub is_above : {u v : List ℕ} {x y : Word} → word_of u ≡ word x → word_of v ≡ word y → word_order x y ≡ Greater → IsAbove u v
is_above {x = x} {y} a b c = record { first = x; second = y; says_first = a; says_second = b; greater = c }

-- A row of a list.
pub lists : {bytes : List ℕ} {P : Package} → listable bytes ≡ read P
    → {count : ℕ} {list : List ℕ} → length (overlaps (leads (basis P))) ≡ count → overlap_text (leads (basis P)) ≡ list → Lists bytes count list
unfolding listed_as listed_into list_answer list_output
lists {P = P} acc c t = rw (← t, ← c) (record {
  enough = λ out l. (
    ap (list_answer (length out)) acc ∙ room_listed (leads (basis P)) (length out) l,
    ap (list_output out) acc ∙ fitted-start (overlap_text (leads (basis P))) out l,
  );
  narrow = λ out l. (
    ap (list_answer (length out)) acc ∙ no_room (leads (basis P)) (length out) l,
    ap (list_output out) acc ∙ no_room-kept (overlap_text (leads (basis P))) out l,
  );
})

-- A row of an accepted package.
pub accepts : {bytes : List ℕ} {P : Package} → acceptance bytes ≡ read P → {count : ℕ} → length (overlaps (leads (basis P))) ≡ count → IsAccepted bytes count
unfolding checked_as check_answer
accepts acc c = record { answered = ap check_answer acc ∙ rw c refl }
