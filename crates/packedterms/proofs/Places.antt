-- What follows where the arrays hold a formula: entries are places, coefficients are elements, words fall; terms may be fewer, and entries moved.
use mathlib.Core.Path.{◌≡◌, sym, ap, ◌∙◌}
use mathlib.Core.List.{List}
use Prim.Native.Nat.{ℕ, ◌*◌, ◌+◌, ◌≤◌, ◌<◌}
use native.Mathlib.Omega.{arith}
use lib.ListN.{length, get_or}
use Rattle.field.proofs.Fields.{below_of}
use Rattle.words.specs.Order.{Lt}
use Rattle.working.specs.Working.{Arranged}
use Rattle.working.specs.Rotation.{Moved}
use Rattle.working.proofs.Falling.{written-coef, written_falls}
use Rattle.table.specs.Table.{prime_in, field_in, order_in}
use Rattle.packedterms.specs.Formula.{word_at, term_at, Room, Holds, Working}

module _ (t c l w o : List ℕ) (n : ℕ) (f : Holds t c l w o n) where
  pub entry_place : (i : ℕ) → i < 560 → get_or o i 0 < 560
  entry_place i h = let e = f.room.places in let q = f.arranged.inside i (omega arith) in omega arith

  pub term-place : (i : ℕ) → i < n → get_or o i 0 < 560
  term-place i h = let q = f.count in entry_place i (omega arith)

  -- the blocks of a place are inside
  pub place_inside : (i : ℕ) → i < 560 → get_or o i 0 * 6 + 6 ≤ length w
  place_inside i h = let e = f.room.blocks in let q = entry_place i h in omega arith

  pub holds-less : (m : ℕ) → m ≤ n → Holds t c l w o m
  holds-less m h = record {
    count = let q = f.count in omega arith;
    room = f.room;
    arranged = f.arranged;
    held = λ i q. f.held i (omega arith);
  }

module _ (t c l w o : List ℕ) (n : ℕ) (f : Working t c l w o n) where
  pub coef-small : (i : ℕ) → i < n → get_or c (get_or o i 0) 0 < prime_in t
  coef-small i h =
      below_of (prime_in t) (written-coef (field_in t) (order_in t) (term_at t c l w o) 0 n f.written i (omega arith) (omega arith))

  pub words_fall : (i j : ℕ) → i < j → j < n → Lt (order_in t) (word_at t l w (get_or o j 0)) (word_at t l w (get_or o i 0))
  words_fall i j h k = written_falls (field_in t) (order_in t) (term_at t c l w o) 0 n f.written i j (omega arith) h (omega arith)

-- Whatever the arrays hold, they hold the formula of no terms.
pub holds-none : (t c l w o : List ℕ) → Arranged o → Room c l w o → Holds t c l w o 0
holds-none t c l w o a r = record { count = omega arith; room = r; arranged = a; held = λ i h. absurd (omega arith) }

-- Entries moved, by a move that can be undone.
module _ (t c l w o o' : List ℕ) (n : ℕ) (σ τ : ℕ → ℕ) (undo : (j : ℕ) → τ (σ j) ≡ j)
    (all : (j : ℕ) → j < length o → σ j < length o) (first : (j : ℕ) → j < n → σ j < n) (mv : Moved σ o o') where
  pub holds_moved : Holds t c l w o n → Holds t c l w o' n
  holds_moved f =
      let e = mv.size in
      let r = f.room in
      let a = f.arranged in
      record {
        count = f.count;
        room = record { coefs = r.coefs; sizes = r.sizes; blocks = r.blocks; places = e ∙ r.places };
        arranged = record {
          inside = λ i h. rw (mv.at i, e) (a.inside (σ i) (all i (rw e at h)));
          apart = λ i j h k q.
              sym (undo i)
              ∙ ap τ (a.apart (σ i) (σ j) (all i (rw e at h)) (all j (rw e at k)) (sym (mv.at i) ∙ q ∙ mv.at j))
              ∙ undo j;
        };
        held = λ i h. rw (mv.at i) (f.held (σ i) (first i h));
      }
