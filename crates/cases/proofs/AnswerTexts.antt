-- The text of an answer, by the letter of its service, and what the services with an output slice leave in it.
use mathlib.Core.Path.{◌≡◌, ap, ◌∙◌}
use mathlib.Core.Bool.{Bool}
use mathlib.Core.List.{List, [], ◌∷◌, ◌++◌}
use Prim.Native.Nat.{ℕ, ◌+◌, ◌≤◌}
use borrow.Author.Tests.{eq-eqb, ne_eqb}
use native.Mathlib.Omega.{arith}
use lib.ListN.{length, get_or, take, drop}
use lib.Seq.{sets}
use Rattle.words.specs.Word.{Word}
use Rattle.words.specs.Place.{stands_at, compared_at}
use Rattle.printing.specs.Printed.{numbers_line}
use Rattle.services.specs.declared.Listed.{Listed}
use Rattle.services.specs.declared.Shortened.{Shortened}
use Rattle.services.specs.Services.{checked_as, listed_as, listed_into, shortened_as, shortened_into, membership_as}
use Rattle.trials.specs.PackedBlocks.{packable, six_blocks}
use Rattle.trials.proofs.PackedLetters.{first_six, six-entries}
use Rattle.cases.specs.HeadLine.{room_said, budget_said}
use Rattle.cases.specs.CaseTexts.{checked_text, membership_text, output_text, tildes, listed_text, shortened_text, yes_number, standing_text, packed_text, program_text, answer_text}

-- The letter, and the text that each one asks for.
module _ (head bytes text : List ℕ) where
  abbrev letter : ℕ
  letter = get_or head 0 0

  pub answer-checked : letter ≡ 67 → answer_text head bytes text ≡ checked_text (checked_as bytes)
  unfolding answer_text
  answer-checked h = rw (answer_text, eq-eqb letter 67 h)

  pub answer_listed : letter ≡ 76 → answer_text head bytes text ≡ listed_text bytes (room_said head)
  unfolding answer_text
  answer_listed h = rw (answer_text, ne_eqb letter 67 (λ q. omega arith), eq-eqb letter 76 h)

  pub answer_shortened : letter ≡ 83 → answer_text head bytes text ≡ shortened_text bytes text (budget_said head) (room_said head)
  unfolding answer_text
  answer_shortened h = rw (answer_text, ne_eqb letter 67 (λ q. omega arith), ne_eqb letter 76 (λ q. omega arith), eq-eqb letter 83 h)

  pub answer_membership : letter ≡ 77 → answer_text head bytes text ≡ membership_text (membership_as bytes text (budget_said head))
  unfolding answer_text
  answer_membership h = rw (answer_text, ne_eqb letter 67 (λ q. omega arith), ne_eqb letter 76 (λ q. omega arith), ne_eqb letter 83 (λ q. omega arith), eq-eqb letter 77 h)

  pub answer-standing : letter ≡ 87 → answer_text head bytes text ≡ standing_text bytes text (budget_said head)
  unfolding answer_text
  answer-standing h = rw (answer_text, ne_eqb letter 67 (λ q. omega arith), ne_eqb letter 76 (λ q. omega arith), ne_eqb letter 83 (λ q. omega arith), ne_eqb letter 77 (λ q. omega arith), eq-eqb letter 87 h)

  pub answer-packed : letter ≡ 78 → answer_text head bytes text ≡ packed_text bytes
  unfolding answer_text
  answer-packed h = rw (answer_text, ne_eqb letter 67 (λ q. omega arith), ne_eqb letter 76 (λ q. omega arith), ne_eqb letter 83 (λ q. omega arith), ne_eqb letter 77 (λ q. omega arith), ne_eqb letter 87 (λ q. omega arith), eq-eqb letter 78 h)

  pub answer_program : (letter ≡ 67 → ⊥) → (letter ≡ 76 → ⊥) → (letter ≡ 83 → ⊥) → (letter ≡ 77 → ⊥) → (letter ≡ 87 → ⊥) → (letter ≡ 78 → ⊥)
      → answer_text head bytes text ≡ program_text bytes
  unfolding answer_text
  answer_program c l s m w n =
      rw (answer_text, ne_eqb letter 67 c, ne_eqb letter 76 l, ne_eqb letter 83 s, ne_eqb letter 77 m, ne_eqb letter 87 w, ne_eqb letter 78 n)

-- Listing's answer and its output slice give listing's text.
pub listed_text_lem : (bytes out₀ out : List ℕ) (room n : ℕ) (a : Listed) → n ≡ room → out₀ ≡ tildes → a ≡ listed_as bytes n → out ≡ listed_into bytes (take n out₀) ++ drop n out₀
    → output_text a.number a.place a.overlaps a.written out ≡ listed_text bytes room
unfolding listed_text
listed_text_lem bytes out₀ out room n a p q e f =
    ap (λ (x : Listed). output_text x.number x.place x.overlaps x.written out) e
    ∙ ap (told n) f
    ∙ ap (λ (o : List ℕ). told n (listed_into bytes (take n o) ++ drop n o)) q
    ∙ ap (λ (k : ℕ). told k (listed_into bytes (take k tildes) ++ drop k tildes)) p
  where
    told : ℕ → List ℕ → List ℕ
    told k o = let x = listed_as bytes k in output_text x.number x.place x.overlaps x.written o

-- The short form service's answer and its output slice give its text.
pub shortened_text_lem : (bytes text out₀ out : List ℕ) (budget room m n : ℕ) (a : Shortened) → m ≡ budget → n ≡ room → out₀ ≡ tildes → a ≡ shortened_as bytes text m n
    → out ≡ shortened_into bytes text m (take n out₀) ++ drop n out₀
    → output_text a.number a.place a.steps a.written out ≡ shortened_text bytes text budget room
unfolding shortened_text
shortened_text_lem bytes text out₀ out budget room m n a b p q e f =
    ap (λ (x : Shortened). output_text x.number x.place x.steps x.written out) e
    ∙ ap (told m n) f
    ∙ ap (λ (o : List ℕ). told m n (shortened_into bytes text m (take n o) ++ drop n o)) q
    ∙ ap (λ (k : ℕ). told m k (shortened_into bytes text m (take k tildes) ++ drop k tildes)) p
    ∙ ap (λ (k : ℕ). told k room (shortened_into bytes text k (take room tildes) ++ drop room tildes)) b
  where
    told : ℕ → ℕ → List ℕ → List ℕ
    told j k o = let x = shortened_as bytes text j k in output_text x.number x.place x.steps x.written o

-- The answer of the test whether a word stands at a place gives its text.
pub standing-text : (b w : Word) (place at compared y : ℕ) (t : Bool) → at ≡ place → t ≡ stands_at b w at → compared ≡ compared_at b w at → y ≡ yes_number t
    → standing_text b w place ≡ numbers_line (y ∷ compared ∷ [])
unfolding standing_text
standing-text b w place at compared y t p e f g = rw (g, f, e, p)

-- The answer of packing gives its text.
pub packed-text : (w : Word) (bs : List ℕ) (y : ℕ) (t : Bool) → t ≡ packable w → bs ≡ six_blocks w → y ≡ yes_number t
    → packed_text w ≡ numbers_line (y ∷ first_six bs)
unfolding packed_text
packed-text w bs y t p e g = rw (g, e, p, ← six-entries w)

-- A text that was stored is stored under any name.
pub stored_as : (l l₁ xs ys : List ℕ) (at r : ℕ) → ys ≡ xs → ((r ≡ at + length xs) × (r ≤ length l)) × (l₁ ≡ sets l at xs)
    → ((r ≡ at + length ys) × (r ≤ length l)) × (l₁ ≡ sets l at ys)
stored_as l l₁ xs ys at r e p = rw e p
