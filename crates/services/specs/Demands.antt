-- The page of promises: each of the three demands on the services is a type, with its sentence above it. `demands` (proofs/Demands.antt) proves all three.
--
-- They speak of what the services answer by definition (Services.antt): `checked_as`, `listed_as`, `shortened_as` and `membership_as` are the answers,
-- `listed_into` and `shortened_into` the output slice at exit. The contract of each exported function says that its answer and every byte of the output
-- slice equal these definitions. No contract has a precondition, and a proved function returns; so every service ends on any bytes, and what stands here
-- of the definitions holds of what a C program gets.
use Rattle.std.specs.Prelude.{◌≡◌, ◌↔◌, ◌≢◌, ◌⊎◌, ℕ, suc, ◌≤◌, ◌<◌, length, take, drop}
use mathlib.Core.List.{List, [], ◌∷◌, ◌++◌, Memᴰ}
use Rattle.field.specs.Field.{Field, field_of}
use Rattle.words.specs.Word.{Letter}
use Rattle.words.specs.Order.{word_order}
use Rattle.algebra.specs.Poly.{Term, Poly, InLetters, sub}
use Rattle.algebra.specs.Ideal.{family, InIdeal}
use Rattle.algebra.specs.Written.{Written}
use Rattle.algebra.specs.Rewriting.{StepAt}
use Rattle.algebra.specs.Short.{Short}
use Rattle.algebra.specs.StepRule.{StepRule, NoStep}
use Rattle.algebra.specs.Steps.{stepped}
use Rattle.package.specs.Formula.{wrong_at, formula, read_formula}
use Rattle.package.specs.Head.{MeansField}
use Rattle.package.specs.NoField.{NoField}
use Rattle.package.specs.Package.{Package, read, read_package}
use Rattle.package.specs.Readable.{Readable}
use Rattle.package.specs.Writing.{write_formula, write_package}
use Rattle.overlaps.specs.Pairs.{Pair, IsPair, Before, Rising}
use Rattle.overlaps.specs.Overlaps.{leads}
use Rattle.overlaps.specs.Listing.{overlap_names, overlap_lines}
use Rattle.acceptance.specs.Content.{relations, basis}
use Rattle.acceptance.specs.Facts.{Acceptable}
use Rattle.acceptance.specs.ZeroBasis.{ZeroBasis}
use Rattle.acceptance.specs.Reduction.{formula_limits, Reduction, refused_by, short_form, reduction}
use Rattle.services.specs.declared.Checked.{Checked}
use Rattle.services.specs.declared.Listed.{Listed}
use Rattle.services.specs.declared.Shortened.{Shortened}
use Rattle.services.specs.declared.Membership.{Membership}
use Rattle.services.specs.Services.{checked_as, listed_as, listed_into, shortened_as, shortened_into, membership_as}

-- ==== Words that the demands use

-- The bytes are read as the package P, and the check answers number 0: the package is accepted.
pub record AcceptedAs (bytes : List ℕ) (P : Package) : Type 0 where
  pub reads : read_package bytes ≡ read P
  pub answered : (checked_as bytes).number ≡ 0

-- Under the package P the formula's bytes are read as the polynomial f: at most 48 terms, in the package's letters.
abbrev pub ReadAs : Package → List ℕ → Poly → Type 0
ReadAs P text f = read_formula P.head.p P.head.letters formula_limits text ≡ formula f

-- A text at the start of an output slice; the bytes after it keep their old values.
abbrev pub at_start : List ℕ → List ℕ → List ℕ
at_start text out = text ++ drop (length text) out

-- A refusal of the short form service: number and place, and both counts 0.
abbrev pub refused_short : ℕ → ℕ → Shortened
refused_short n k = record { number = n; place = k; steps = 0; written = 0 }

-- ==== Demand 1: a service answers, or it refuses and changes nothing

-- One of the numbers lo to hi.
abbrev pub Between : ℕ → ℕ → ℕ → Type 0
Between lo hi n = (lo ≤ n) × (n ≤ hi)

-- A refusal by one of 1 to hi. 9 is not among them: it is no longer met (document 02, P2).
abbrev pub Refusing : ℕ → ℕ → Type 0
Refusing hi n = Between 1 hi n × (n ≢ 9)

-- An answer has number 0 and place 0.
abbrev pub Success : ℕ → ℕ → Type 0
Success number place = (number ≡ 0) × (place ≡ 0)

-- The check answers, or it refuses by one of 1 to 15, but not by 9, and counts no pair.
abbrev pub CheckEnds : Checked → Type 0
CheckEnds a = Success a.number a.place ⊎ (Refusing 15 a.number × (a.overlaps ≡ 0))

-- Listing answers, or it refuses by one of 1 to 8 or by 19, with both counts 0, and the output slice is after it what it was before.
abbrev pub ListEnds : Listed → List ℕ → List ℕ → Type 0
ListEnds a before after =
    Success a.number a.place
    ⊎ ((Between 1 8 a.number ⊎ (a.number ≡ 19)) × (a.overlaps ≡ 0) × (a.written ≡ 0) × (after ≡ before))

-- The short form service answers, or it refuses by one of 1 to 19, but not by 9, with both counts 0, and the output slice is after it what it was before.
abbrev pub ShortEnds : Shortened → List ℕ → List ℕ → Type 0
ShortEnds a before after =
    Success a.number a.place ⊎ (Refusing 19 a.number × (a.steps ≡ 0) × (a.written ≡ 0) × (after ≡ before))

-- Membership answers, or it refuses by one of 1 to 18, but not by 9, with 0 steps and no. It never gives 19: it has no output slice.
abbrev pub MemberEnds : Membership → Type 0
MemberEnds a = Success a.number a.place ⊎ (Refusing 18 a.number × (a.steps ≡ 0) × (a.member ≡ 0))

-- Demand 1. Whatever bytes are handed in as a package or a formula, with whatever budget and output slice, every service ends and either answers or
-- refuses by its number, and a refusal leaves the output slice unchanged.
pub record Demand1 : Type 0 where
  pub check : (bytes : List ℕ) → CheckEnds (checked_as bytes)
  pub list : (bytes out : List ℕ) → ListEnds (listed_as bytes (length out)) out (listed_into bytes out)
  pub short : (bytes text : List ℕ) (budget : ℕ) (out : List ℕ)
      → ShortEnds (shortened_as bytes text budget (length out)) out (shortened_into bytes text budget out)
  pub member : (bytes text : List ℕ) (budget : ℕ) → MemberEnds (membership_as bytes text budget)

-- ==== Demand 2: what is answered is what document 01 says

-- The facts of acceptance of document 01, with document 02's P2 and P4, hold of the bytes: they are the text of a package, at most 65,536 of them, that
-- reads, and of which hold the facts about its basis, its overlaps and inclusions, and its sums (acceptance/specs/Facts.antt).
pub record FactsHold (bytes : List ℕ) : Type 0 where
  pub content : Package
  pub is_text : bytes ≡ write_package content
  pub size : length bytes ≤ 65536
  pub readable : Readable content
  pub facts : Acceptable content

-- Every service refuses the package's bytes by number n with place k and counts 0, whatever else is handed in.
pub record EachRefuses (bytes : List ℕ) (n k : ℕ) : Type 0 where
  pub check : checked_as bytes ≡ record { number = n; place = k; overlaps = 0 }
  pub list : (room : ℕ) → listed_as bytes room ≡ record { number = n; place = k; overlaps = 0; written = 0 }
  pub short : (text : List ℕ) (budget room : ℕ) → shortened_as bytes text budget room ≡ refused_short n k
  pub member : (text : List ℕ) (budget : ℕ) → membership_as bytes text budget ≡ record { number = n; place = k; steps = 0; member = 0 }

-- The bytes read as a package that has a zero polynomial in its basis.
abbrev pub SomeZero : List ℕ → Type 0
SomeZero bytes = (i : ℕ) × ZeroBasis bytes i

-- The list holds the overlaps of the package's leading words by 01's sentence and their inclusions by 02's (P2), all of them and nothing else: every
-- overlap before every inclusion, by first, then second, then shared or place, all rising.
pub record OverlapsOf (P : Package) (os : List Pair) : Type 0 where
  pub all : (o : Pair) → Memᴰ o os ↔ IsPair (leads (basis P)) o
  pub order : Rising (Before (leads (basis P))) os

-- Such a list as text: the names line, and below it a line for each, numbered from 1.
abbrev pub list_text : Package → List Pair → List ℕ
list_text P os = overlap_names ++ (10 ∷ overlap_lines (leads (basis P)) 1 os)

-- Listing answers with these overlaps and inclusions: it tells their number, and their text is at the start of the output slice.
pub record ListsOverlaps (P : Package) (a : Listed) (before after : List ℕ) : Type 0 where
  pub rows : List Pair
  pub exact : OverlapsOf P rows
  pub count : a.overlaps ≡ length rows
  pub size : a.written ≡ length (list_text P rows)
  pub output : after ≡ at_start (list_text P rows) before

-- m steps by the rule lead from f to N. Each is the step that the rule names (StepRule: the greatest word that has a leading word inside, at the leftmost
-- place, and of the polynomials that lead there the one with the lowest number); `stepped` subtracts that word's coefficient × inverse of the leading
-- coefficient × left × basis polynomial × right.
pub data StepsTo (P : Package) : Poly → ℕ → Poly → Type 0 where
  unmoved : {f : Poly} → StepsTo P f 0 f
  step_then : {f N : Poly} {m : ℕ} {t : Term} {i n : ℕ} → StepRule word_order (basis P) f t i n
      → StepsTo P (stepped (field_of P.head.p) word_order (basis P) f t i n) m N → StepsTo P f (suc m) N

-- No polynomial on the way from f, through m steps, has over 512 terms.
abbrev pub AtMost512 : Package → Poly → ℕ → Type 0
AtMost512 P f m = (k : ℕ) (g : Poly) → k ≤ m → StepsTo P f k g → length g ≤ 512

-- How the steps from f end within the budget, with what the formula services say of it before they judge 19.
pub data StepsEnd (P : Package) (f : Poly) (budget : ℕ) : Reduction → Type 0 where
  -- after m steps, which the budget allows, no word has a leading word inside: the short form and its step count
  nothing_left : {N : Poly} {m : ℕ} → StepsTo P f m N → NoStep (basis P) N → m ≤ budget → AtMost512 P f m → StepsEnd P f budget (short_form N m)
  -- a step that the budget allows is the first to leave over 512 terms: 17 with the step
  too_many_of : {g : Poly} {m : ℕ} → StepsTo P f (suc m) g → 512 < length g → suc m ≤ budget → AtMost512 P f m → StepsEnd P f budget (refused_by 17 (suc m))
  -- as many steps as the budget has are made, and one is left: 18 with the budget
  budget_used : {g : Poly} → StepsTo P f budget g → (NoStep (basis P) g → ⊥) → AtMost512 P f budget → StepsEnd P f budget (refused_by 18 budget)

-- f comes to N in m steps, where no step is left, and by the rule there is no other end and no other number of steps.
pub record OnlySteps (P : Package) (f : Poly) (m : ℕ) (N : Poly) : Type 0 where
  pub steps : StepsTo P f m N
  pub last : NoStep (basis P) N
  pub only : (k : ℕ) (M : Poly) → StepsTo P f k M → NoStep (basis P) M → (k ≡ m) × (M ≡ N)

-- The short form service answers with the end of the steps from f: it tells how many there are, and that end, written as a formula, is at the start of
-- the output slice.
pub record ShortensBySteps (P : Package) (f : Poly) (a : Shortened) (before after : List ℕ) : Type 0 where
  pub form : Poly
  pub steps : OnlySteps P f a.steps form
  pub size : a.written ≡ length (write_formula form)
  pub output : after ≡ at_start (write_formula form) before

-- Membership answers with the steps from f: it tells how many there are, and yes (1) where their end is zero, no (0) where it is not.
pub record DecidesBySteps (P : Package) (f : Poly) (a : Membership) : Type 0 where
  pub form : Poly
  pub steps : OnlySteps P f a.steps form
  pub yes : form ≡ [] → a.member ≡ 1
  pub no : form ≢ [] → a.member ≡ 0

-- Demand 2. A package is accepted exactly when document 01's facts hold of it; every service refuses exactly when 01 says so, with the number and place
-- given there; and the list of pairs, each rewriting step, the step count, the short form and the yes or no of membership are those of 01's definitions.
-- What document 02 changes of 01 is said where it does: refusal 3 (P9); refusal 8, steps and differences (P4); inclusions, and refusal 9, which is no
-- longer met (P2).
--
-- Numbers and places of the check and of listing are those of their definitions (package/specs/Package.antt for 1 to 7, acceptance/specs/Check.antt for 8
-- and 10 to 15: the first refusal in 01's order), since each contract is equality with Services.antt. The fields below say the rest, in 01's words.
pub record Demand2 : Type 0 where
  pub accepted : (bytes : List ℕ) → ((checked_as bytes).number ≡ 0) ↔ FactsHold bytes
  pub check-count : (bytes : List ℕ) (P : Package) → AcceptedAs bytes P → (os : List Pair) × OverlapsOf P os × ((checked_as bytes).overlaps ≡ length os)
  pub list : (bytes out : List ℕ) → (listed_as bytes (length out)).number ≡ 0
      → (P : Package) × (read_package bytes ≡ read P) × ListsOverlaps P (listed_as bytes (length out)) out (listed_into bytes out)
  -- refusal 3, as document 02 has it (P9): where the bytes are not too many, line 1 is its names, and line 2 has four numbers of which the first is neither
  -- 256 nor a prime up to 65,521, every service gives 3 with place 2; and none gives 3 elsewhere
  pub no_field : (bytes : List ℕ) → NoField bytes → EachRefuses bytes 3 2
  pub check-field : (bytes : List ℕ) → (checked_as bytes).number ≡ 3 → NoField bytes
  pub list-field : (bytes : List ℕ) (room : ℕ) → (listed_as bytes room).number ≡ 3 → NoField bytes
  pub short-field : (bytes text : List ℕ) (budget room : ℕ) → (shortened_as bytes text budget room).number ≡ 3 → NoField bytes
  pub member-field : (bytes text : List ℕ) (budget : ℕ) → (membership_as bytes text budget).number ≡ 3 → NoField bytes
  -- refusal 8, as document 02 has it (P4): where the bytes read and a basis polynomial is zero, every service gives 8 with the number of the first; and
  -- none gives 8 elsewhere
  pub zero-basis : (bytes : List ℕ) (i : ℕ) → ZeroBasis bytes i → EachRefuses bytes 8 i
  pub check-zero : (bytes : List ℕ) → (checked_as bytes).number ≡ 8 → SomeZero bytes
  pub list-zero : (bytes : List ℕ) (room : ℕ) → (listed_as bytes room).number ≡ 8 → SomeZero bytes
  pub short-zero : (bytes text : List ℕ) (budget room : ℕ) → (shortened_as bytes text budget room).number ≡ 8 → SomeZero bytes
  pub member-zero : (bytes text : List ℕ) (budget : ℕ) → (membership_as bytes text budget).number ≡ 8 → SomeZero bytes
  -- `reduction` is what both formula services judge before 19: the whole package as the check does, then 16 with the formula's line, then 17 and 18 as
  -- steps go
  pub package_first : (bytes text : List ℕ) (budget : ℕ) → (checked_as bytes).number ≢ 0
      → reduction bytes text budget ≡ refused_by (checked_as bytes).number (checked_as bytes).place
  pub formula-next : (bytes text : List ℕ) (budget : ℕ) (P : Package) (line : ℕ) → AcceptedAs bytes P
      → read_formula P.head.p P.head.letters formula_limits text ≡ wrong_at line → reduction bytes text budget ≡ refused_by 16 line
  -- the step that the rule names is one of source document 002 (definition 3.4.1), at this word and place and with this polynomial: what it takes away is
  -- the word's coefficient × left × (polynomial divided by its leading coefficient) × right, whatever the polynomial leads with
  pub step : (bytes : List ℕ) (P : Package) → AcceptedAs bytes P → {f : Poly} → Written (field_of P.head.p) word_order f
      → {t : Term} {i n : ℕ} → StepRule word_order (basis P) f t i n
      → StepAt (field_of P.head.p) word_order (family (basis P)) f (stepped (field_of P.head.p) word_order (basis P) f t i n) t i n
  pub steps : (bytes text : List ℕ) (budget : ℕ) (P : Package) (f : Poly) → AcceptedAs bytes P → ReadAs P text f
      → (r : Reduction) → (reduction bytes text budget ≡ r) ↔ StepsEnd P f budget r
  -- its refusals are those of both services; the short form service adds 19 with the bytes required
  pub refusals : (bytes text : List ℕ) (budget n k : ℕ) → reduction bytes text budget ≡ refused_by n k → (room : ℕ)
      → (shortened_as bytes text budget room ≡ refused_short n k) × (membership_as bytes text budget ≡ record { number = n; place = k; steps = 0; member = 0 })
  pub room-last : (bytes text : List ℕ) (budget m : ℕ) (N : Poly) → reduction bytes text budget ≡ short_form N m
      → (room : ℕ) → room < length (write_formula N) → shortened_as bytes text budget room ≡ refused_short 19 (length (write_formula N))
  -- what they answer
  pub short : (bytes text : List ℕ) (budget : ℕ) (out : List ℕ) → (shortened_as bytes text budget (length out)).number ≡ 0
      → (P : Package) × (f : Poly) × AcceptedAs bytes P × ReadAs P text f
      × ShortensBySteps P f (shortened_as bytes text budget (length out)) out (shortened_into bytes text budget out)
  pub member : (bytes text : List ℕ) (budget : ℕ) → (membership_as bytes text budget).number ≡ 0
      → (P : Package) × (f : Poly) × AcceptedAs bytes P × ReadAs P text f × DecidesBySteps P f (membership_as bytes text budget)

-- ==== Demand 3: short forms decide equality modulo the relations

-- f is a sum over the package's relations: some finite list of coefficient × left × relation × right, left and right in the package's letters, adds up to
-- it. Nothing in it is bounded.
abbrev pub RelationSum : Package → Poly → Type 0
RelationSum P f = InIdeal (Letter P.head.letters) (field_of P.head.p) (family (relations P)) f

-- The difference of f and g is such a sum.
abbrev pub EqualModulo : Package → Poly → Poly → Type 0
EqualModulo P f g = RelationSum P (sub (field_of P.head.p) f g)

-- N is in written form (distinct words, greatest first, coefficients 1 to p-1: what 01 calls a polynomial), has no leading word of the basis inside, and
-- differs from f by a sum over the relations.
abbrev pub ShortFormOf : Package → Poly → Poly → Type 0
ShortFormOf P f N = Short (Letter P.head.letters) (field_of P.head.p) word_order (family (relations P)) (family (basis P)) f N

-- A formula gets a short form when its call answers number 0.
abbrev pub GetsShortForm : List ℕ → List ℕ → ℕ → List ℕ → Type 0
GetsShortForm bytes text budget out = (shortened_as bytes text budget (length out)).number ≡ 0

-- The bytes that the call writes to the output slice.
abbrev pub written_bytes : List ℕ → List ℕ → ℕ → List ℕ → List ℕ
written_bytes bytes text budget out = take (shortened_as bytes text budget (length out)).written (shortened_into bytes text budget out)

-- Under the package's bytes some call, with whatever budget and output slice, whose formula is read as f, gets a short form and writes the bytes s.
pub record GetsBytes (bytes : List ℕ) (P : Package) (f : Poly) (s : List ℕ) : Type 0 where
  pub text : List ℕ
  pub budget : ℕ
  pub out : List ℕ
  pub reads : ReadAs P text f
  pub answered : GetsShortForm bytes text budget out
  pub bytes-written : written_bytes bytes text budget out ≡ s

-- The bytes s are the text of the one short form of f. It is in the package's letters, and every polynomial with the two properties equals it: there is
-- no bound on the other's terms and words, and it may even be in other letters. Like every polynomial of 01 it is in written form.
pub record OneShortForm (P : Package) (f : Poly) (s : List ℕ) : Type 0 where
  pub form : Poly
  pub is_text : s ≡ write_formula form
  pub letters : InLetters (Letter P.head.letters) form
  pub is_short : ShortFormOf P f form
  pub only : (M : Poly) → ShortFormOf P f M → M ≡ form

-- Demand 3. Whichever package is accepted, whichever two formulas in its letters are handed in under it, and whatever budget and output slice each has: if
-- both get a short form, the two are the same bytes exactly when the difference of the formulas is a finite sum of coefficient × word × relation × word,
-- of any size; each short form has no leading word of the basis inside and differs from its formula by such a sum; and every other polynomial fails one of
-- these two. So membership says yes exactly of such sums. This is said once for both kinds of coefficients, GF(p) and GF(256), and shown for any field:
-- the number p of a package that is accepted is a prime or 256, and what it means is a field.
pub record Demand3 : Type 0 where
  pub field : {bytes : List ℕ} {P : Package} → AcceptedAs bytes P → MeansField P.head.p × Field (field_of P.head.p)
  pub same_bytes : {bytes : List ℕ} {P : Package} → AcceptedAs bytes P
      → {f g : Poly} {s t : List ℕ} → GetsBytes bytes P f s → GetsBytes bytes P g t → (s ≡ t) ↔ EqualModulo P f g
  pub short-form : {bytes : List ℕ} {P : Package} → AcceptedAs bytes P → {f : Poly} {s : List ℕ} → GetsBytes bytes P f s → OneShortForm P f s
  pub member : {bytes : List ℕ} {P : Package} → AcceptedAs bytes P → (text : List ℕ) (f : Poly) → ReadAs P text f
      → (budget : ℕ) → (membership_as bytes text budget).number ≡ 0 → ((membership_as bytes text budget).member ≡ 1) ↔ RelationSum P f

-- ==== Where the requests of document 02 add to this page
--
-- Demand 1 gets a field for each new service, with the numbers it can give: completing a package (P1: 20, 21), running blocks (P5: 22, 23), counting and
-- listing short words (P7: 24), adding a trail back (P8: 25), carrying short forms (P13: 30 to 32), single coefficients (P14). P8's trail is a second slice
-- that a refusal leaves unchanged. The ranges above grow where the check, the reader or the steps gain a number (P10: 26, 27; P11: 28, 29).
--
-- Demand 2 gets what each new answer is by its definition: a completed package is accepted (P1); words are counted and listed (P7); a trail gives its
-- formula back (P8); every single change that makes a member is listed, once, and nothing else (P14).
--
-- Demand 3 keeps its fields under weights (P10), as it did under any leading coefficient (P4) and untrimmed bases (P2), where `field_of`, `word_order` and
-- `Short` are given by the package. It gains that a formula and its short form act alike on blocks (P5), that the two houses' sums are the same (P11), that
-- every sequence of steps ends in the service's short form (P12), and that a carried short form is the new one of the original formula (P13).
