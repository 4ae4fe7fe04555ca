-- A package that does not read is refused by one of the numbers 1 to 7. Each law says that a part's refusal has every property Q that the numbers of that part
-- have.
use mathlib.Core.Path.{◌≡◌, refl}
use mathlib.Core.Bool.{Bool, true, false}
use mathlib.Core.List.{List, [], ◌∷◌, ◌++◌}
use Prim.Native.Nat.{ℕ, suc, ◌≤◌}
use lib.Dec.{ltb, lit≤}
use lib.ListN.{length}
use Rattle.package.specs.Answer.{Answer, refused, read, ◌then◌}
use Rattle.package.specs.Head.{HeadForm, no_head, head, head_form, field_fits, counts_fit}
use Rattle.package.specs.Names.{head_names, term_names, sum_names}
use Rattle.package.specs.Package.{package_limits, names_line, CountsBlock, counts_judged, counts_line, HeadBlock, first_term, term_names_line, head_lines_of, term_block, sum_block, sized, read_with, read_package}
use Rattle.package.specs.Sums.{SumForm, no_sum, sum, sum_form, sum_fits, sum_follows, SumVerdict, judged3, judge_sum, at_end, block3, sums_of}
use Rattle.package.specs.Terms.{TermLine, TermForm, no_term, term, term_form, LineAbove, start, term_fits, follows, has_room, counted, TermVerdict, refused_by, accept, judged, judge_term, TermBlock, terms_read, block2}
use Rattle.package.specs.declared.Head.{Head}
use Rattle.package.specs.declared.Limits.{Limits}
use Rattle.lists.specs.Same.{same}
use Rattle.text.specs.Pieces.{Pieces, final, piece, lines, fields}

module _ (Q : ℕ → Type 0) where
  -- Where a part is refused, its number has the property.
  unfoldable pub Numbered : {A : Type 0} → Answer A → Type 0
  Numbered (refused n k) = Q n
  Numbered (read x) = Unit {0}

  pub then-numbered : {A B : Type 0} (x : Answer A) (f : A → Answer B) → Numbered x → ((a : A) → x ≡ read a → Numbered (f a)) → Numbered (x then f)
  unfolding Numbered ◌then◌
  then-numbered (refused n k) f p q = p
  then-numbered (read a) f p q = q a refl

  -- The head lines.
  pub names_numbered : Q 2 → (names : List ℕ) (n : ℕ) (ls : Pieces) → Numbered (names_line names n ls)
  unfolding Numbered names_line
  names_numbered two names n (final x) = two
  names_numbered two names n (piece l ls) = go (same l names)
    where
      go : (t : Bool) → Numbered {A = Pieces} (elim t [ false ↦ refused 2 n | true ↦ read ls ])
      go false = two
      go true = tt

  counts-numbered : Q 2 → Q 3 → Q 4 → (f : HeadForm) (ls : Pieces) → Numbered (counts_judged f ls)
  unfolding Numbered counts_judged
  counts-numbered two three four no_head ls = two
  counts-numbered two three four (head h) ls = go (field_fits h.p) (counts_fit h)
    where
      go : (t u : Bool) → Numbered {A = CountsBlock} (elim t [ false ↦ refused 3 2 | true ↦ elim u [ false ↦ refused 4 2 | true ↦ read (record { head = h; rest = ls }) ] ])
      go false u = three
      go true false = four
      go true true = tt

  line-numbered : Q 2 → Q 3 → Q 4 → (ls : Pieces) → Numbered (counts_line ls)
  unfolding Numbered counts_line
  line-numbered two three four (final x) = two
  line-numbered two three four (piece l ls) = counts-numbered two three four (head_form (fields l)) ls

  pub term_names_numbered : Q 2 → (c : CountsBlock) → Numbered (term_names_line c)
  unfolding Numbered term_names_line
  term_names_numbered two c =
      then-numbered (names_line term_names 3 c.rest) (λ (ms : Pieces). read (record { head = c.head; line = first_term; rest = ms }))
      (names_numbered two term_names 3 c.rest) (λ ms _. tt)

  head-numbered : Q 2 → Q 3 → Q 4 → (ls : Pieces) → Numbered (head_lines_of ls)
  unfolding head_lines_of
  head-numbered two three four ls =
      then-numbered (names_line head_names 1 ls then counts_line) term_names_line
      (then-numbered (names_line head_names 1 ls) counts_line (names_numbered two head_names 1 ls) (λ ms _. line-numbered two three four ms))
      (λ c _. term_names_numbered two c)

  -- Block 2.
  unfoldable TermNumbered : TermVerdict → Type 0
  TermNumbered (refused_by r) = Q r
  TermNumbered (accept k i c w) = Unit {0}

  term-numbered : Q 2 → Q 5 → Q 6 → Q 7 → (h : Head) (m : Limits) (a : LineAbove) (total : ℕ) (f : TermForm) → TermNumbered (judged h m a total f)
  unfolding TermNumbered judged
  term-numbered two five six seven h m a total no_term = two
  term-numbered two five six seven h m a total (term k i c w) = go (term_fits h m k i c w) (follows a k i w) (has_room m a total k i)
    where
      go : (x y z : Bool) → TermNumbered (elim x [ false ↦ refused_by 5 | true ↦ elim y [ false ↦ refused_by 6 | true ↦ elim z [ false ↦ refused_by 7 | true ↦ accept k i c w ] ] ])
      go false y z = five
      go true false z = six
      go true true false = seven
      go true true true = tt

  terms-numbered : Q 2 → Q 5 → Q 6 → Q 7 → (h : Head) (m : Limits) (ls : Pieces) (a : LineAbove) (ts : List TermLine) (n : ℕ) → Numbered (block2 h m a ts n ls)
  unfolding Numbered block2 TermNumbered judge_term
  terms-numbered two five six seven h m (final x) a ts n = two
  terms-numbered two five six seven h m (piece l ls) a ts n =
      go (same l sum_names) (judge_term h m a (length ts) l) (term-numbered two five six seven h m a (length ts) (term_form (fields l)))
      (λ b us. terms-numbered two five six seven h m ls b us (suc n))
    where
      go : (t : Bool) (v : TermVerdict) → TermNumbered v → ((b : LineAbove) (us : List TermLine) → Numbered (block2 h m b us (suc n) ls))
          → Numbered {A = TermBlock} (elim t [
            | true ↦ terms_read h ts (suc n) ls
            | false ↦ elim v [
              | refused_by r ↦ refused r n
              | accept k i c w ↦
                  block2 h m (record { kind = k; item = i; word = w; count = counted a k i }) (ts ++ (record { kind = k; item = i; coef = c; word = w } ∷ [])) (suc n) ls
            ]
          ])
      go true v x more = tt
      go false (refused_by r) x more = x
      go false (accept k i c w) x more = more _ _

  pub term-block-numbered : Q 2 → Q 5 → Q 6 → Q 7 → (m : Limits) (b : HeadBlock) → Numbered (term_block m b)
  unfolding term_block
  term-block-numbered two five six seven m b = terms-numbered two five six seven b.head m b.rest start [] b.line

  -- Block 3.
  unfoldable SumNumbered : SumVerdict → Type 0
  SumNumbered (SumVerdict.refused_by r) = Q r
  SumNumbered (SumVerdict.accept k i) = Unit {0}

  sum-numbered : Q 2 → Q 5 → Q 6 → (h : Head) (m : Limits) (k i : ℕ) (f : SumForm) → SumNumbered (judged3 h m k i f)
  unfolding SumNumbered judged3
  sum-numbered two five six h m k i no_sum = two
  sum-numbered two five six h m k i (sum k' i' c l o r) = go (sum_fits h m k' i' c l o r) (sum_follows k i k' i')
    where
      go : (x y : Bool) → SumNumbered (elim x [ false ↦ SumVerdict.refused_by 5 | true ↦ elim y [ false ↦ SumVerdict.refused_by 6 | true ↦ SumVerdict.accept k' i' ] ])
      go false y = five
      go true false = six
      go true true = tt

  sums-numbered : Q 2 → Q 5 → Q 6 → (h : Head) (m : Limits) (ls : Pieces) (k i n : ℕ) → Numbered (block3 h m k i n ls)
  unfolding Numbered block3 at_end judge_sum SumNumbered
  sums-numbered two five six h m (final []) k i n = tt
  sums-numbered two five six h m (final (x ∷ xs)) k i n = two
  sums-numbered two five six h m (piece l ls) k i n =
      go (judge_sum h m k i l) (sum-numbered two five six h m k i (sum_form (fields l))) (λ k i. sums-numbered two five six h m ls k i (suc n))
    where
      go : (v : SumVerdict) → SumNumbered v → ((k i : ℕ) → Numbered (block3 h m k i (suc n) ls))
          → Numbered {A = Unit {0}} (elim v [ SumVerdict.refused_by r ↦ refused r n | SumVerdict.accept k i ↦ block3 h m k i (suc n) ls ])
      go (SumVerdict.refused_by r) x more = x
      go (SumVerdict.accept k i) x more = more k i

  pub sum-block-numbered : Q 2 → Q 5 → Q 6 → (m : Limits) (t : TermBlock) → Numbered (sum_block m t)
  unfolding Numbered sum_block
  sum-block-numbered two five six m t =
      then-numbered (block3 t.head m 0 0 t.line t.rest) (λ _. read (record { head = t.head; terms = t.terms; sums = sums_of t.line t.rest }))
      (sums-numbered two five six t.head m t.rest 0 0 t.line) (λ _ _. tt)

  -- The whole.
  pub size-numbered : Q 1 → (bytes : List ℕ) → Numbered (sized bytes)
  unfolding Numbered sized
  size-numbered one bytes = go (ltb 65536 (length bytes))
    where
      go : (t : Bool) → Numbered {A = Pieces} (elim t [ true ↦ refused 1 0 | false ↦ read (lines bytes) ])
      go true = one
      go false = tt

  read-numbered : Q 1 → Q 2 → Q 3 → Q 4 → Q 5 → Q 6 → Q 7 → (bytes : List ℕ) → Numbered (read_package bytes)
  unfolding read_package read_with
  read-numbered one two three four five six seven bytes =
      then-numbered (sized bytes then head_lines_of then term_block package_limits) (sum_block package_limits)
      (then-numbered (sized bytes then head_lines_of) (term_block package_limits)
      (then-numbered (sized bytes) head_lines_of (size-numbered one bytes) (λ ls _. head-numbered two three four ls))
      (λ b _. term-block-numbered two five six seven package_limits b))
      (λ t _. sum-block-numbered two five six package_limits t)

-- One of the numbers 1 to 7.
abbrev pub Known : ℕ → Type 0
Known n = (1 ≤ n) × (n ≤ 7)

pub read_known : (bytes : List ℕ) → Numbered Known (read_package bytes)
read_known =
    read-numbered Known (lit≤ tt, lit≤ tt) (lit≤ tt, lit≤ tt) (lit≤ tt, lit≤ tt) (lit≤ tt, lit≤ tt) (lit≤ tt, lit≤ tt) (lit≤ tt, lit≤ tt) (lit≤ tt, lit≤ tt)
