-- The first line of a text, field by field: what a field says in the text it says in the line, for no field that is read has a newline in it.
use mathlib.Core.Path.{◌≡◌, refl, sym, ap, ap₂, subst, ◌∙◌}
use mathlib.Core.List.{List, [], ◌∷◌, ◌++◌, append-nil, append_assoc}
use mathlib.Core.Logic.{◌⊎◌, inl, inr, ⊎_elim}
use Prim.Native.Nat.{ℕ, suc, ◌+◌, ◌-◌, ◌≤◌, ◌<◌}
use native.Mathlib.Omega.{arith}
use lib.Dec.{lit<}
use lib.ListN.{length, drop, length-append, length-drop}
use borrow.Author.Tests.{ne_eqb}
use Rattle.std.specs.Prelude.{Option, Some, None}
use Rattle.fieldreading.proofs.FieldReading.{word_of_last}
use Rattle.package.proofs.SumLines.{sum-kind, sum-item, sum-coef, sum_left, sum_of, sum-right, sum-whole}
use Rattle.package.proofs.SumTexts.{known_kind, kind-clear}
use Rattle.package.specs.Held.{some_sum, got_sum_of, next_sum, seen_sum}
use Rattle.package.specs.Names.{sum_kinds}
use Rattle.package.specs.Sums.{no_sum, sum, sum_form}
use Rattle.text.proofs.Bytewise.{within-bounds}
use Rattle.text.proofs.FieldTexts.{number-starts, starts-number, number-clear, word-starts, starts-word, word-clear, kind-starts, starts-kind}
use Rattle.text.proofs.PieceTexts.{joined-pieces, clear-pieces, pieces-first}
use Rattle.text.specs.Field.{none, some, got_of, num_then, none_word, some_word, got_word_of, word_then, word_last, rank, write_kind}
use Rattle.text.specs.Number.{number, write_number}
use Rattle.text.specs.Pieces.{Pieces, final, piece, onto, pieces, lines, fields, joined, Without, empty, apart, Clear, clears}
use Rattle.text.specs.Word.{WordField, no_word, word, word_of, write_word}

-- The first line, ended or not, and the bytes behind it.
unfoldable pub first : Pieces → List ℕ
first (final l) = l
first (piece l ls) = l

unfoldable after : Pieces → List ℕ
unfolding joined
after (final l) = []
after (piece l ls) = 10 ∷ joined 10 ls

-- The lines behind it, if it is ended.
pub data Behind : Type 0 where
  unended : Behind
  ended : Pieces → Behind

unfoldable pub behind : Pieces → Behind
behind (final l) = unended
behind (piece l ls) = ended ls

text-first : (t : List ℕ) → t ≡ first (lines t) ++ after (lines t)
unfolding joined first after
text-first t = sym (joined-pieces 10 t) ∙ go (lines t)
  where
    go : (ps : Pieces) → joined 10 ps ≡ first ps ++ after ps
    go (final l) = sym (append-nil l)
    go (piece l ls) = refl

-- One byte more in front.
one_more : (x : ℕ) (u : List ℕ) → (x ≡ 10 → ⊥) → (first (lines (x ∷ u)) ≡ x ∷ first (lines u)) × (behind (lines (x ∷ u)) ≡ behind (lines u))
unfolding pieces onto first behind
one_more x u n = rw (pieces, ne_eqb x 10 n) (go (pieces 10 u))
  where
    go : (ps : Pieces) → (first (onto x ps) ≡ x ∷ first ps) × (behind (onto x ps) ≡ behind ps)
    go (final l) = (refl, refl)
    go (piece l ls) = (refl, refl)

-- A field without a newline, and a space, in front.
field-more : {f : List ℕ} → Without 10 f → (u : List ℕ) → (first (lines (f ++ (32 ∷ u))) ≡ f ++ (32 ∷ first (lines u))) ×
    (behind (lines (f ++ (32 ∷ u))) ≡ behind (lines u))
field-more empty u = one_more 32 u (λ (e : 32 ≡ 10). omega arith)
field-more (apart {x} {xs} n w) u =
    let a = one_more x (xs ++ (32 ∷ u)) n in
    let b = field-more w u in
    (a.0 ∙ ap (λ (l : List ℕ). x ∷ l) b.0, a.1 ∙ b.1)

-- So the text and its line have the same first field, and the same behind it.
field-first : (t u f : List ℕ) → Without 10 f → Without 32 f → fields t ≡ piece f (fields u)
    → (fields (first (lines t)) ≡ piece f (fields (first (lines u)))) × (behind (lines t) ≡ behind (lines u))
unfolding joined
field-first t u f w v e =
    let q : t ≡ f ++ (32 ∷ u) = sym (joined-pieces 32 t) ∙ ap (joined 32) e ∙ ap (λ (m : List ℕ). f ++ (32 ∷ m)) (joined-pieces 32 u) in
    let p = field-more w u in (
      ap (λ (m : List ℕ). fields (first (lines m))) q ∙ ap (pieces 32) p.0 ∙ pieces-first 32 v (first (lines u)),
      ap (λ (m : List ℕ). behind (lines m)) q ∙ p.1,
    )

number-line : (t u : List ℕ) (v : ℕ) → num_then number (fields t) ≡ some v (fields u)
    → (num_then number (fields (first (lines t))) ≡ some v (fields (first (lines u)))) × (behind (lines t) ≡ behind (lines u))
number-line t u v a =
    let s = number-starts (fields t) v (fields u) a in
    let r = field-first t u (write_number v) (number-clear 10 v (lit< tt)) (number-clear 32 v (lit< tt)) s.0 in
    (ap (num_then number) r.0 ∙ starts-number v (fields (first (lines u))) s.1, r.1)

word_line : (t u w : List ℕ) → word_then (fields t) ≡ some_word w (fields u)
    → (word_then (fields (first (lines t))) ≡ some_word w (fields (first (lines u)))) × (behind (lines t) ≡ behind (lines u))
word_line t u w a =
    let s = word-starts (fields t) w (fields u) a in
    let r = field-first t u (write_word w) (word-clear 10 w (lit< tt) s.1) (word-clear 32 w (lit< tt) s.1) s.0 in
    (ap word_then r.0 ∙ starts-word w (fields (first (lines u))) s.1, r.1)

kind-line : (t u : List ℕ) (k : ℕ) → num_then (rank sum_kinds) (fields t) ≡ some k (fields u)
    → (num_then (rank sum_kinds) (fields (first (lines t))) ≡ some k (fields (first (lines u)))) × (behind (lines t) ≡ behind (lines u))
kind-line t u k a =
    let s = kind-starts sum_kinds (fields t) k (fields u) a in
    let b = within-bounds 1 3 k s.1 in
    let r = field-first t u (write_kind sum_kinds k) (kind-clear 10 k (lit< tt) b) (kind-clear 32 k (lit< tt) b) s.0 in
    (ap (num_then (rank sum_kinds)) r.0 ∙ starts-kind sum_kinds k (fields (first (lines u))) (known_kind k b), r.1)

-- The first field of a text that has another behind it stays where bytes are put behind the text.
first-without : {f : List ℕ} {qs : Pieces} → Clear 32 (piece f qs) → Without 32 f
first-without (clears w r) = w

field_stays : (l m f : List ℕ) (qs : Pieces) → fields l ≡ piece f qs → fields (l ++ m) ≡ piece f (fields (joined 32 qs ++ m))
unfolding joined
field_stays l m f qs e =
    let w = first-without (subst (Clear 32) e (clear-pieces 32 l)) in
    let q : l ≡ f ++ (32 ∷ joined 32 qs) = sym (joined-pieces 32 l) ∙ ap (joined 32) e in
    ap (λ (x : List ℕ). fields (x ++ m)) q ∙ ap (pieces 32) (append_assoc f (32 ∷ joined 32 qs) m) ∙ pieces-first 32 w (joined 32 qs ++ m)

field_of_line : (t f : List ℕ) (qs : Pieces) → fields (first (lines t)) ≡ piece f qs → fields t ≡ piece f (fields (joined 32 qs ++ after (lines t)))
field_of_line t f qs e = ap (pieces 32) (text-first t) ∙ field_stays (first (lines t)) (after (lines t)) f qs e

-- So what no reader takes in the text it does not take in the line.
num_refused : (form : List ℕ → Option ℕ) (t : List ℕ) → num_then form (fields t) ≡ none → num_then form (fields (first (lines t))) ≡ none
unfolding num_then got_of
num_refused form t a = go (fields (first (lines t))) refl
  where
    none_of : (n : Option ℕ) (ps qs : Pieces) → got_of n ps ≡ none → got_of n qs ≡ none
    none_of None ps qs h = refl
    none_of (Some v) ps qs h = absurd (let y : ◌≡◌ {A = ℕ} 0 1 = cc in omega arith)

    go : (ps : Pieces) → fields (first (lines t)) ≡ ps → num_then form (fields (first (lines t))) ≡ none
    go (final f) e = ap (num_then form) e
    go (piece f qs) e = ap (num_then form) e ∙ none_of (form f) _ qs (sym (ap (num_then form) (field_of_line t f qs e)) ∙ a)

word-refused : (t : List ℕ) → word_then (fields t) ≡ none_word → word_then (fields (first (lines t))) ≡ none_word
unfolding word_then got_word_of
word-refused t a = go (fields (first (lines t))) refl
  where
    none_of : (n : WordField) (ps qs : Pieces) → got_word_of n ps ≡ none_word → got_word_of n qs ≡ none_word
    none_of no_word ps qs h = refl
    none_of (word w) ps qs h = absurd (let y : ◌≡◌ {A = ℕ} 0 1 = cc in omega arith)

    go : (ps : Pieces) → fields (first (lines t)) ≡ ps → word_then (fields (first (lines t))) ≡ none_word
    go (final f) e = ap word_then e
    go (piece f qs) e = ap word_then e ∙ none_of (word_of f) _ qs (sym (ap word_then (field_of_line t f qs e)) ∙ a)

-- The last word, which a newline ends.
last-refused : (ps : Pieces) → word_then ps ≡ none_word → (behind ps ≡ unended) ⊎ (word_last (fields (first ps)) ≡ no_word)
unfolding word_then got_word_of first behind
last-refused (final l) a = inl refl
last-refused (piece l ls) a = inr (go (word_of l) refl a)
  where
    go : (n : WordField) → word_of l ≡ n → got_word_of n ls ≡ none_word → word_last (fields l) ≡ no_word
    go no_word e h = sym (word_of_last l) ∙ e
    go (word w) e h = absurd (let y : ◌≡◌ {A = ℕ} 0 1 = cc in omega arith)

last_line : (ps : Pieces) (w : List ℕ) (ls : Pieces) → word_then ps ≡ some_word w ls → (word_last (fields (first ps)) ≡ word w) × (behind ps ≡ ended ls)
unfolding word_then got_word_of first behind
last_line (final l) w ls a = absurd (let y : ◌≡◌ {A = ℕ} 0 1 = cc in omega arith)
last_line (piece l ms) w ls a = go (word_of l) refl a
  where
    go : (n : WordField) → word_of l ≡ n → got_word_of n ms ≡ some_word w ls → (word_last (fields l) ≡ word w) × (ended ms ≡ ended ls)
    go no_word e h = absurd (let y : ◌≡◌ {A = ℕ} 0 1 = cc in omega arith)
    go (word v) e h =
        let p : v ≡ w = cc in
        let q : ms ≡ ls = cc in
        (sym (word_of_last l) ∙ e ∙ ap word p, ap ended q)

-- The first line as a sum line.
line_unended : (s : List ℕ) (ps : Pieces) → behind ps ≡ unended → seen_sum s None ≡ next_sum ps
unfolding seen_sum next_sum behind
line_unended s (final l) h = refl
line_unended s (piece l ls) h = absurd (let y : ◌≡◌ {A = ℕ} 0 1 = cc in omega arith)

line_refused : (s : List ℕ) (ps : Pieces) → no_sum ≡ sum_form (fields (first ps)) → seen_sum s None ≡ next_sum ps
unfolding seen_sum next_sum got_sum_of first
line_refused s (final l) h = refl
line_refused s (piece l ls) h = ap (λ x. got_sum_of x ls) h

line-whole : (ps : Pieces) (k i c : ℕ) (l : List ℕ) (o : ℕ) (r : List ℕ) (ls : Pieces) → sum k i c l o r ≡ sum_form (fields (first ps)) → behind ps ≡ ended ls
    → some_sum k i c l o r ls ≡ next_sum ps
unfolding next_sum got_sum_of first behind
line-whole (final x) k i c l o r ls h e = absurd (let y : ◌≡◌ {A = ℕ} 0 1 = cc in omega arith)
line-whole (piece x ms) k i c l o r ls h e = let q : ls ≡ ms = cc in ap₂ got_sum_of h q

-- The six fields, in the text.
module _ (t : List ℕ) where
  pub line-kind : (s : List ℕ) → num_then (rank sum_kinds) (fields t) ≡ none → seen_sum s None ≡ next_sum (lines t)
  line-kind s a = line_refused s (lines t) (sum-kind (fields (first (lines t))) (num_refused (rank sum_kinds) t a))

  module _ (k : ℕ) (t₁ : List ℕ) (a : num_then (rank sum_kinds) (fields t) ≡ some k (fields t₁)) where
    pub line-item : (s : List ℕ) → num_then number (fields t₁) ≡ none → seen_sum s None ≡ next_sum (lines t)
    line-item s b = line_refused s (lines t) (sum-item (fields (first (lines t))) k (fields (first (lines t₁))) (kind-line t t₁ k a).0 (num_refused number t₁ b))

    module _ (i : ℕ) (t₂ : List ℕ) (b : num_then number (fields t₁) ≡ some i (fields t₂)) where
      pub line-coef : (s : List ℕ) → num_then number (fields t₂) ≡ none → seen_sum s None ≡ next_sum (lines t)
      line-coef s c =
          line_refused s (lines t)
          (sum-coef (fields (first (lines t))) k (fields (first (lines t₁))) (kind-line t t₁ k a).0 i (fields (first (lines t₂))) (number-line t₁ t₂ i b).0
          (num_refused number t₂ c))

      module _ (m : ℕ) (t₃ : List ℕ) (c : num_then number (fields t₂) ≡ some m (fields t₃)) where
        pub line-left : (s : List ℕ) → word_then (fields t₃) ≡ none_word → seen_sum s None ≡ next_sum (lines t)
        line-left s d =
            line_refused s (lines t)
            (sum_left (fields (first (lines t))) k (fields (first (lines t₁))) (kind-line t t₁ k a).0 i (fields (first (lines t₂))) (number-line t₁ t₂ i b).0
            m (fields (first (lines t₃))) (number-line t₂ t₃ m c).0 (word-refused t₃ d))

        module _ (l t₄ : List ℕ) (d : word_then (fields t₃) ≡ some_word l (fields t₄)) where
          pub line_of : (s : List ℕ) → num_then number (fields t₄) ≡ none → seen_sum s None ≡ next_sum (lines t)
          line_of s e =
              line_refused s (lines t)
              (sum_of (fields (first (lines t))) k (fields (first (lines t₁))) (kind-line t t₁ k a).0 i (fields (first (lines t₂))) (number-line t₁ t₂ i b).0
              m (fields (first (lines t₃))) (number-line t₂ t₃ m c).0 l (fields (first (lines t₄))) (word_line t₃ t₄ l d).0 (num_refused number t₄ e))

          module _ (o : ℕ) (t₅ : List ℕ) (e : num_then number (fields t₄) ≡ some o (fields t₅)) where
            same-behind : behind (lines t) ≡ behind (lines t₅)
            same-behind = (kind-line t t₁ k a).1 ∙ (number-line t₁ t₂ i b).1 ∙ (number-line t₂ t₃ m c).1 ∙ (word_line t₃ t₄ l d).1 ∙ (number-line t₄ t₅ o e).1

            pub line-right : (s : List ℕ) → word_then (lines t₅) ≡ none_word → seen_sum s None ≡ next_sum (lines t)
            line-right s f =
                ⊎_elim (λ u. line_unended s (lines t) (same-behind ∙ u))
                (λ u.
                line_refused s (lines t)
                (sum-right (fields (first (lines t))) k (fields (first (lines t₁))) (kind-line t t₁ k a).0 i (fields (first (lines t₂)))
                (number-line t₁ t₂ i b).0 m (fields (first (lines t₃))) (number-line t₂ t₃ m c).0 l (fields (first (lines t₄))) (word_line t₃ t₄ l d).0
                o (fields (first (lines t₅))) (number-line t₄ t₅ o e).0 u))
                (last-refused (lines t₅) f)

            module _ (r : List ℕ) (ls : Pieces) (f : word_then (lines t₅) ≡ some_word r ls) where
              pub line-sum : some_sum k i m l o r ls ≡ next_sum (lines t)
              line-sum =
                  let u = last_line (lines t₅) r ls f in
                  line-whole (lines t) k i m l o r ls
                  (sum-whole (fields (first (lines t))) k (fields (first (lines t₁))) (kind-line t t₁ k a).0 i (fields (first (lines t₂)))
                  (number-line t₁ t₂ i b).0 m (fields (first (lines t₃))) (number-line t₂ t₃ m c).0 l (fields (first (lines t₄))) (word_line t₃ t₄ l d).0
                  o (fields (first (lines t₅))) (number-line t₄ t₅ o e).0 r u.0) (same-behind ∙ u.1)

              pub line-behind : behind (lines t) ≡ ended ls
              line-behind = same-behind ∙ (last_line (lines t₅) r ls f).1

-- The line behind starts further on.
pub further : (s : List ℕ) (at e : ℕ) → at ≤ length s → e ≤ length s → behind (lines (drop at s)) ≡ ended (lines (drop e s)) → at < e
unfolding joined behind
further s at e h k q = go (lines (drop at s)) refl q
  where
    go : (ps : Pieces) → lines (drop at s) ≡ ps → behind ps ≡ ended (lines (drop e s)) → at < e
    go (final l) p u = absurd (let y : ◌≡◌ {A = ℕ} 0 1 = cc in omega arith)
    go (piece l ls) p u =
        let v : ls ≡ lines (drop e s) = cc in
        let x : joined 10 ls ≡ drop e s = ap (joined 10) v ∙ joined-pieces 10 (drop e s) in
        let w : drop at s ≡ l ++ (10 ∷ drop e s) = sym (joined-pieces 10 (drop at s)) ∙ ap (joined 10) p ∙ ap (λ (m : List ℕ). l ++ (10 ∷ m)) x in
        let z : length s - at ≡ length l + suc (length s - e) =
        sym (length-drop at s) ∙ ap length w ∙ length-append l (10 ∷ drop e s) ∙ ap (λ n. length l + suc n) (length-drop e s) in
        omega arith
