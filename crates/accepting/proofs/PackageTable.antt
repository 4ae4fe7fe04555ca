-- A package that was read, and its table: what 8 refuses is refused, what the check asks holds of the table, and what it answers is the
-- package's acceptance.
use mathlib.Core.Path.{◌≡◌, refl, sym, ◌∙◌, ap, subst}
use mathlib.Core.List.{List}
use Prim.Native.Nat.{ℕ, ◌+◌}
use lib.ListN.{length}
use Rattle.std.specs.Prelude.{Result, Ok, Err}
use Rattle.words.specs.Order.{word_order}
use Rattle.field.specs.Field.{field_of}
use Rattle.algebra.specs.Poly.{Poly}
use Rattle.overlaps.specs.Overlaps.{leads, overlaps}
use Rattle.working.specs.Family.{family_at}
use Rattle.package.specs.declared.Head.{Head}
use Rattle.package.specs.declared.Refusal.{Refusal}
use Rattle.package.specs.Package.{Package, refused, read}
use Rattle.package.specs.Readable.{Readable}
use Rattle.package.specs.Sums.{SumLine}
use Rattle.package.proofs.PackageTexts.{reads-written}
use Rattle.acceptance.specs.Content.{relations, basis}
use Rattle.acceptance.specs.Check.{Verdict, refusal, fine, then_judge, basis_judged, sums_verdict, checked}
use Rattle.acceptance.specs.Acceptance.{judged_by, acceptance}
use Rattle.overlapsearch.specs.declared.leading.LeadingWords.{LeadingWords}
use Rattle.overlapsearch.specs.Leading.{words_in}
use Rattle.sumlines.specs.Lines.{sums_at}
use Rattle.sumorder.specs.Reached.{SumsStart}
use Rattle.sumorder.proofs.Row.{then-refused, then-fine}
use Rattle.table.specs.Table.{prime_in, letters_in, gens_in, basis_count_in, field_in, order_in}
use Rattle.table.specs.Polynomials.{relations_in, basis_in}
use Rattle.table.specs.Tabled.{Tabled}
use Rattle.tablesums.specs.Heading.{head_in}
use Rattle.tablesums.specs.Leading.{LeadsIn}
use Rattle.lapsums.specs.Answer.{answer_of}
use Rattle.accepting.specs.Accepted.{TableAccepted, Accepts}
use Rattle.accepting.proofs.PackageRead.{PackageRead}

-- Equal fields, polynomials and lines have one verdict.
same-sums : {p q : ℕ} {rs ts ps qs : List Poly} {xs ys : List SumLine} → p ≡ q → rs ≡ ts → ps ≡ qs → xs ≡ ys
    → sums_verdict (field_of p) word_order rs ps xs ≡ sums_verdict (field_of q) word_order ts qs ys
same-sums e f g h = rw (e, f, g, h)

-- The table holds the head and the polynomials that lie in the slices, and no basis polynomial is zero.
pub record TableHolds (bytes cs os ls fs : List ℕ) (h : Head) (t : List ℕ) : Type 0 where
  pub tabled : Tabled t
  pub prime : prime_in t ≡ h.p
  pub letters : letters_in t ≡ h.letters
  pub gens : gens_in t ≡ h.gens
  pub count : basis_count_in t ≡ h.basis
  pub relations : relations_in t ≡ family_at cs os ls bytes fs 1 h.gens
  pub basis : basis_in t ≡ family_at cs os ls bytes fs (h.gens + 1) h.basis
  pub sound : basis_judged (family_at cs os ls bytes fs (h.gens + 1) h.basis) ≡ fine

module _ {bytes cs os ls fs : List ℕ} {h : Head} {m at n : ℕ} (r : PackageRead bytes cs os ls fs h m at n) where
  abbrev P : Package
  P = r.whole

  abbrev polys : List Poly
  polys = family_at cs os ls bytes fs (h.gens + 1) h.basis

  abbrev sums : Verdict
  sums = sums_verdict (field_of P.head.p) word_order (relations P) (basis P) P.sums

  readable : Readable P
  readable = (reads-written P bytes r.reads).0

  -- what is judged of the package
  judged : (v : Verdict) → then_judge (basis_judged (basis P)) sums ≡ v → acceptance bytes ≡ elim v [ refusal a b ↦ refused a b | fine ↦ read P ]
  unfolding acceptance judged_by checked
  judged v q = rw (acceptance, r.reads, judged_by, checked, q)

  -- What 8 refuses is refused.
  pub unsound_refused : (a b : ℕ) → basis_judged polys ≡ refusal a b → acceptance bytes ≡ refused a b
  unsound_refused a b q = judged (refusal a b) (then-refused (basis_judged (basis P)) sums a b (rw r.basis at q))

  -- The table holds the package.
  module _ {t : List ℕ} (T : TableHolds bytes cs os ls fs h t) where
    head_is : head_in t ≡ h
    head_is = rw (T.prime, T.letters, T.gens, T.count)

    relations_are : relations_in t ≡ relations P
    relations_are = T.relations ∙ r.relations

    basis_is : basis_in t ≡ basis P
    basis_is = T.basis ∙ r.basis

    fine-basis : basis_judged (basis P) ≡ fine
    fine-basis = rw r.basis at T.sound

    -- What the check asks.
    pub begins_in : SumsStart (head_in t) bytes at n
    begins_in = subst (λ (k : Head). SumsStart k bytes at n) (sym head_is) r.begins

    pub heads_in : (words : LeadingWords) → words.count ≡ h.basis → words_in words ≡ leads polys → LeadsIn t words
    heads_in words count leading = record { count = count ∙ sym T.count; leading = leading ∙ ap leads (sym T.basis) }

    -- What it answers.
    abbrev verdict : Verdict
    verdict = sums_verdict (field_in t) (order_in t) (relations_in t) (basis_in t) (sums_at bytes at n)

    verdict_is : verdict ≡ then_judge (basis_judged (basis P)) sums
    verdict_is =
        same-sums (T.prime ∙ ap (λ (k : Head). k.p) (sym r.head)) relations_are basis_is r.sums
        ∙ sym (then-fine (basis_judged (basis P)) sums fine-basis)

    -- What the check refuses is refused.
    pub rejected_refused : (count : ℕ) (r : Refusal) → Err r ≡ answer_of verdict count → acceptance bytes ≡ refused r.number r.place
    unfolding answer_of
    rejected_refused count r q = go verdict refl q
      where
        go : (v : Verdict) → verdict ≡ v → Err r ≡ answer_of v count → acceptance bytes ≡ refused r.number r.place
        go (refusal i j) z q = let e : r ≡ record { number = i; place = j } = cc in rw e (judged (refusal i j) (sym verdict_is ∙ z))
        go fine z q = absurd cc

    -- What the check accepts is accepted, with the count of its overlaps and inclusions.
    pub accepted-taken : (count c : ℕ) → Ok c ≡ answer_of verdict count → TableAccepted bytes t × (c ≡ count)
    unfolding answer_of
    accepted-taken count c q = go verdict refl q
      where
        go : (v : Verdict) → verdict ≡ v → Ok c ≡ answer_of v count → TableAccepted bytes t × (c ≡ count)
        go (refusal i j) z q = absurd cc
        go fine z q = (
          record {
            whole = P;
            accepted = judged fine (sym verdict_is ∙ z);
            readable = readable;
            tabled = T.tabled;
            head = r.head ∙ sym head_is;
            relations = relations_are;
            basis = basis_is;
          },
          cc,
        )

    -- The check's answer is right for the bytes and the table.
    pub checked_accepts : (a : Result ℕ Refusal) → a ≡ answer_of verdict (length (overlaps (leads (basis_in t)))) → Accepts bytes t a
    unfolding Accepts
    checked_accepts (Err x) q = rejected_refused _ x q
    checked_accepts (Ok c) q = accepted-taken _ c q
