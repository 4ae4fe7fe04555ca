-- Listing's answer, case by case: a basis that is refused, and one that is not.
use mathlib.Core.Path.{◌≡◌, refl, sym, ◌∙◌, ap}
use mathlib.Core.List.{List}
use Prim.Native.Nat.{ℕ}
use Rattle.words.specs.Word.{Word}
use Rattle.algebra.specs.Poly.{Poly}
use Rattle.overlaps.specs.Overlaps.{leads}
use Rattle.overlaps.specs.Listing.{overlap_text}
use Rattle.package.specs.Package.{Package, Outcome, refused, read, read_package}
use Rattle.acceptance.specs.Content.{basis}
use Rattle.acceptance.specs.Check.{Verdict, refusal, fine, basis_judged}
use Rattle.services.proofs.Room.{refused_list}
use Rattle.acceptance.specs.Acceptance.{judged_by}
use Rattle.services.specs.Services.{listable, words_listed, fitted, list_answer, list_output, listed_as, listed_into}
use Rattle.listing.specs.ListingParts.{verdict_listed, verdict_output, basis_listed, basis_output}

-- A basis that is refused by 8, and one that is not.
module _ (ps : List Poly) where
  module _ (n k : ℕ) (e : basis_judged ps ≡ refusal n k) where
    pub refused_listed : (room : ℕ) → basis_listed room ps ≡ refused_list n k
    unfolding verdict_listed
    refused_listed room = ap (verdict_listed room ps) e

    pub refused-kept : (out : List ℕ) → basis_output out ps ≡ out
    unfolding verdict_output
    refused-kept out = ap (verdict_output out ps) e

  module _ (ws : List Word) (w : ws ≡ leads ps) (e : basis_judged ps ≡ fine) where
    pub fine_listed : (room : ℕ) → basis_listed room ps ≡ words_listed room ws
    unfolding verdict_listed
    fine_listed room = ap (verdict_listed room ps) e ∙ ap (words_listed room) (sym w)

    pub fine-written : (out : List ℕ) → basis_output out ps ≡ fitted (overlap_text ws) out
    unfolding verdict_output
    fine-written out = ap (verdict_output out ps) e ∙ ap (λ (us : List Word). fitted (overlap_text us) out) (sym w)

-- A package that does not read.
pub unread_listed : (bytes : List ℕ) (n k room : ℕ) → refused n k ≡ read_package bytes → listed_as bytes room ≡ refused_list n k
unfolding listed_as list_answer listable judged_by
unread_listed bytes n k room e = ap (λ (o : Outcome). list_answer room (judged_by (λ (P : Package). basis_judged (basis P)) o)) (sym e)

pub unread_kept : (bytes out : List ℕ) (n k : ℕ) → refused n k ≡ read_package bytes → listed_into bytes out ≡ out
unfolding listed_into list_output listable judged_by
unread_kept bytes out n k e = ap (λ (o : Outcome). list_output out (judged_by (λ (P : Package). basis_judged (basis P)) o)) (sym e)

-- A package that reads: what is listed is its basis.
pub read_listed : (bytes : List ℕ) (P : Package) (room : ℕ) → read P ≡ read_package bytes → listed_as bytes room ≡ basis_listed room (basis P)
unfolding listed_as list_answer listable judged_by verdict_listed
read_listed bytes P room e = ap (λ (o : Outcome). list_answer room (judged_by (λ (Q : Package). basis_judged (basis Q)) o)) (sym e) ∙ go (basis_judged (basis P))
  where
    go : (v : Verdict) → list_answer room (elim v [ refusal n k ↦ refused n k | fine ↦ read P ]) ≡ verdict_listed room (basis P) v
    go (refusal n k) = refl
    go fine = refl

pub read-written : (bytes out : List ℕ) (P : Package) → read P ≡ read_package bytes → listed_into bytes out ≡ basis_output out (basis P)
unfolding listed_into list_output listable judged_by verdict_output
read-written bytes out P e = ap (λ (o : Outcome). list_output out (judged_by (λ (Q : Package). basis_judged (basis Q)) o)) (sym e) ∙ go (basis_judged (basis P))
  where
    go : (v : Verdict) → list_output out (elim v [ refusal n k ↦ refused n k | fine ↦ read P ]) ≡ verdict_output out (basis P) v
    go (refusal n k) = refl
    go fine = refl
