-- Every row of the tables of examples (specs/Examples.antt) holds, by computation.
use mathlib.Core.Path.{◌≡◌, refl}
use native.Mathlib.Decide.{dec_lt}
use lib.Dec.{lit<}
use Rattle.field.specs.ByteField.{byte_sum, times_x, byte_times, byte_power}
use Rattle.lists.specs.All.{All, done, ◌also◌}
use Rattle.words.specs.Order.{word_order}
use Rattle.text.specs.Number.{write_number}
use Rattle.text.specs.Word.{word_of, write_word}
use Rattle.package.specs.Examples.{package_e}
use Rattle.package.specs.Package.{Package, read, read_package}
use Rattle.package.specs.Writing.{write_formula}
use Rattle.overlaps.specs.Overlaps.{leads, overlaps}
use Rattle.overlaps.specs.Listing.{overlap_text}
use Rattle.acceptance.specs.Content.{basis}
use Rattle.acceptance.specs.Acceptance.{acceptance}
use Rattle.acceptance.specs.Reduction.{package_reduced}
use Rattle.services.specs.Services.{listable, checked_as}
use Rattle.services.specs.Demands.{AcceptedAs}
use Rattle.services.specs.Examples.{Keeps, Empties, Claim, examples, package_none, package_one, edges, package256, byte_rows, package_scaled, scaled_rows}
use Rattle.services.specs.UntrimmedExamples.{package_untrimmed, package_constants, package_twice, untrimmed_rows}
use Rattle.services.proofs.TrivialBases.{none_keeps, one_empties}
use Rattle.services.proofs.Rows.{shortens, is_member, refuses, lacks_room, is_above, lists, accepts}

-- What the check and listing take each package for, computed once.
accepted_e : (P : Package) × (acceptance package_e ≡ read P)
unfolding acceptance package_e dec_lt
accepted_e = (_, refl)

listable_e : (P : Package) × (listable package_e ≡ read P)
unfolding listable package_e
listable_e = (_, refl)

accepted_none : (P : Package) × (acceptance package_none ≡ read P)
unfolding acceptance package_none
accepted_none = (_, refl)

accepted_one : (P : Package) × (acceptance package_one ≡ read P)
unfolding acceptance package_one dec_lt
accepted_one = (_, refl)

accepted256 : (P : Package) × (acceptance package256 ≡ read P)
unfolding acceptance package256 byte_sum times_x byte_times byte_power
accepted256 = (_, refl)

accepted_scaled : (P : Package) × (acceptance package_scaled ≡ read P)
unfolding acceptance package_scaled dec_lt
accepted_scaled = (_, refl)

accepted_untrimmed : (P : Package) × (acceptance package_untrimmed ≡ read P)
unfolding acceptance package_untrimmed dec_lt
accepted_untrimmed = (_, refl)

listable_untrimmed : (P : Package) × (listable package_untrimmed ≡ read P)
unfolding listable package_untrimmed
listable_untrimmed = (_, refl)

listable_constants : (P : Package) × (listable package_constants ≡ read P)
unfolding listable package_constants
listable_constants = (_, refl)

listable_twice : (P : Package) × (listable package_twice ≡ read P)
unfolding listable package_twice
listable_twice = (_, refl)

-- No relations and no basis: each formula is its own short form.
accepted_as_none : AcceptedAs package_none accepted_none.0
unfolding accepted_none read_package checked_as package_none
accepted_as_none = record { reads = refl; answered = refl }

keeps_none : Keeps package_none
unfolding accepted_none basis
keeps_none = record { content = accepted_none.0; accepted = accepted_as_none; unchanged = λ text f r. none_keeps package_none accepted_none.0 accepted_as_none text f r refl }

-- A constant relation with basis 1: every formula comes to zero.
accepted_as_one : AcceptedAs package_one accepted_one.0
unfolding accepted_one read_package checked_as package_one
accepted_as_one = record { reads = refl; answered = refl }

empties_one : Empties package_one
unfolding accepted_one basis write_formula
empties_one = record { content = accepted_one.0; accepted = accepted_as_one; to_zero = λ text f r. one_empties package_one accepted_one.0 accepted_as_one text f r refl }

-- 01's table of the rows marked †.
pub examples_hold : All Claim examples
unfolding Claim examples accepted_e listable_e dec_lt package_reduced write_formula write_number write_word word_of word_order overlaps leads basis overlap_text
examples_hold =
    shortens accepted_e.1 refl refl
    also shortens accepted_e.1 refl refl
    also shortens accepted_e.1 refl refl
    also shortens accepted_e.1 refl refl
    also shortens accepted_e.1 refl refl
    also shortens accepted_e.1 refl refl
    also is_above refl refl refl
    also is_above refl refl refl
    also is_above refl refl refl
    also lists listable_e.1 refl refl
    also accepts accepted_e.1 refl
    also done

-- The rows that 01 does not mark.
pub edges_hold : All Claim edges
unfolding Claim edges accepted_e accepted_none accepted_one dec_lt package_reduced write_formula write_number write_word overlaps leads basis
edges_hold =
    refuses accepted_e.1 refl
    also shortens accepted_e.1 refl refl
    also lacks_room accepted_e.1 refl refl (lit< tt)
    also refuses accepted_e.1 refl
    also is_member accepted_e.1 refl
    also is_member accepted_e.1 refl
    also accepts accepted_none.1 refl
    also shortens accepted_none.1 refl refl
    also keeps_none
    also accepts accepted_one.1 refl
    also shortens accepted_one.1 refl refl
    also empties_one
    also done

-- The rows over GF(256).
pub byte_rows_hold : All Claim byte_rows
unfolding Claim byte_rows accepted256 byte_sum times_x byte_times byte_power package_reduced write_formula write_number write_word overlaps leads basis
byte_rows_hold =
    accepts accepted256.1 refl
    also shortens accepted256.1 refl refl
    also shortens accepted256.1 refl refl
    also shortens accepted256.1 refl refl
    also is_member accepted256.1 refl
    also refuses accepted256.1 refl
    also done

-- The rows with leading coefficients other than 1.
pub scaled-rows_hold : All Claim scaled_rows
unfolding Claim scaled_rows accepted_scaled dec_lt package_reduced write_formula write_number write_word overlaps leads basis
scaled-rows_hold =
    accepts accepted_scaled.1 refl
    also shortens accepted_scaled.1 refl refl
    also shortens accepted_scaled.1 refl refl
    also shortens accepted_scaled.1 refl refl
    also is_member accepted_scaled.1 refl
    also done

-- The rows of bases that are not trimmed.
pub untrimmed_rows_hold : All Claim untrimmed_rows
unfolding Claim untrimmed_rows accepted_untrimmed listable_untrimmed listable_constants listable_twice dec_lt package_reduced write_formula write_number write_word overlaps leads basis overlap_text
untrimmed_rows_hold =
    accepts accepted_untrimmed.1 refl
    also lists listable_untrimmed.1 refl refl
    also shortens accepted_untrimmed.1 refl refl
    also shortens accepted_untrimmed.1 refl refl
    also is_member accepted_untrimmed.1 refl
    also lists listable_constants.1 refl refl
    also lists listable_twice.1 refl refl
    also done
