-- What `field_of 256` computes at some numbers.
use mathlib.Core.Path.{◌≡◌, refl}
use Rattle.field.specs.ByteField.{byte_sum, times_x, byte_times, byte_power}
use Rattle.field.specs.Field.{gf256, field_of}

-- x × x^7 is x^8, the byte 29; 142 is the inverse of x; the square of all eight powers together; a sum has no carry; and an inverse
pub byte_values : ((field_of 256).mul 2 128 ≡ 29) × ((field_of 256).mul 2 142 ≡ 1) × ((field_of 256).mul 255 255 ≡ 226) × ((field_of 256).add 255 1 ≡ 254) × ((field_of 256).inv 3 ≡ 244)
unfolding field_of gf256 byte_times byte_power times_x byte_sum
byte_values = (refl, refl, refl, refl, refl)
