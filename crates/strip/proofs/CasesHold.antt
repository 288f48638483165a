-- The worked example holds by computation.
use mathlib.Core.Path.{refl}
use Rattle.octets.specs.Octets.{big_endian, complement, from_complement, joined, number_after, parted}
use Rattle.strip.specs.Cases.{DecodedCase, EncodedCase, OldDecodedCase}
use Rattle.strip.specs.Format.{azimuths_in, encode, fields, header_in, header_numbers}

pub encoded_case : EncodedCase
unfolding encode header_numbers joined big_endian complement
encoded_case = refl

pub decoded_case : DecodedCase
unfolding fields header_in azimuths_in parted number_after from_complement
decoded_case = refl

pub old_decoded_case : OldDecodedCase
unfolding fields header_in azimuths_in parted number_after from_complement
old_decoded_case = refl
